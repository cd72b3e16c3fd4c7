use Rattle.std.proofs.Common.{◌≡◌, ◌∙◌, ◌<◌, sym, ap, arith}
use Rattle.std.specs.Prelude.{is_some}
use Rattle.cop_bus.specs.Trace.{step_at}
use Rattle.cop_bus.specs.Judge.{id_of, stream_of, is_queued_in_time, is_of_length, broken_in_turn}
use Rattle.cop_bus.proofs.Verdict.{broken-62, broken-63, broken-64, broken-later}
use Rattle.cop_bus.proofs.SyncTable.{its_stream, its_anchors, its_period}
use Rattle.cop_bus.proofs.judging.broken_by.Goals as goal

pub returns-then-not-is_period_later-clause-least : goal.returns-then-not-is_period_later-clause-least
returns-then-not-is_period_later-clause-least c =
    let steps = c.args.steps.now in
    let i = c.args.i in
    let x = step_at steps i in
    let streams = c.args.streams.now in
    let o = c.stream_of-stream.result in
    let read = c.index.result.now in
    let from = c.from.result in
    let id : from ≡ id_of x = c.from.ensures ∙ c.id_of-id.ensures in
    let fits : from < 65536 = omega (arith, c.from.ensures, c.id_of-id.type_inv) in
    let there = c.stream_of-stream.ensures ∙ ap (stream_of streams) (sym c.from.ensures) in
    let same = its_stream c.args.ticks streams steps i x c.args.tables.now from o read c.requires.tables id fits there c.index.ensures in
    let anchors = its_anchors c.args.ticks streams steps i x c.args.tables.now from o read c.requires.tables id fits there c.index.ensures in
    let order = sym c.if-not-is_in_order.ensures in
    let known = sym (ap is_some same) ∙ c.if-is_none.ensures in
    let period = sym (its_period c.args.ticks streams steps i x c.args.tables.now from o read c.requires.tables id fits there c.index.ensures) ∙ sym (c.is_period_later.ensures steps i anchors) ∙ c.if-not-is_period_later.true in
    sym (broken-62 c.args.ticks streams c.args.until steps i x order known period)

pub returns-then-not-is_queued_in_time-clause-least : goal.returns-then-not-is_queued_in_time-clause-least
returns-then-not-is_queued_in_time-clause-least c =
    let steps = c.args.steps.now in
    let i = c.args.i in
    let x = step_at steps i in
    let streams = c.args.streams.now in
    let o = c.stream_of-stream.result in
    let read = c.index.result.now in
    let from = c.from.result in
    let id : from ≡ id_of x = c.from.ensures ∙ c.id_of-id.ensures in
    let fits : from < 65536 = omega (arith, c.from.ensures, c.id_of-id.type_inv) in
    let there = c.stream_of-stream.ensures ∙ ap (stream_of streams) (sym c.from.ensures) in
    let same = its_stream c.args.ticks streams steps i x c.args.tables.now from o read c.requires.tables id fits there c.index.ensures in
    let anchors = its_anchors c.args.ticks streams steps i x c.args.tables.now from o read c.requires.tables id fits there c.index.ensures in
    let order = sym c.if-not-is_in_order.ensures in
    let known = sym (ap is_some same) ∙ c.if-is_none.ensures in
    let period = sym (its_period c.args.ticks streams steps i x c.args.tables.now from o read c.requires.tables id fits there c.index.ensures) ∙ sym (c.is_period_later.ensures steps i anchors) ∙ c.if-not-is_period_later.false in
    let time = sym (ap (λ o. is_queued_in_time o steps i x) same) ∙ sym (c.is_queued_in_time.ensures steps i anchors) ∙ c.if-not-is_queued_in_time.true in
    sym (broken-63 c.args.ticks streams c.args.until steps i x order known period time)

pub returns-then-not-is_of_length-clause-least : goal.returns-then-not-is_of_length-clause-least
returns-then-not-is_of_length-clause-least c =
    let steps = c.args.steps.now in
    let i = c.args.i in
    let x = step_at steps i in
    let streams = c.args.streams.now in
    let o = c.stream_of-stream.result in
    let read = c.index.result.now in
    let from = c.from.result in
    let id : from ≡ id_of x = c.from.ensures ∙ c.id_of-id.ensures in
    let fits : from < 65536 = omega (arith, c.from.ensures, c.id_of-id.type_inv) in
    let there = c.stream_of-stream.ensures ∙ ap (stream_of streams) (sym c.from.ensures) in
    let same = its_stream c.args.ticks streams steps i x c.args.tables.now from o read c.requires.tables id fits there c.index.ensures in
    let anchors = its_anchors c.args.ticks streams steps i x c.args.tables.now from o read c.requires.tables id fits there c.index.ensures in
    let order = sym c.if-not-is_in_order.ensures in
    let known = sym (ap is_some same) ∙ c.if-is_none.ensures in
    let period = sym (its_period c.args.ticks streams steps i x c.args.tables.now from o read c.requires.tables id fits there c.index.ensures) ∙ sym (c.is_period_later.ensures steps i anchors) ∙ c.if-not-is_period_later.false in
    let time = sym (ap (λ o. is_queued_in_time o steps i x) same) ∙ sym (c.is_queued_in_time.ensures steps i anchors) ∙ c.if-not-is_queued_in_time.false in
    let long = sym (ap (λ o. is_of_length o x) same) ∙ sym c.is_of_length.ensures ∙ c.if-not-is_of_length.true in
    sym (broken-64 c.args.ticks streams c.args.until steps i x order known period time long)

pub returns-else-not-is_of_length-clause-least : goal.returns-else-not-is_of_length-clause-least
returns-else-not-is_of_length-clause-least c =
    let steps = c.args.steps.now in
    let i = c.args.i in
    let x = step_at steps i in
    let streams = c.args.streams.now in
    let o = c.stream_of-stream.result in
    let read = c.index.result.now in
    let from = c.from.result in
    let id : from ≡ id_of x = c.from.ensures ∙ c.id_of-id.ensures in
    let fits : from < 65536 = omega (arith, c.from.ensures, c.id_of-id.type_inv) in
    let there = c.stream_of-stream.ensures ∙ ap (stream_of streams) (sym c.from.ensures) in
    let same = its_stream c.args.ticks streams steps i x c.args.tables.now from o read c.requires.tables id fits there c.index.ensures in
    let anchors = its_anchors c.args.ticks streams steps i x c.args.tables.now from o read c.requires.tables id fits there c.index.ensures in
    let order = sym c.if-not-is_in_order.ensures in
    let known = sym (ap is_some same) ∙ c.if-is_none.ensures in
    let period = sym (its_period c.args.ticks streams steps i x c.args.tables.now from o read c.requires.tables id fits there c.index.ensures) ∙ sym (c.is_period_later.ensures steps i anchors) ∙ c.if-not-is_period_later.false in
    let time = sym (ap (λ o. is_queued_in_time o steps i x) same) ∙ sym (c.is_queued_in_time.ensures steps i anchors) ∙ c.if-not-is_queued_in_time.false in
    let long = sym (ap (λ o. is_of_length o x) same) ∙ sym c.is_of_length.ensures ∙ c.if-not-is_of_length.false in
    c.broken_in_turn.ensures streams c.requires.tables.waiting ∙ ap (λ r. broken_in_turn c.args.ticks streams steps i r x) c.requires.running ∙ sym (broken-later c.args.ticks streams c.args.until steps i x order known period time long)
