use Rattle.std.proofs.Common.{◌≡◌, ◌+◌, ◌∙◌, suc, drop, subst, sym, ap, arith, Some, true, false}
use Rattle.cop_bus.specs.Late.{first_late, first_late_from, is_late}
use Rattle.cop_bus.specs.Trace.{step_at}
use Rattle.cop_bus.proofs.LateLemmas.{late-split}
use Rattle.cop_bus.proofs.Sent.{late-by_table}
use Rattle.cop_bus.proofs.lateness.first_late_step.Goals as goal

pub returns-then-is_late : goal.returns-then-is_late
returns-then-is_late c =
    let t = late-by_table c.args.ticks c.args.streams.now c.args.until c.args.steps.now c.args.links.now c.loop-i.i c.id_of.result c.stream_of-stream.result c.is_late.result c.requires c.loop-i-test.true c.id_of.ensures c.stream_of-stream.ensures (c.is_late.ensures ∙ ap (λ o. is_late c.args.ticks c.args.until c.stream_of-stream.result o (step_at c.args.steps.now c.loop-i.i)) c.start_at-start.ensures) in
    let s = late-split c.args.ticks c.args.streams.now c.args.until c.args.steps.now c.loop-i.i true c.loop-i-test.true (sym c.if-is_late.true ∙ t) in
    let n : c.loop-i.i + 1 ≡ suc c.loop-i.i = omega arith in
    ap (λ k. Some k) n ∙ sym s ∙ c.loop-i.invariant

pub loop-i-preserved : goal.loop-i-preserved
loop-i-preserved c =
    let t = late-by_table c.args.ticks c.args.streams.now c.args.until c.args.steps.now c.args.links.now c.loop-i.i c.id_of.result c.stream_of-stream.result c.is_late.result c.requires c.loop-i-test.true c.id_of.ensures c.stream_of-stream.ensures (c.is_late.ensures ∙ ap (λ o. is_late c.args.ticks c.args.until c.stream_of-stream.result o (step_at c.args.steps.now c.loop-i.i)) c.start_at-start.ensures) in
    let s = late-split c.args.ticks c.args.streams.now c.args.until c.args.steps.now c.loop-i.i false c.loop-i-test.true (sym c.if-is_late.false ∙ t) in
    let n : suc c.loop-i.i ≡ c.loop-i.i + 1 = omega arith in
    subst (λ k. first_late_from c.args.ticks c.args.streams.now c.args.until c.args.steps.now k (drop k c.args.steps.now) ≡ first_late c.args.ticks c.args.streams.now c.args.until c.args.steps.now) n (sym s ∙ c.loop-i.invariant)
