use Rattle.std.proofs.Common.{sym, ◌∙◌}
use Rattle.std.proofs.lemmas.Result.{err_from_is_err_and}
use Rattle.cop_rows.specs.PdoReading.{consumer_of}
use Rattle.cop_rows.specs.Refusals.{broken}
use Rattle.cop_rows.proofs.ConsumerLemmas.{each_more, each_fails, each_ends, left_cut, left_parts, begins}
use Rattle.cop_rows.proofs.pdos.consumers_in.Goals as goal

pub parts-init : goal.parts-init
parts-init c = begins c.new-items.result.items c.args.text.now c.new-items.ensures.items (sym c.is_empty.ensures ∙ c.if-is_empty.false)

pub parts-preserved : goal.parts-preserved
parts-preserved c =
    let cut = left_cut c.in-Some.left.now c.cut.result.0.now c.cut.result.1 (rw c.in-Some.left-is at c.cut.ensures) in
    sym (each_more consumer_of c.parts.items.items c.push_consumer.new.items.items c.cut.result.0.now (left_parts c.cut.result.1) _ cut c.in_ok-push_consumer.ensures)
    ∙ rw c.in-Some.is at c.parts.invariant

pub returns-in_err-push_consumer : goal.returns-in_err-push_consumer
returns-in_err-push_consumer c =
    let cut = left_cut c.in-Some.left.now c.cut.result.0.now c.cut.result.1 (rw c.in-Some.left-is at c.cut.ensures) in
    let p = err_from_is_err_and c.from_residual.result c.from_residual.ensures.1 in
    rw (p.1, p.2) (each_fails consumer_of c.parts.items.items c.cut.result.0.now (left_parts c.cut.result.1) _ (broken c.in_err-push_consumer.field-0.0) _ cut
    (rw c.in-Some.is at c.parts.invariant) c.in_err-push_consumer.ensures)

pub returns : goal.returns
returns c = sym (rw c.in_default.is at c.parts.invariant) ∙ each_ends consumer_of c.parts.items.items
