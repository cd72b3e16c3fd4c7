use Rattle.std.proofs.Common.{◌∙◌, ap}
use Rattle.cop_engine.proofs.BootLemmas.{push_behind}
use Rattle.cop_engine.proofs.boots.initial.Goals as goal

pub push-requires : goal.push-requires
push-requires c =
    push_behind c.args.dict.now c.entries-object-items.result.now c.loop-object.copy c.loop-object.object-index c.object-item.result c.in_ok-new.field-0
    c.entries-object-items.ensures.value c.entries-object-items.ensures.sorted c.loop-object-test.true c.object-item.is c.loop-object.invariant
    (ap (λ e. e.index) c.in_ok-new.ensures ∙ c.index.ensures) (ap (λ e. e.sub) c.in_ok-new.ensures ∙ c.sub.ensures)
