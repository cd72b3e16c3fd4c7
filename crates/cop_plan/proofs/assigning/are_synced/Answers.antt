use Rattle.std.proofs.Common.{List, All, arith, refl, subst, ◌∙◌}
use Rattle.std.proofs.lemmas.List.{take_all}
use Rattle.std.proofs.lemmas.List.Elements.{All-more}
use Rattle.cop_rta.specs.declared.streams.Stream.{Stream}
use Rattle.cop_plan.specs.Found.{IsSynced}
use Rattle.cop_plan.proofs.assigning.are_synced.Goals as goal

pub loop-stream-preserved : goal.loop-stream-preserved
loop-stream-preserved c =
    All-more (IsSynced c.args.set.now) c.streams-stream-items.result.now c.loop-stream.stream-index c.stream-item.result (omega (arith, c.loop-stream-test.true)) c.loop-stream.invariant
    (rw (← c.stream-item.is) (c.is_synced.ensures.0 c.if-not-is_synced.false))

pub returns : goal.returns
returns c = (
  λ t. record {
    each = subst (λ (streams : List Stream). All (IsSynced c.args.set.now) streams)
        (take_all c.loop-stream.stream-index c.streams-stream-items.result.now (omega (arith, c.loop-stream-test.false)) ∙ c.streams-stream-items.ensures.items) c.loop-stream.invariant;
  },
  λ all. refl,
)
