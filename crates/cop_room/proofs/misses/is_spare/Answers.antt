use Rattle.std.proofs.Common.{◌<◌, false, refl, arith}
use Rattle.std.proofs.lemmas.Bool.{both_ways}
use Rattle.cop_cert.specs.Assignments.{id_at, least_id}
use Rattle.cop_room.proofs.SpareLemmas.{above_by, some_test, not_planned, spare_if}
use Rattle.cop_room.proofs.misses.is_spare.Goals as goal

pub returns-then-not-can_assign : goal.returns-then-not-can_assign
returns-then-not-can_assign c = (
  λ t. absurd (both_ways false refl t),
  λ spare. absurd (not_planned c.args.rate c.args.set.now c.args.pdos c.args.index c.in_ok-others.others c.in_ok-others.ensures
      (λ can. both_ways c.can_assign.result c.if-not-can_assign.true (c.can_assign.ensures.1 can)) spare),
)

pub returns : goal.returns
returns c =
    let above : id_at c.args.set.now c.args.index < least_id = above_by c.args.set.now c.args.index c.index-streams-index.result c.requires (rw c.streams.ensures.items at c.if-id.false) in
    spare_if c.args.rate c.args.set.now c.args.pdos c.args.index c.in_ok-others.others c.in_ok-others.ensures (omega (arith, c.if-index-pdos.false)) c.requires above
    (c.can_assign.ensures.0 c.if-not-can_assign.false) c.in_ok-plan.plan c.is_some.result (some_test c.in_ok-plan.plan c.is_some.result c.is_some.ensures) c.in_ok-plan.ensures
