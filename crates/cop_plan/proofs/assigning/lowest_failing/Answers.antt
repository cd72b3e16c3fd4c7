use Rattle.std.proofs.Common.{length}
use Rattle.cop_rta.specs.Test.{is_flagged}
use Rattle.cop_plan.proofs.FillingLemmas.{no_bit}
use Rattle.cop_plan.proofs.FrameLemmas.{next_passes, next_is_above, next_is_lowest}
use Rattle.cop_plan.proofs.assigning.lowest_failing.Goals as goal
use Rattle.cop_plan.proofs.assigning.lowest_failing.Goals.{then-is_tested+then-not-passes_below+then-is_below, else-is_tested, else-is_tested-via-then-is_tested+then-not-passes_below+else-is_below, else-is_tested-via-then-is_tested+else-not-passes_below, else-is_tested-via-else-is_tested}

pub loop-frame-preserved : goal.loop-frame-preserved
loop-frame-preserved c = elim c.if-is_tested.branch [
  | then-is_tested+then-not-passes_below+then-is_below w ↦ rw w.lowest-is (
      next_is_lowest c.args.rate c.args.set.now (length c.args.kept.now) (is_flagged c.args.kept.now) c.loop-frame.frame c.loop-frame.lowest w.is_below.result
      (rw c.streams-streams.ensures.items at (c.is_tested.ensures.0 w.if-is_tested.true))
      (λ passes. no_bit w.passes_below.result (w.passes_below.ensures.1 passes) w.if-not-passes_below.true)
      (rw c.streams-streams.ensures.items at w.is_below.ensures) w.if-is_below.true c.loop-frame.invariant)
  | else-is_tested w ↦ rw w.lowest-is (elim w.else-is_tested.branch [
    | else-is_tested-via-then-is_tested+then-not-passes_below+else-is_below v ↦
        next_is_above c.args.rate c.args.set.now (length c.args.kept.now) (is_flagged c.args.kept.now) c.loop-frame.frame c.loop-frame.lowest v.is_below.result
        (rw c.streams-streams.ensures.items at v.is_below.ensures) v.if-is_below.false c.loop-frame.invariant
    | else-is_tested-via-then-is_tested+else-not-passes_below v ↦
        next_passes c.args.rate c.args.set.now (length c.args.kept.now) (is_flagged c.args.kept.now) c.loop-frame.frame c.loop-frame.lowest
        (λ tested. v.passes_below.ensures.0 v.if-not-passes_below.false) c.loop-frame.invariant
    | else-is_tested-via-else-is_tested v ↦
        next_passes c.args.rate c.args.set.now (length c.args.kept.now) (is_flagged c.args.kept.now) c.loop-frame.frame c.loop-frame.lowest
        (λ tested. absurd (no_bit c.is_tested.result (c.is_tested.ensures.1 (rw c.streams-streams.ensures.items tested)) v.if-is_tested.false)) c.loop-frame.invariant
  ])
]
