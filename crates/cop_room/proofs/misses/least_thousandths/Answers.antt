use Rattle.std.proofs.Common.{arith}
use Rattle.cop_room.proofs.MissLemmas.{goes_down, goes_up, ends_at, ends_never}
use Rattle.cop_room.proofs.misses.least_thousandths.Goals as goal
use Rattle.cop_room.proofs.misses.least_thousandths.Goals.{in-Some, in-None}

pub loop-low-preserved : goal.loop-low-preserved
loop-low-preserved c =
    let between = c.loop-low.invariant.0 in
    elim c.match-branch-2.branch [
      | in-Some w ↦
          rw (w.low-is, w.high-is, w.step-is)
          (goes_down c.args.rate c.args.set.now c.args.pdos c.requires c.loop-low.low c.loop-low.high c.max-part.result _ between (omega (arith, c.max-part.ensures, c.min.ensures, c.loop-low-test.true)) (omega (arith, c.max-part.ensures, c.min.ensures, c.loop-low-test.true)) (rw w.in-Some.is at c.in_ok-planned_with.ensures), c.loop-low.invariant.1)
      | in-None w ↦
          rw (w.low-is, w.high-is, w.step-is)
          (goes_up c.args.rate c.args.set.now c.args.pdos c.requires c.loop-low.low c.loop-low.high c.max-part.result between (omega (arith, c.max-part.ensures, c.min.ensures, c.loop-low-test.true)) (omega (arith, c.max-part.ensures, c.min.ensures, c.loop-low-test.true)) (rw w.in-None.is at c.in_ok-planned_with.ensures), omega (arith, w.saturating_mul-step.ensures, c.loop-low.invariant.1))
    ]

pub returns-then-high-le-MOST-clause-exact : goal.returns-then-high-le-MOST-clause-exact
returns-then-high-le-MOST-clause-exact c = ends_at c.args.rate c.args.set.now c.args.pdos c.requires c.loop-low.low c.loop-low.high c.loop-low.invariant.0 c.loop-low-test.false c.if-high-le-MOST.true

pub returns-else-high-le-MOST-clause-exact : goal.returns-else-high-le-MOST-clause-exact
returns-else-high-le-MOST-clause-exact c = ends_never c.args.rate c.args.set.now c.args.pdos c.requires c.loop-low.low c.loop-low.high c.loop-low.invariant.0 c.loop-low-test.false c.if-high-le-MOST.false
