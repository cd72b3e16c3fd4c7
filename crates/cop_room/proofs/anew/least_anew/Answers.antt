use Rattle.std.proofs.Common.{arith}
use Rattle.cop_room.proofs.AnewLemmas.{anew_down, anew_up, anew_ends, anew_fails}
use Rattle.cop_room.proofs.anew.least_anew.Goals as goal
use Rattle.cop_room.proofs.anew.least_anew.Goals.{in-Some, in-None}

pub planned_anew-requires-clause-can : goal.planned_anew-requires-clause-can
planned_anew-requires-clause-can c = c.requires.can c.max-place.result

pub loop-low-preserved : goal.loop-low-preserved
loop-low-preserved c = elim c.match-branch-2.branch [
  | in-Some w ↦
      rw (w.low-is, w.high-is)
      (anew_down c.args.number c.args.rate c.args.set.now c.args.pdos c.args.first c.args.now c.loop-low.low c.loop-low.high c.loop-low.invariant c.max-place.result
      (omega (arith, c.max-place.ensures, c.min.ensures, c.loop-low-test.true)) (omega (arith, c.max-place.ensures, c.min.ensures, c.loop-low-test.true)) (rw w.in-Some.is at c.in_ok-planned_anew.ensures))
  | in-None w ↦
      rw (w.low-is, w.high-is)
      (anew_up c.args.number c.args.rate c.args.set.now c.args.pdos c.args.first c.args.now c.loop-low.low c.loop-low.high c.loop-low.invariant c.max-place.result
      (omega (arith, c.max-place.ensures, c.min.ensures, c.loop-low-test.true)) (omega (arith, c.max-place.ensures, c.min.ensures, c.loop-low-test.true)) (rw w.in-None.is at c.in_ok-planned_anew.ensures))
]

pub returns-then-high-now-clause-exact : goal.returns-then-high-now-clause-exact
returns-then-high-now-clause-exact c =
    anew_ends c.args.number c.args.rate c.args.set.now c.args.pdos c.args.first c.args.now c.loop-low.low c.loop-low.high c.requires.count c.loop-low.invariant c.loop-low-test.false c.if-high-now.true

pub returns-else-high-now-clause-exact : goal.returns-else-high-now-clause-exact
returns-else-high-now-clause-exact c =
    anew_fails c.args.number c.args.rate c.args.set.now c.args.pdos c.args.first c.args.now c.loop-low.low c.loop-low.high c.requires.count c.loop-low.invariant c.loop-low-test.false c.if-high-now.false
