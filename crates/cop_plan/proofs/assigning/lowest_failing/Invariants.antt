use Rattle.std.proofs.Common.{length, MatchOption}
use Rattle.cop_rta.specs.Test.{is_flagged}
use Rattle.cop_plan.proofs.FrameLemmas.{PassSoFar, IsLowestSoFar}
use Rattle.cop_plan.proofs.assigning.lowest_failing.Given as goal

abbrev pub invariant-loop-frame : goal.invariant-loop-frame
invariant-loop-frame l =
    MatchOption l.lowest (PassSoFar l.rate l.set (length l.kept) (is_flagged l.kept) l.frame) (IsLowestSoFar l.rate l.set (length l.kept) (is_flagged l.kept) l.frame)
