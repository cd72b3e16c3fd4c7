use Rattle.std.proofs.Common.{◌≡◌, map, take}
use Rattle.cop_figures.specs.Reasons.{failing_of}
use Rattle.cop_figures.proofs.refused.all_failing.Given as goal

abbrev pub invariant-loop-member : goal.invariant-loop-member
invariant-loop-member l = l.members ≡ map (failing_of l.at.streams l.at.rate) (take l.member-index l.found)
