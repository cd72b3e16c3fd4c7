use Rattle.std.proofs.Common.{◌≡◌, ◌+◌, drop}
use Rattle.cop_eds.specs.Lines.{first_from}
use Rattle.cop_eds_hazards.specs.Hazards.{passes, first_line}
use Rattle.cop_eds_hazards.proofs.LineLemmas.{number}
use Rattle.cop_eds_hazards.proofs.tests.first_line.Given as goal

abbrev pub invariant-loop-place : goal.invariant-loop-place
invariant-loop-place l = number (first_from (l.place + 1) (passes l.eds l.test) (drop l.place l.lines)) ≡ first_line l.eds l.test
