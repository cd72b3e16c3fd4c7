use Rattle.std.proofs.Common.{◌≡◌, ◌+◌, ◌++◌, drop}
use Rattle.cop_eds_hazards.specs.Hazards.{passes}
use Rattle.cop_eds_hazards.specs.Every.{hazards_from, hazards_by}
use Rattle.cop_eds_hazards.proofs.every.push_lines.Given as goal

abbrev pub invariant-loop-place : goal.invariant-loop-place
invariant-loop-place l =
    l.found.items ++ hazards_from l.number (passes l.eds l.test) (l.place + 1) (drop l.place l.lines)
    ≡ l.initial.found.items ++ hazards_by l.number l.test l.eds
