use Rattle.std.proofs.Common.{◌≡◌}
use Rattle.cop_eds_hazards.specs.Compact.{are_counted}
use Rattle.cop_eds_hazards.proofs.compact.are_counted.Given as goal

abbrev pub invariant-loop-number : goal.invariant-loop-number
invariant-loop-number l = l.are_so ≡ are_counted l.eds l.first l.count l.number
