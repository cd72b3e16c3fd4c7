use Rattle.std.proofs.Common.{◌≡◌, length}
use Rattle.cop_eds_hazards.specs.Spelled.{without_signs}
use Rattle.cop_eds_hazards.proofs.spelling.without_signs.Given as goal

abbrev pub invariant-loop-first : goal.invariant-loop-first
invariant-loop-first l = without_signs l.dots l.rest ≡ without_signs l.dots l.bytes

abbrev pub decreases-loop-first : goal.decreases-loop-first
decreases-loop-first l = length l.rest
