use Rattle.std.proofs.Common.{◌≡◌, length}
use Rattle.cop_tidy_lines.specs.Names.{without_signs}
use Rattle.cop_tidy_lines.proofs.names.without_signs.Given as goal

abbrev pub invariant-loop-first : goal.invariant-loop-first
invariant-loop-first l = without_signs l.rest ≡ without_signs l.bytes

abbrev pub decreases-loop-first : goal.decreases-loop-first
decreases-loop-first l = length l.rest
