use Rattle.std.specs.Prelude.{◌≡◌, map, take}
use Rattle.cop_log.specs.Bounds.{bound_of}
use Rattle.cop_log.proofs.bounds.bounds_in.Given as goal

abbrev pub invariant-loop-place : goal.invariant-loop-place
invariant-loop-place l = l.bounds.items ≡ map bound_of (take l.place l.verdicts)
