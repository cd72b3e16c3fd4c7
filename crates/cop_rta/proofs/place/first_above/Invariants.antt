use Rattle.std.proofs.Common.{◌≡◌, ◌<◌, ℕ, false}
use Rattle.cop_rta.specs.Test.{is_flagged}
use Rattle.cop_rta.proofs.place.first_above.Given as goal

abbrev pub invariant-loop-k : goal.invariant-loop-k
invariant-loop-k l = (i : ℕ) → i < l.k → is_flagged l.above i ≡ false
