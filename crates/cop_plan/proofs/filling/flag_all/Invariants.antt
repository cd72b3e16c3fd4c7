use Rattle.std.proofs.Common.{ℕ, ◌≡◌, ◌<◌, length}
use Rattle.cop_rta.specs.Test.{is_flagged}
use Rattle.cop_plan.proofs.filling.flag_all.Given as goal

abbrev pub invariant-loop-k : goal.invariant-loop-k
invariant-loop-k l = (length l.out ≡ l.pdos) × ((k : ℕ) → k < l.k → is_flagged l.out k ≡ l.flag)
