use Rattle.std.proofs.Common.{ℕ, ◌≡◌, ◌<◌, length}
use Rattle.cop_rta.specs.Test.{is_flagged}
use Rattle.cop_figures.specs.Unsorted.{is_up_to}
use Rattle.cop_figures.proofs.unsorted.flag_up_to.Given as goal

abbrev pub invariant-loop-k : goal.invariant-loop-k
invariant-loop-k l = (length l.out ≡ length l.streams) × ((k : ℕ) → k < l.k → is_flagged l.out k ≡ is_up_to l.streams l.last k)
