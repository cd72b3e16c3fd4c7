use Rattle.std.proofs.Common.{◌≡◌, ℕ, ◌<◌}
use Rattle.cop_plan.specs.Values.{id_of}
use Rattle.cop_standing.proofs.identifiers.place_of.Given as goal

abbrev pub invariant-loop-k : goal.invariant-loop-k
invariant-loop-k l = (j : ℕ) → j < l.k → id_of l.ids j ≡ l.id → ⊥
