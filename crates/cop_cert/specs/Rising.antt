-- Numbers that rise, by recursion, as the check goes through them.
use Rattle.std.specs.Prelude.{ℕ, suc, ◌<◌, ◌≤◌, List, [], ◌∷◌}

abbrev pub RiseFrom : ℕ → ℕ → List ℕ → Type 0
RiseFrom low pdos [] = Unit {0}
RiseFrom low pdos (p ∷ ps) = (low ≤ p) × (p < pdos) × RiseFrom (suc p) pdos ps
