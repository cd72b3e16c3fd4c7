-- The bytes of an input.
use Rattle.std.specs.Prelude.{◌≡◌, ℕ, ◌≤◌, ◌*◌, List, length, Option, IfSome}

-- all that a reader has left, where that is known, and at most 64 MiB
pub record IsInput (left : Option (List ℕ)) (bytes : List ℕ) : Type 0 where
  pub size : length bytes ≤ 64 * 1024 * 1024
  pub all : IfSome left (λ xs. bytes ≡ xs)
