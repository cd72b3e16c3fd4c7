-- What is said of all bytes that a reader has left, which are read in pieces.
use Rattle.std.specs.Prelude.{◌≡◌, ℕ, List, Option, IfSome}

-- it holds of all that a reader has left, where that is known; where it is not, it holds of some bytes
pub record HoldsOfAll (left : Option (List ℕ)) (holds_of : List ℕ → Type 0) : Type 0 where
  pub bytes : List ℕ
  pub all : IfSome left (λ xs. bytes ≡ xs)
  pub holds : holds_of bytes
