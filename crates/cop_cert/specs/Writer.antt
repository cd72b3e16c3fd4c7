-- Records added to a text.
use Rattle.std.specs.Prelude.{◌≡◌, ℕ, ◌<◌, ◌^◌, Bool, true, false, List, [], ◌∷◌, ◌++◌, length, decimal}
use Rattle.csv.specs.Machine.{line_feed}
use Rattle.cop_cert.specs.Format.{Fields, line, lines}

-- a text has become longer by the lines of these records
pub record Adds (old new : List ℕ) (rows : List Fields) : Type 0 where
  pub text : new ≡ old ++ lines rows

-- what stands before a number makes, with the number and a line feed, the line of its record
pub record IsHead (head : List ℕ) (row : ℕ → Fields) : Type 0 where
  pub makes : (value : ℕ) → value < 2 ^ 64 → (head ++ decimal value) ++ line_feed ∷ [] ≡ line (row value)

-- all these records are added, or else the text with them has more than 64 MiB
abbrev pub WritesWithin : List ℕ → List ℕ → List Fields → Bool → Type 0
WritesWithin old new rows true = Adds old new rows
WritesWithin old new rows false = 67108864 < length (old ++ lines rows)
