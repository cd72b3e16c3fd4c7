-- Sets of identifiers, a bit for each, in words of 64.
use Rattle.std.specs.Prelude.{ℕ, ◌≡◌, ◌==◌, ◌<◌, ◌≤◌, ◌*◌, ◌/◌, ◌%◌, Bool, true, false, List, Option, None, Some, length, get_or, nat_lt}
use Rattle.std.specs.Int.{bit_at}

-- an identifier is in the set
abbrev pub holds : List ℕ → ℕ → Bool
holds words id = bit_at (get_or words (id / 64) 0) (id % 64) == 1

-- the lowest bit that is set in a word, if one is
abbrev pub IsLowestBit : ℕ → Option ℕ → Type 0
IsLowestBit word None = word ≡ 0
IsLowestBit word (Some bit) = (bit < 64) × (bit_at word bit ≡ 1) × ((i : ℕ) → i < bit → bit_at word i ≡ 0)

-- the lowest identifier in the set, if there is one
abbrev pub IsLowestHeld : List ℕ → Option ℕ → Type 0
IsLowestHeld words None = (i : ℕ) → holds words i ≡ false
IsLowestHeld words (Some id) = (holds words id ≡ true) × ((i : ℕ) → i < id → holds words i ≡ false)

-- the words in which a bit is set, as a set of their own
pub record AreUsed (words used : List ℕ) : Type 0 where
  pub few : length words ≤ 1025
  pub fewer : length used ≤ 1025
  pub room : length words ≤ 64 * length used
  pub each : (w : ℕ) → holds used w ≡ nat_lt 0 (get_or words w 0)
