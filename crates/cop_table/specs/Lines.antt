-- The mark and the first line of a text, and where the fields of a line end.
use Rattle.std.specs.Prelude.{◌≡◌, ℕ, zero, suc, ◌+◌, Bool, false, List, [], ◌∷◌, slice_index, if◌then◌else◌}
use Rattle.csv.specs.Reading.{is_bom}
use Rattle.cop_table.specs.Plain.{is_line_end}

-- a byte order mark stands at the start
abbrev pub has_mark : List ℕ → Bool
has_mark text = is_bom (slice_index text 0) (slice_index text 1) (slice_index text 2)

-- what stands before the first byte that ends a line
abbrev pub first_line : List ℕ → List ℕ
first_line [] = []
first_line (c ∷ text) = if is_line_end c then [] else c ∷ first_line text

-- the text is none, or its first byte ends no line
abbrev pub StartsLine : List ℕ → Type 0
StartsLine [] = Unit {0}
StartsLine (c ∷ text) = is_line_end c ≡ false

-- where the pieces of a line end that begins at a place: before each byte at which it is cut, and at its end
abbrev pub ends_of : (ℕ → Bool) → ℕ → List ℕ → List ℕ
ends_of cuts at [] = at ∷ []
ends_of cuts at (c ∷ line) = if cuts c then at ∷ ends_of cuts (at + 1) line else ends_of cuts (at + 1) line

-- where the piece at a place begins, of a line that begins at a place
abbrev pub start_at : ℕ → List ℕ → ℕ → ℕ
start_at at ends zero = at
start_at at ends (suc place) = slice_index ends place + 1
