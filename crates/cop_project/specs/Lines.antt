-- The lines of a project file.
use Rattle.std.specs.Prelude.{◌≡◌, ℕ, ◌+◌, Bool, true, not, ◌&&◌, ◌||◌, ◌==◌, List, [], ◌∷◌, length, take, slice_index, if◌then◌else◌}
use Rattle.std.specs.Char.{is_ascii_alphanumeric}
use Rattle.std.specs.Str.{bytes_eq}

-- how many lines end in a text
abbrev pub line_ends : List ℕ → ℕ
line_ends [] = 0
line_ends (b ∷ bs) = if b == 10 then 1 + line_ends bs else line_ends bs

-- the number, from 1, of the line in which a place of the text stands
abbrev pub IsLineOf : List ℕ → ℕ → Type 0
IsLineOf text line = (place : ℕ) × (line ≡ line_ends (take place text) + 1)

-- what may stand before a key in its line: blanks, quotes, and the brackets of a table
abbrev pub is_lead : ℕ → Bool
is_lead b = (b == 32) || ((b == 9) || ((b == 34) || ((b == 39) || (b == 91))))

abbrev pub without_lead : List ℕ → List ℕ
without_lead [] = []
without_lead (b ∷ bs) = if is_lead b then without_lead bs else b ∷ bs

-- a byte with which a key goes on
abbrev pub is_key_code : ℕ → Bool
is_key_code b = is_ascii_alphanumeric b || ((b == 95) || (b == 45))

-- the text has the key, and no longer one, at its front
abbrev pub has_key : List ℕ → List ℕ → Bool
has_key k text = bytes_eq (take (length k) text) k && not (is_key_code (slice_index text (length k)))

-- the number of the first line that begins with the key, where this one has the number n, and 0 where none does
abbrev pub key_line_from : List ℕ → ℕ → Bool → List ℕ → ℕ
key_line_from k n is_start [] = 0
key_line_from k n is_start (b ∷ bs) =
    if is_start && has_key k (without_lead (b ∷ bs)) then n
    else key_line_from k (if b == 10 then n + 1 else n) (b == 10) bs

abbrev pub key_line : List ℕ → List ℕ → ℕ
key_line k text = key_line_from k 1 true text
