-- Texts in which no quote stands: a record is a line cut at its commas (RFC 4180, section 2).
use Rattle.std.specs.Prelude.{ℕ, List, [], ◌∷◌, Bool, true, false, ◌||◌, ◌==◌, not, map, filter, if◌then◌else◌}
use Rattle.csv.specs.Reading.{strip_bom}

abbrev pub is_comma : ℕ → Bool
is_comma c = c == 44

abbrev pub is_quote : ℕ → Bool
is_quote c = c == 34

-- a carriage return and a line feed end a line, each for itself
abbrev pub is_line_end : ℕ → Bool
is_line_end c = (c == 13) || (c == 10)

-- a byte more at the start of the first piece
abbrev pub with_first : ℕ → List (List ℕ) → List (List ℕ)
with_first c [] = (c ∷ []) ∷ []
with_first c (piece ∷ pieces) = (c ∷ piece) ∷ pieces

-- the pieces of a text between the bytes at which it is cut
abbrev pub pieces : (ℕ → Bool) → List ℕ → List (List ℕ)
pieces cuts [] = [] ∷ []
pieces cuts (c ∷ text) = if cuts c then [] ∷ pieces cuts text else with_first c (pieces cuts text)

abbrev pub is_blank : List ℕ → Bool
is_blank [] = true
is_blank (c ∷ line) = false

-- the lines that are not blank, each cut at its commas
abbrev pub cut_lines : List (List ℕ) → List (List (List ℕ))
cut_lines lines = map (pieces is_comma) (filter (λ line. not (is_blank line)) lines)

-- the same of the lines of a text, a byte order mark at its start left out
abbrev pub plain_records : List ℕ → List (List (List ℕ))
plain_records text = cut_lines (pieces is_line_end (strip_bom text))
