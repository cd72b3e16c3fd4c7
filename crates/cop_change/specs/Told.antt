-- A list of changes that tells of each line what stood there.
use Rattle.std.specs.Prelude.{ℕ, ◌≡◌, ◌+◌, ◌<◌, Bool, true, false, ◌&&◌, List, [], ◌∷◌, length, take, drop, slice_index_or, ◌==◌, if◌then◌else◌}
use Rattle.std.specs.List.{list_all}
use Rattle.std.specs.Str.{bytes_eq}
use Rattle.cop_change.specs.declared.change.Change.{Change}
use Rattle.cop_change.specs.Applied.{here, body_of, lines_of}

-- a change adds a line, where nothing stood before
abbrev pub is_addition : Change → Bool
is_addition change = change.is_added && (length change.old.items == 0)

-- a change adds a line, or tells the text of this one
abbrev pub is_told : List ℕ → Change → Bool
is_told raw change = if change.is_added then length change.old.items == 0 else bytes_eq change.old.items (body_of raw)

-- the first change of a line may be its own, and the others add lines behind it
abbrev pub is_line_told : List ℕ → List Change → Bool
is_line_told raw [] = true
is_line_told raw (change ∷ changes) = is_told raw change && list_all is_addition changes

-- each change is of a line from the one of this number on, in their order, and tells what stood there
abbrev pub are_told_from : ℕ → List (List ℕ) → List Change → Bool
are_told_from place [] changes = length changes == 0
are_told_from place (raw ∷ raws) changes = is_line_told raw (take (here place changes) changes) && are_told_from (place + 1) raws (drop (here place changes) changes)

abbrev pub are_told : List ℕ → List Change → Bool
are_told text changes = are_told_from 1 (lines_of text) changes

-- A change is of one of these lines, the first of which has this number, and tells what stood there: the line's text without its end, or
-- nothing where it adds a line behind it.
pub record IsOfLine (first : ℕ) (raws : List (List ℕ)) (change : Change) : Type 0 where
  pub line : ℕ
  pub within : line < length raws
  pub its : change.place ≡ first + line
  pub changed : change.is_added ≡ false → change.old.items ≡ body_of (slice_index_or raws line [])
  pub added : change.is_added ≡ true → change.old.items ≡ []
