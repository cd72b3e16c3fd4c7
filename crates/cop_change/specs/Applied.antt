-- A text with changes applied to its lines.
use Rattle.std.specs.Prelude.{ℕ, ◌+◌, ◌-◌, Bool, not, ◌&&◌, List, [], ◌∷◌, ◌++◌, length, take, drop, slice_index, ◌==◌, if◌then◌else◌}
use Rattle.std.specs.List.{flat_map, position_or_len}
use Rattle.cop_eds.specs.Text.{cut, end_len, mark_len}
use Rattle.cop_change.specs.declared.change.Change.{Change}

-- the bytes of a line before its end
abbrev pub body_of : List ℕ → List ℕ
body_of raw = take (length raw - end_len raw) raw

-- the end of a line: LF, CR LF, or nothing
abbrev pub ending_of : List ℕ → List ℕ
ending_of raw = drop (length raw - end_len raw) raw

-- the end of a text's first line; LF where it has none
abbrev pub newline_of : List (List ℕ) → List ℕ
newline_of [] = 10 ∷ []
newline_of (raw ∷ raws) = if end_len raw == 0 then 10 ∷ [] else ending_of raw

-- how many changes at the front are of the line of this number
abbrev pub here : ℕ → List Change → ℕ
here place changes = position_or_len (λ change. not (change.place == place)) changes

-- what a line is by its changes, of which the first may be its new text
abbrev pub changed : List ℕ → List Change → List ℕ
changed line [] = line
changed line (change ∷ changes) = if change.is_added then line else change.new.items

-- the changes of a line that add others behind it
abbrev pub additions : List Change → List Change
additions [] = []
additions (change ∷ changes) = if change.is_added then change ∷ changes else changes

-- a line that is added, with its end
abbrev pub added : List ℕ → Change → List ℕ
added newline change = change.new.items ++ newline

-- the end of a line: where others are added behind it there is one, and CR as the line's last byte stays its own
abbrev pub ended : List ℕ → List ℕ → List ℕ → Bool → List ℕ
ended newline body ending is_followed =
    if (length ending == 0) && is_followed then (if slice_index body (length body - 1) == 13 then 13 ∷ 10 ∷ [] else newline)
    else ending

-- a line with its changes
abbrev pub line_with : List ℕ → List ℕ → List Change → List ℕ
line_with newline raw changes =
    let body = changed (body_of raw) changes in
    body ++ ended newline body (ending_of raw) (not (length (additions changes) == 0)) ++ flat_map (added newline) (additions changes)

-- lines from the one of this number on, each with its changes, which stand in their order
abbrev pub lines_with : List ℕ → ℕ → List (List ℕ) → List Change → List ℕ
lines_with newline place [] changes = []
lines_with newline place (raw ∷ raws) changes =
    line_with newline raw (take (here place changes) changes) ++ lines_with newline (place + 1) raws (drop (here place changes) changes)

-- the lines of a text behind its mark, each with its end
abbrev pub lines_of : List ℕ → List (List ℕ)
lines_of text = cut (drop (mark_len text) text)

-- the text with exactly these changes: each line that is in none of them stands as it was
abbrev pub applied : List ℕ → List Change → List ℕ
applied text changes = take (mark_len text) text ++ lines_with (newline_of (lines_of text)) 1 (lines_of text) changes
