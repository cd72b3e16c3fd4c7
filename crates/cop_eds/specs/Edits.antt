-- Texts whose keys are set, and to which sections are appended: each other line is as it was.
use Rattle.std.specs.Prelude.{codes, ℕ, ◌+◌, ◌-◌, Bool, not, ◌&&◌, List, [], ◌∷◌, ◌++◌, length, map, take, slice_index, ◌==◌, if◌then◌else◌, Option, find, filter}
use Rattle.std.specs.List.{list_any}
use Rattle.std.specs.Option.{option_map_or}
use Rattle.cop_eds.specs.declared.line.Kind.TheVariants.{Other, Header, Pair}
use Rattle.cop_eds.specs.Text.{mark_len}
use Rattle.cop_eds.specs.Lines.{is_kind}
use Rattle.cop_eds.specs.Rows.{Row, has_name, has_key}

-- a key of a section, and the value that it is to have
pub record Change : Type 0 where
  pub section : ℕ
  pub key : List ℕ
  pub value : List ℕ

-- the line of a key and its value
abbrev pub pair_of : Change → List ℕ
pair_of change = change.key ++ 61 ∷ change.value

-- the end of a text's first line; LF where it has none
abbrev pub newline_of : List Row → List ℕ
newline_of [] = 10 ∷ []
newline_of (row ∷ rows) = if length row.ending == 0 then 10 ∷ [] else row.ending

-- the change of this row's key, where it is set
abbrev pub change_of : List Change → Row → Option Change
change_of changes row = find (λ change. has_key change.section change.key row) changes

-- the line of a key that is set has the new value, and its own end
abbrev pub changed : List Change → Row → Row
changed changes row = option_map_or (λ change. record row { body = pair_of change }) (change_of changes row) row

-- the row is the section's header, or one of its keys
abbrev pub is_entry : ℕ → Row → Bool
is_entry section row = not (is_kind row.kind Other) && (row.section == section)

-- the row is the last of its section that is its header or a key
abbrev pub is_last : Row → List Row → Bool
is_last row later = is_entry row.section row && not (list_any (is_entry row.section) later)

-- a key that a section has not yet gets a line
abbrev pub is_new : List Row → ℕ → Change → Bool
is_new rows section change = (change.section == section) && not (list_any (has_key change.section change.key) rows)

abbrev pub new_row : List ℕ → Change → Row
new_row newline change = record { kind = Pair; section = change.section; body = pair_of change; ending = newline }

-- the rows of the keys that are set in a section and that it has not
abbrev pub new_rows : List Row → List Change → List ℕ → ℕ → List Row
new_rows rows changes newline section = map (new_row newline) (filter (is_new rows section) changes)

-- the rows of a text, each as it was or changed, and new rows after the last header or key of their sections
abbrev pub rewritten : List Row → List Change → List ℕ → List Row → List Row
rewritten rows changes newline [] = []
rewritten rows changes newline (row ∷ later) =
    changed changes row
    ∷ ((if is_last row later then new_rows rows changes newline row.section else []) ++ rewritten rows changes newline later)

abbrev pub with_keys : List Change → List Row → List Row
with_keys changes rows = rewritten rows changes (newline_of rows) rows

-- the header of the section of this number
abbrev pub header_row : List ℕ → ℕ → List ℕ → Row
header_row newline section name = record { kind = Header; section = section; body = codes "[" ++ name ++ codes "]"; ending = newline }

-- how many sections there are
abbrev pub section_count : List Row → ℕ
section_count [] = 0
section_count (row ∷ []) = row.section
section_count (row ∷ next ∷ rows) = section_count (next ∷ rows)

-- a section of this name at the end, where there is none
abbrev pub with_section : List ℕ → List Row → List Row
with_section name rows = if list_any (has_name name) rows then rows else rows ++ header_row (newline_of rows) (section_count rows + 1) name ∷ []

-- a row that others come after has an end; one whose last byte is CR gets CR LF, so that this byte stays its own
abbrev pub ended : List ℕ → Row → Row
ended newline row =
    if length row.ending == 0
    then record row { ending = if slice_index row.body (length row.body - 1) == 13 then 13 ∷ 10 ∷ [] else newline }
    else row

-- each row but the last has an end
abbrev pub closed : List ℕ → List Row → List Row
closed newline [] = []
closed newline (row ∷ []) = row ∷ []
closed newline (row ∷ next ∷ rows) = ended newline row ∷ closed newline (next ∷ rows)

-- the bytes of rows, one after the other
abbrev pub bytes_of_rows : List Row → List ℕ
bytes_of_rows [] = []
bytes_of_rows (row ∷ rows) = row.body ++ row.ending ++ bytes_of_rows rows

-- the text of rows, where the old one may have a mark at its front
abbrev pub text_with : List ℕ → List Row → List ℕ
text_with old rows = take (mark_len old) old ++ bytes_of_rows (closed (newline_of rows) rows)
