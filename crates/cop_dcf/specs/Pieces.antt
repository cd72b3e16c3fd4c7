-- What stands in a DCF for each line of its EDS text, and for each section that is appended.
use Rattle.std.specs.Prelude.{ℕ, ◌-◌, Bool, true, false, not, ◌&&◌, ◌||◌, List, [], ◌∷◌, ◌++◌, codes, length, get_or, is_some, slice_index, ◌==◌, if◌then◌else◌}
use Rattle.std.specs.List.{list_any}
use Rattle.cop_eds.specs.declared.line.Kind.TheVariants.{Other, Pair}
use Rattle.cop_eds.specs.declared.line.Line.{Line}
use Rattle.cop_eds.specs.Lines.{is_kind}
use Rattle.cop_eds.specs.Sections.{key_line}
use Rattle.cop_eds.specs.Rows.{row_of, rows_of, has_name}
use Rattle.cop_eds.specs.Edits.{Change, changed, pair_of}

-- a pair comes before the next header
abbrev pub pair_follows : List Line → Bool
pair_follows [] = false
pair_follows (line ∷ lines) = if is_kind line.kind Other then pair_follows lines else is_kind line.kind Pair

-- the line is the last of its section that is its header or a key
abbrev pub ends_entries : Line → List Line → Bool
ends_entries line later = not (is_kind line.kind Other) && not (pair_follows later)

-- the section of a key has it not yet
abbrev pub is_wanting : List ℕ → Change → Bool
is_wanting text change = not (is_some (key_line text change.section change.key))

-- the lines of the keys that are not there yet
abbrev pub new_lines : List ℕ → List ℕ → List Change → List ℕ
new_lines text newline [] = []
new_lines text newline (change ∷ changes) =
    (if is_wanting text change then pair_of change ++ newline else []) ++ new_lines text newline changes

-- the end of a line that others follow; one whose last byte is CR gets CR LF
abbrev pub end_of : List ℕ → List ℕ → List ℕ → List ℕ
end_of newline body ending =
    if length ending == 0 then (if slice_index body (length body - 1) == 13 then 13 ∷ 10 ∷ [] else newline) else ending

-- a line with its end, by whether others follow
abbrev pub whole_line : List ℕ → List ℕ → List ℕ → Bool → List ℕ
whole_line newline body ending true = body ++ end_of newline body ending
whole_line newline body ending false = body ++ ending

-- the section of this name is there
abbrev pub has_section : List ℕ → List ℕ → Bool
has_section text name = list_any (has_name name) (rows_of text)

-- some section is appended
abbrev pub is_extended : List ℕ → Bool
is_extended text = not (has_section text (codes "FileInfo") && has_section text (codes "DeviceComissioning"))

-- new keys come behind this line
abbrev pub adds_keys : List ℕ → List Change → Line → List Line → Bool
adds_keys text changes line later = ends_entries line later && list_any (is_wanting text) changes

-- what a line becomes, with the keys that are set in its section, and the new keys behind it
abbrev pub piece_of : List ℕ → List ℕ → List Change → Line → List Line → List ℕ
piece_of text newline changes line later =
    let row = row_of text line in
    let adds = adds_keys text changes line later in
    whole_line newline (changed changes row).body row.ending ((adds || not (length later == 0)) || is_extended text)
    ++ (if adds then new_lines text newline changes else [])

-- what lines become one after the other, where a table has the keys of each section
abbrev pub pieces_of : List ℕ → List ℕ → List (List Change) → List Line → List ℕ
pieces_of text newline table [] = []
pieces_of text newline table (line ∷ later) = piece_of text newline (get_or table line.section []) line later ++ pieces_of text newline table later

-- a header with its new keys
abbrev pub section_of : List ℕ → List ℕ → List Change → List ℕ → List ℕ
section_of text newline changes name = ((codes "[" ++ name ++ codes "]") ++ newline) ++ new_lines text newline changes
