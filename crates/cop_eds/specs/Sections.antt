-- A text that is read as sections of pairs.
use Rattle.std.specs.Prelude.{ℕ, Bool, ◌&&◌, List, length, ◌==◌, if◌then◌else◌, Option, Some, None}
use Rattle.std.specs.Option.{option_map, option_and_then}
use Rattle.cop_eds.specs.declared.line.Kind.TheVariants.{Header}
use Rattle.cop_eds.specs.declared.line.Line.{Line}
use Rattle.cop_eds.specs.declared.line.Place.{Place}
use Rattle.cop_eds.specs.Text.{name_of, value_of}
use Rattle.cop_eds.specs.Names.{code_of, has_code}
use Rattle.cop_eds.specs.Lines.{lines_of, text_of, is_kind, is_named, is_keyed, first_from}

abbrev pub place_at : ℕ × Line → Place
place_at found = record { line = found.0; section = found.1.section }

-- where the section of this name begins
abbrev pub place_of : List ℕ → List ℕ → Option Place
place_of text name = option_map place_at (first_from 1 (is_named text name) (lines_of text))

abbrev pub section_of : List ℕ → List ℕ → Option ℕ
section_of text name = option_map (λ place. place.section) (place_of text name)

-- the line is the header of the object's section with this number
abbrev pub is_coded : List ℕ → ℕ → Line → Bool
is_coded text code line = is_kind line.kind Header && has_code (code_of (name_of (text_of text line))) code

-- where an object's section begins
abbrev pub coded_place : List ℕ → ℕ → Option Place
coded_place text code = option_map place_at (first_from 1 (is_coded text code) (lines_of text))

-- the line of a key in a section, and its number
abbrev pub keyed_line : List ℕ → ℕ → List ℕ → Option (ℕ × Line)
keyed_line text section key = first_from 1 (is_keyed text section key) (lines_of text)

-- the number of a key's line
abbrev pub key_line : List ℕ → ℕ → List ℕ → Option ℕ
key_line text section key = option_map (λ found. found.0) (keyed_line text section key)

-- the value of a line beside its number; an empty value counts as an absent key
abbrev pub some_value : List ℕ → ℕ × Line → Option (ℕ × List ℕ)
some_value text found =
    let value = value_of (text_of text found.1) in
    if length value == 0 then None else Some (found.0, value)

-- the line and the value of a key in a section
abbrev pub entry_of : List ℕ → ℕ → List ℕ → Option (ℕ × List ℕ)
entry_of text section key = option_and_then (some_value text) (keyed_line text section key)

-- the value of a key in a section
abbrev pub value_in : List ℕ → ℕ → List ℕ → Option (List ℕ)
value_in text section key = option_map (λ entry. entry.1) (entry_of text section key)
