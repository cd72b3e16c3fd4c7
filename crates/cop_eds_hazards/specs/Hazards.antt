-- What an accepted text leaves implicit, so that a device does more than its dictionary says.
use Rattle.std.specs.Prelude.{ℕ, ◌+◌, ◌/◌, ◌%◌, ◌==◌, Bool, false, not, ◌&&◌, ◌||◌, nat_lt, nat_le, List, [], ◌∷◌, length, drop, slice_index, codes, if◌then◌else◌, Option, Some, None, is_some}
use Rattle.std.specs.List.{before_first, after_first}
use Rattle.std.specs.Option.{option_map, option_map_or, option_or}
use Rattle.cop_eds.specs.declared.line.Kind.{Kind}
use Rattle.cop_eds.specs.declared.line.Kind.TheVariants.{Other, Header, Pair}
use Rattle.cop_eds.specs.declared.line.Line.{Line}
use Rattle.cop_eds.specs.declared.line.Place.{Place}
use Rattle.cop_eds.specs.Text.{trim_start, name_of, key_of, value_of}
use Rattle.cop_eds.specs.Number.{number_in, number_of}
use Rattle.cop_eds.specs.Lines.{lines_of, text_of, is_kind, first_from}
use Rattle.cop_eds.specs.Sections.{place_of}
use Rattle.cop_eds_hazards.specs.declared.hazards.Hazard.{Hazard}
use Rattle.cop_eds_hazards.specs.declared.tests.Test.{Test}
use Rattle.cop_eds_hazards.specs.declared.tests.Test.TheVariants as tests
use Rattle.cop_eds_hazards.specs.Stated.{ok_number}
use Rattle.cop_eds_hazards.specs.Listed.{count_of, is_listed}
use Rattle.cop_eds_hazards.specs.Spelled.{spelled, read_spelled, strange_index}
use Rattle.cop_eds_hazards.specs.Records.{is_unlisted, is_unidentified}
use Rattle.cop_eds_hazards.specs.Compact.{implicit_line}

abbrev pub hex_digit : ℕ → ℕ
hex_digit n = if nat_lt n 10 then 48 + n else 55 + n

-- the name of an object's section: its index as four hexadecimal digits
abbrev pub section_name : ℕ → List ℕ
section_name index = hex_digit (index / 4096) ∷ hex_digit (index / 256 % 16) ∷ hex_digit (index / 16 % 16) ∷ hex_digit (index % 16) ∷ []

-- the section of an object with this index is there
abbrev pub is_there : List ℕ → Option ℕ → Bool
is_there text None = false
is_there text (Some index) = nat_le index 65535 && is_some (place_of text (section_name index))

abbrev pub is_above : ℕ → Option ℕ → Bool
is_above count None = false
is_above count (Some n) = nat_lt count n

-- hazard 83: the line is an entry of a list behind its number of entries, and it names a section that is there
unfoldable pub is_beyond : List ℕ → ℕ → ℕ → Line → Bool
is_beyond text section count line =
    is_kind line.kind Pair && (line.section == section)
    && is_above count (number_in 10 (key_of (text_of text line))) && is_there text (ok_number (number_of (value_of (text_of text line))))

-- a name in another spelling than that of CiA 306 is of no section
abbrev pub is_missing : List ℕ → Option (List ℕ) → Bool
is_missing text None = false
is_missing text (Some name) = not (is_some (place_of text name))

-- a name begins with the digits of an object that a list names, and CiA 306 has no such name
abbrev pub is_strange : List ℕ → List ℕ → Bool
is_strange text name = option_map_or (is_listed text) (strange_index name) false

-- a header's name is of no section that is read, and is meant for one
abbrev pub is_misspelled : List ℕ → List ℕ → Bool
is_misspelled text name = is_missing text (spelled name) || is_strange text name

-- what stands behind an opening bracket
abbrev pub inside : List ℕ → List ℕ
inside line = drop 1 (trim_start line)

-- brackets with a name between them stand at the front, and no equals sign behind them
abbrev pub is_bracketed : List ℕ → Bool
is_bracketed line =
    (slice_index (trim_start line) 0 == 91) && nat_lt (length (before_first (λ b. b == 93) (inside line))) (length (inside line))
    && not (slice_index (trim_start (after_first (λ b. b == 93) (inside line))) 0 == 61)

-- a name that the strict reading looks for, or that is meant for one
abbrev pub is_sought : List ℕ → List ℕ → Bool
is_sought text name = is_some (read_spelled name) || is_strange text name

-- a key that begins with such a name in brackets
abbrev pub is_hidden : List ℕ → List ℕ → Bool
is_hidden text line = is_bracketed line && is_sought text (before_first (λ b. b == 93) (inside line))

abbrev pub is_unseen_by : Kind → List ℕ → List ℕ → Bool
is_unseen_by Other text line = false
is_unseen_by Header text line = is_misspelled text (name_of line)
is_unseen_by Pair text line = is_hidden text line

-- hazard 84: the line describes a section, and nothing reads it
unfoldable pub is_unseen : List ℕ → Line → Bool
is_unseen text line = is_unseen_by line.kind text (text_of text line)

abbrev pub passes : List ℕ → Test → Line → Bool
passes text tests.Unlisted line = is_unlisted text line
passes text tests.Unidentified line = is_unidentified text line
passes text (tests.Beyond section count) line = is_beyond text section count line
passes text tests.Unseen line = is_unseen text line

-- the number of the first line that passes a test
abbrev pub first_line : List ℕ → Test → Option ℕ
first_line text test = option_map (λ found. found.0) (first_from 1 (passes text test) (lines_of text))

-- the number of the first line at which a list has an entry behind its number of entries
abbrev pub beyond_in : List ℕ → Option Place → Option ℕ
beyond_in text None = None
beyond_in text (Some place) = first_line text (tests.Beyond place.section (count_of text place.section))

abbrev pub beyond_of : List ℕ → List ℕ → Option ℕ
beyond_of text name = beyond_in text (place_of text name)

abbrev pub beyond_line : List ℕ → Option ℕ
beyond_line text =
    option_or (beyond_of text (codes "MandatoryObjects")) (option_or (beyond_of text (codes "OptionalObjects")) (beyond_of text (codes "ManufacturerObjects")))

abbrev pub unlisted_line : Bool → List ℕ → Option ℕ
unlisted_line is_left text = if is_left then None else first_line text tests.Unlisted

abbrev pub hazard_at : ℕ → Option ℕ → Option Hazard
hazard_at number None = None
hazard_at number (Some line) = Some (record { number = number; line = line })

-- the first hazard of a text, by its number; whether sections that no list names are left as they are
unfoldable pub hazard_of : Bool → List ℕ → Option Hazard
hazard_of is_left text =
    option_or (hazard_at 80 (unlisted_line is_left text)) (option_or (hazard_at 81 (first_line text tests.Unidentified))
    (option_or (hazard_at 82 (implicit_line text)) (option_or (hazard_at 83 (beyond_line text)) (hazard_at 84 (first_line text tests.Unseen)))))
