-- Objects by which a device does something on the bus, and the records of PDOs (CiA 301: RPDO at 1400h to 15FFh, TPDO at 1800h to 19FFh).
use Rattle.std.specs.Prelude.{ℕ, Bool, false, ◌&&◌, ◌||◌, ◌-◌, ◌/◌, ◌%◌, ◌==◌, not, nat_le, List, slice_get, codes, if◌then◌else◌, Option, Some, None}
use Rattle.std.specs.Option.{option_map, option_map_or, option_and_then}
use Rattle.cop_eds.specs.declared.line.Kind.TheVariants.{Header}
use Rattle.cop_eds.specs.declared.line.Line.{Line}
use Rattle.cop_eds.specs.Text.{name_of}
use Rattle.cop_eds.specs.Names.{code_of}
use Rattle.cop_eds.specs.Lines.{lines_of, text_of, is_kind}
use Rattle.cop_eds.specs.Objects.{object_section}
use Rattle.cop_eds_hazards.specs.Stated.{stated}
use Rattle.cop_eds_hazards.specs.Listed.{names, is_listed}

-- the index of a PDO's communication record
abbrev pub is_record : ℕ → Bool
is_record index = (nat_le 0x1400 index && nat_le index 0x15FF) || (nat_le 0x1800 index && nat_le index 0x19FF)

-- the index is of an object by which a device does something on the bus: SYNC (1005h, 1006h), EMCY (1014h, 1015h), heartbeats (1016h, 1017h), the SDO
-- server (1200h), and the records and mappings of PDOs (1400h to 1BFFh)
abbrev pub is_guarded : ℕ → Bool
is_guarded index =
    ((index == 0x1005) || (index == 0x1006) || (nat_le 0x1014 index && nat_le index 0x1017))
    || ((index == 0x1200) || (nat_le 0x1400 index && nat_le index 0x1BFF))

-- the number of the object's section that a line begins
abbrev pub begun : List ℕ → Line → Option ℕ
begun text line = if is_kind line.kind Header then code_of (name_of (text_of text line)) else None

-- the object's section of this number is of such an object, and no list names it
abbrev pub is_unlisted_code : List ℕ → ℕ → Bool
is_unlisted_code text code = is_guarded (code / 257) && not (is_listed text (code / 257))

-- hazard 80: the line begins a section of an object by which a device does something on the bus, and no list names it
unfoldable pub is_unlisted : List ℕ → Line → Bool
is_unlisted text line = option_map_or (is_unlisted_code text) (begun text line) false

-- the DataType of a section is UNSIGNED32 (CiA 301: 0007h)
abbrev pub is_unsigned : List ℕ → Option ℕ → Bool
is_unsigned text None = false
is_unsigned text (Some section) = names 7 (stated text section (codes "DataType"))

-- the sub 1 of an index is an object of the type UNSIGNED32, as the COB-ID of a PDO is
abbrev pub has_identifier : List ℕ → ℕ → Bool
has_identifier text index = is_unsigned text (object_section text index 1)

-- the number is that of the own section of a PDO's communication record that a list names and that has no identifier
abbrev pub is_unidentified_code : List ℕ → ℕ → Bool
is_unidentified_code text code =
    (code % 257 == 0) && is_record (code / 257) && is_listed text (code / 257) && not (has_identifier text (code / 257))

-- hazard 81: the line begins the own section of such a record
unfoldable pub is_unidentified : List ℕ → Line → Bool
is_unidentified text line = option_map_or (is_unidentified_code text) (begun text line) false

-- the index of the object whose section begins at the line of this number, from 1
unfoldable pub index_at : List ℕ → ℕ → Option ℕ
index_at text line =
    if line == 0 then None else option_map (λ code. code / 257) (option_and_then (begun text) (slice_get (lines_of text) (line - 1)))
