-- The rules for writing PDO communication and mapping records (CiA 301, "PDO communication parameter record").
use Rattle.std.specs.Prelude.{ℕ, ◌-◌, ◌%◌, ◌^◌, Bool, true, false, not, ◌&&◌, ◌||◌, List, [], ◌∷◌, ◌==◌, nat_lt, nat_le, if◌then◌else◌, Option, Some, None, option_and_then, Result, Ok, Err}
use Rattle.std.specs.Option.{option_map_or, option_or}
use Rattle.cop_dict.specs.declared.abort.Abort.{Abort}
use Rattle.cop_dict.specs.declared.abort.Abort.TheVariants as aborts
use Rattle.cop_dict.specs.declared.mapping.MappingFault.{MappingFault}
use Rattle.cop_dict.specs.declared.mapping.MappingFault.TheVariants as faults
use Rattle.cop_dict.specs.Number.{number, is_zero}
use Rattle.cop_dict.specs.Rules.{first_broken}
use Rattle.cop_dict.specs.Find.{Entry, unsigned32_of, entry_at}
use Rattle.cop_dict.specs.Mapping.{is_between, layout_bits}

abbrev pub is_communication : ℕ → Bool
is_communication index = is_between 0x1400 0x15FF index || is_between 0x1800 0x19FF index

abbrev pub is_mapping : ℕ → Bool
is_mapping index = is_between 0x1600 0x17FF index || is_between 0x1A00 0x1BFF index

-- the COB-ID of a PDO
abbrev pub is_cob_id : Entry → Bool
is_cob_id entry = is_communication entry.index && (entry.sub == 1)

-- bit 31 of a COB-ID is clear
abbrev pub exists_by : ℕ → Bool
exists_by cob_id = nat_lt cob_id (2 ^ 31)

-- a COB-ID that isn't an UNSIGNED32 counts as existing
abbrev pub keeps_pdo : Entry → Bool
keeps_pdo entry = option_map_or exists_by (unsigned32_of entry) true

-- the COB-ID of a communication record, where it is an UNSIGNED32
abbrev pub cob_id_at : List Entry → ℕ → Option ℕ
cob_id_at dict index = option_and_then unsigned32_of (entry_at dict index 1)

-- the PDO of a communication record exists
abbrev pub pdo_exists : List Entry → ℕ → Bool
pdo_exists dict index = option_map_or keeps_pdo (entry_at dict index 1) false

-- sub 0 of a record is there and isn't 0
abbrev pub has_entries : List Entry → ℕ → Bool
has_entries dict index = option_map_or (λ entry. not (is_zero entry.value)) (entry_at dict index 0) false

-- bits 0 to 29 of a PDO's COB-ID change while it exists
abbrev pub moves_pdo : Entry → ℕ → Bool
moves_pdo entry new =
    option_map_or (λ old. exists_by old && not (old % 2 ^ 30 == new % 2 ^ 30)) (unsigned32_of entry) true

-- identifiers that no PDO may have (CiA 301, "Restricted CAN-IDs")
abbrev pub is_restricted : ℕ → Bool
is_restricted id =
    nat_le id 0x7F || is_between 0x101 0x180 id || is_between 0x581 0x5FF id || is_between 0x601 0x67F id
    || is_between 0x6E0 0x6FF id || is_between 0x701 0x7FF id

-- a COB-ID with bit 31 clear that has bit 29 set, or an identifier that no PDO may have
abbrev pub names_restricted : ℕ → Bool
names_restricted new = exists_by new && (nat_le (2 ^ 29) (new % 2 ^ 30) || is_restricted (new % 2 ^ 11))

-- the rules for a write to a COB-ID, in their order
abbrev pub cob_id_rules : Entry → ℕ → List (Bool × Abort)
cob_id_rules entry new = (moves_pdo entry new, aborts.DeviceState) ∷ (names_restricted new, aborts.InvalidValue) ∷ []

-- the rules for a write to a mapping record, in their order: its PDO exists, or an entry changes while sub 0 isn't 0
abbrev pub mapping_rules : List Entry → Entry → List (Bool × Abort)
mapping_rules dict entry =
    (pdo_exists dict (entry.index - 0x200), aborts.DeviceState)
    ∷ (nat_lt 0 entry.sub && has_entries dict entry.index, aborts.DeviceState)
    ∷ []

-- the code of a mapping that can't be used
abbrev pub refused_layout : Result ℕ MappingFault → Option Abort
refused_layout (Ok bits) = None
refused_layout (Err faults.TooLong) = Some aborts.MappingTooLong
refused_layout (Err _) = Some aborts.NotMappable

-- the rule for a number that is written to sub 0 of a mapping record: so many of its entries are a mapping that can be used
abbrev pub refused_count : List Entry → Entry → ℕ → Option Abort
refused_count dict entry count =
    if (entry.sub == 0) && nat_lt 0 count then refused_layout (layout_bits dict entry.index count) else None

abbrev pub refused_mapping : List Entry → Entry → ℕ → Option Abort
refused_mapping dict entry count = option_or (first_broken (mapping_rules dict entry)) (refused_count dict entry count)

-- the first rule on PDOs that a write breaks
unfoldable pub refused_by_pdos : List Entry → Entry → List ℕ → Option Abort
refused_by_pdos dict entry bytes =
    if is_cob_id entry then first_broken (cob_id_rules entry (number bytes)) else
    if is_mapping entry.index then refused_mapping dict entry (number bytes) else None
