-- Which TPDOs of a device have another identifier (CiA 301, "PDO communication parameter record").
use Rattle.std.specs.Prelude.{ℕ, ◌+◌, ◌%◌, ◌^◌, ◌==◌, Bool, true, false, if◌then◌else◌, List, Option, Some, None, option_and_then, filter_map}
use Rattle.std.specs.List.{range_with_len}
use Rattle.cop_dict.specs.Find.{Entry}
use Rattle.cop_dict.specs.Pdo.{cob_id_at, exists_by}
use Rattle.cop_compare.specs.declared.identifiers.IdentifierChange.{IdentifierChange}

-- the identifier that a COB-ID gives a PDO: bits 0 to 28, and none where bit 31 says that it does not exist
abbrev pub identifier_in : ℕ → Option ℕ
identifier_in cob_id = if exists_by cob_id then Some (cob_id % 2 ^ 29) else None

-- the identifier of a TPDO, whose record is 1800h for the first
abbrev pub identifier_of : List Entry → ℕ → Option ℕ
identifier_of dict tpdo = option_and_then identifier_in (cob_id_at dict (0x17FF + tpdo))

abbrev pub is_same : Option ℕ → Option ℕ → Bool
is_same None None = true
is_same None (Some new) = false
is_same (Some old) None = false
is_same (Some old) (Some new) = old == new

-- what becomes of the identifier of a TPDO, if it does not stay
abbrev pub identifier_change : List Entry → List Entry → ℕ → Option IdentifierChange
identifier_change old new tpdo =
    if is_same (identifier_of old tpdo) (identifier_of new tpdo) then None
    else Some (record { tpdo = tpdo; old = identifier_of old tpdo; new = identifier_of new tpdo })

-- the changes of the identifiers of some TPDOs
abbrev pub changes_among : List Entry → List Entry → List ℕ → List IdentifierChange
changes_among old new tpdos = filter_map (identifier_change old new) tpdos

-- the changes of the TPDOs 1 to 512
unfoldable pub identifier_changes : List Entry → List Entry → List IdentifierChange
identifier_changes old new = changes_among old new (range_with_len 1 512)
