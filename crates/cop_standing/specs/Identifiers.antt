-- The identifiers that devices have for their PDOs before any plan.
use Rattle.std.specs.Prelude.{◌≡◌, ◌≢◌, ℕ, ◌+◌, ◌<◌, ◌%◌, ◌^◌, List, length, get_or, slice_get, Option, None, Some, option_map}
use Rattle.std.specs.Option.{option_map_or}
use Rattle.cop_dict.specs.Find.{Entry}
use Rattle.cop_dict.specs.Pdo.{cob_id_at}
use Rattle.cop_rows.specs.declared.pdo_table.PdoRow.{PdoRow}
use Rattle.cop_rta.specs.declared.streams.Stream.{Stream}
use Rattle.cop_net.specs.Network.{Net}
use Rattle.cop_net.specs.Signals.{IsPdoId}
use Rattle.cop_plan.specs.Values.{HaveIds, id_of}
use Rattle.cop_standing.specs.declared.faults.StandingFault.{StandingFault}
use Rattle.cop_standing.specs.declared.faults.StandingFault.TheVariants as faults

-- bits 0 to 29 of a COB-ID (CiA 301, "PDO communication parameter record"): bit 31 only says whether the PDO exists, and one of 29 bits has bit 29
-- set, so that it is no identifier of 11 bits
abbrev pub identifier_in : ℕ → ℕ
identifier_in cob_id = cob_id % 2 ^ 30

-- the identifier of a TPDO in a dictionary, whose record is 1800h for the first; 0, which no PDO may have, where there is none
abbrev pub identifier_of : Option (List Entry) → ℕ → ℕ
identifier_of None tpdo = 0
identifier_of (Some dict) tpdo = option_map_or identifier_in (cob_id_at dict (0x17FF + tpdo)) 0

-- the same of a row of the table, whose node has a device
abbrev pub row_identifier : Net → PdoRow → ℕ
row_identifier net row = identifier_of (option_map (λ device. device.dictionary) (get_or net.equipment.devices row.node None)) row.tpdo

-- the identifier that the device has for the PDO of row p by its EDS file
abbrev pub standing_id : Net → ℕ → ℕ
standing_id net p = option_map_or (row_identifier net) (slice_get net.rows p) 0

-- the PDO of row p can keep it: it is one that PDOs may have, and no earlier row has it
pub record CanKeep (ids : ℕ → ℕ) (p : ℕ) : Type 0 where
  pub permitted : IsPdoId (ids p)
  pub own : (r : ℕ) → r < p → ids r ≢ ids p

-- the identifiers of the first so many rows, which can keep them
pub record AreIds (net : Net) (count : ℕ) (ids : List ℕ) : Type 0 where
  pub as_many : length ids ≡ count
  pub its : (p : ℕ) → p < count → id_of ids p ≡ standing_id net p
  pub kept : (p : ℕ) → p < count → CanKeep (standing_id net) p

-- the streams of a network as it stands: each PDO has its device's identifier for it, and can keep it; the others have theirs
pub record StandAs (net : Net) (streams : List Stream) : Type 0 where
  pub kept : (p : ℕ) → p < length net.rows → CanKeep (standing_id net) p
  pub renamed : HaveIds net.set (length net.rows) (standing_id net) streams

-- the first row that cannot keep its identifier
pub record IsFirstBroken (net : Net) (row : ℕ) : Type 0 where
  pub inside : row < length net.rows
  pub earlier : (p : ℕ) → p < row → CanKeep (standing_id net) p

-- why the streams do not stand so
abbrev pub Explains : Net → StandingFault → Type 0
Explains net (faults.Outside row id) = IsFirstBroken net row × (standing_id net row ≡ id) × (IsPdoId id → ⊥)
Explains net (faults.Taken row earlier) = IsFirstBroken net row × IsPdoId (standing_id net row) × (earlier < row) × (standing_id net earlier ≡ standing_id net row)
Explains net faults.Memory = Unit {0}
