-- Which PDOs exist in a device that has the settings of a plan (CiA 301, "PDO communication parameter record").
use Rattle.std.specs.Prelude.{◌≡◌, ℕ, ◌%◌, ◌^◌, true, false, List, Option, Some, None}
use Rattle.cop_dict.specs.Find.{Entry, entry_at, unsigned32_of}
use Rattle.cop_dict.specs.Pdo.{exists_by, is_communication}

-- a PDO exists with its identifier where the plan uses it, and bits 11 to 29 of its COB-ID are 0; else it does not exist
abbrev pub IsAsPlanned : Option ℕ → Option ℕ → Type 0
IsAsPlanned (Some id) (Some cob_id) = (exists_by cob_id ≡ true) × (cob_id % 2 ^ 30 ≡ id)
IsAsPlanned (Some id) None = ⊥
IsAsPlanned None (Some cob_id) = exists_by cob_id ≡ false
IsAsPlanned None None = ⊥

-- the same of a communication record by its COB-ID; a record without one is not used
abbrev pub IsRecordAsPlanned : Option ℕ → Option Entry → Type 0
IsRecordAsPlanned id (Some entry) = IsAsPlanned id (unsigned32_of entry)
IsRecordAsPlanned (Some id) None = ⊥
IsRecordAsPlanned None None = Unit {0}

-- exactly the PDOs that a plan uses exist in a dictionary, each with its identifier. `ids` tells the identifier of the PDO at an
-- index, where it is used.
abbrev pub HasPlannedPdos : (ℕ → Option ℕ) → List Entry → Type 0
HasPlannedPdos ids dict = (index : ℕ) → is_communication index ≡ true → IsRecordAsPlanned (ids index) (entry_at dict index 1)
