-- The identifiers of the PDOs that use a node's communication records.
use Rattle.std.specs.Prelude.{◌≡◌, ◌<◌, ℕ, ◌+◌, ◌-◌, Bool, ◌||◌, List, [], ◌∷◌, map, get_or, length, if◌then◌else◌, Option, Some, None}
use Rattle.std.specs.Option.{option_or}
use Rattle.cop_rows.specs.declared.pdo_table.Consumer.{Consumer}
use Rattle.cop_rows.specs.declared.pdo_table.PdoRow.{PdoRow}
use Rattle.cop_net.specs.Pdos.{sent_by, taken_by}
use Rattle.cop_net.specs.Uses.{is_record, is_used}

-- one of the consumers is the communication record at an index of a node
abbrev pub takes : List Consumer → ℕ → ℕ → Bool
takes consumers node index = is_used (map taken_by consumers) node index

-- the PDO of a row uses the communication record at an index of a node: it is the sender's, or that of a node that takes it
abbrev pub uses : PdoRow → ℕ → ℕ → Bool
uses row node index = is_record node index (sent_by row) || takes row.consumers node index

-- the identifier of the PDO that uses a record, where the rows' PDOs have these identifiers: a receiver has its sender's
abbrev pub id_at : List PdoRow → List ℕ → ℕ → ℕ → Option ℕ
id_at [] ids node index = None
id_at (row ∷ rows) [] node index = None
id_at (row ∷ rows) (id ∷ ids) node index = if uses row node index then Some id else id_at rows ids node index

-- an identifier is noted at each index of a test that had none; place 0 is that of index 1400h
pub record IsNoted (now before : List (Option ℕ)) (is_meant : ℕ → Bool) (id : ℕ) : Type 0 where
  pub each : (place : ℕ) → place < 1536 → get_or now place None ≡ option_or (get_or before place None) (if is_meant (0x1400 + place) then Some id else None)

-- what a table has at the index of a record
abbrev pub id_in : List (Option ℕ) → ℕ → Option ℕ
id_in places index = get_or places (index - 0x1400) None

-- a table has the identifiers of a node's records
pub record KnowsIds (places : List (Option ℕ)) (rows : List PdoRow) (ids : List ℕ) (node : ℕ) : Type 0 where
  pub size : length places ≡ 1536
  pub each : (place : ℕ) → place < 1536 → get_or places place None ≡ id_at rows ids node (0x1400 + place)
