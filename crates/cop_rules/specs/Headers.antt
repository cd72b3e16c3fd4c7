-- The headers that the tables of a network are read by, as they stand in a file.
use Rattle.std.specs.Prelude.{ℕ, List, [], ◌∷◌, ◌++◌, codes}
use Rattle.cop_rows.specs.NodeReading as nodes
use Rattle.cop_rows.specs.PdoReading as pdos
use Rattle.cop_rows.specs.SettingReading as settings
use Rattle.cop_net.specs.declared.faults.Table.{Table}
use Rattle.cop_net.specs.declared.faults.Table.TheVariants.{Nodes, Pdos, Settings}

-- fields with commas between them
abbrev pub with_commas : List (List ℕ) → List ℕ
with_commas [] = []
with_commas (field ∷ []) = field
with_commas (field ∷ next ∷ fields) = field ++ (codes "," ++ with_commas (next ∷ fields))

-- the header of a table
abbrev pub header_of : Table → List ℕ
header_of Nodes = with_commas nodes.header
header_of Pdos = with_commas pdos.header
header_of Settings = with_commas settings.header

-- the header of the table of nodes with deadlines of SDO frames
abbrev pub header_with_deadline : List ℕ
header_with_deadline = with_commas nodes.header_with_deadline
