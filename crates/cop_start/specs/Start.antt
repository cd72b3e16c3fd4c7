-- The devices from which tables start.
use Rattle.std.specs.Prelude.{ℕ, ◌≡◌, ◌+◌, ◌<◌, ◌≤◌, Bool, ◌&&◌, List, [], ◌∷◌, ◌++◌, All, IsTrue, nat_lt, nat_le, if◌then◌else◌, Option, Some, None}
use Rattle.cop_dict.specs.Find.{Entry}
use Rattle.cop_rows.specs.Names.{is_name}

-- a device's node, the name of its EDS file, and the entries that the file describes for this node
pub record Device : Type 0 where
  pub node : ℕ
  pub file : List ℕ
  pub dict : List Entry

-- the nodes of devices rise from behind a number up to 127, so no two are equal
abbrev pub Rise : ℕ → List Device → Type 0
Rise behind [] = Unit {0}
Rise behind (d ∷ devices) = (behind < d.node) × (d.node ≤ 127) × Rise d.node devices

-- devices by rising node from 1 to 127, whose files have names that a table of nodes takes
pub record AreSources (devices : List Device) : Type 0 where
  pub nodes : Rise 0 devices
  pub names : All (λ d. IsTrue (is_name d.file)) devices

-- the node of the last device behind a number, which it is itself where there is none
abbrev pub last_from : ℕ → List Device → ℕ
last_from behind [] = behind
last_from behind (d ∷ devices) = last_from d.node devices

-- the greatest node that a device has, 0 where there is none
abbrev pub last_node : List Device → ℕ
last_node devices = last_from 0 devices

-- a device may be added: its node is above all others and at most 127, and a table takes the name of its file
abbrev pub is_taken : List Device → ℕ → List ℕ → Bool
is_taken devices node file = nat_lt (last_node devices) node && nat_le node 127 && is_name file

-- the devices with one more behind them, where it may be added
abbrev pub added : List Device → ℕ → List ℕ → List Entry → List Device
added devices node file dict = if is_taken devices node file then devices ++ record { node = node; file = file; dict = dict } ∷ [] else devices

-- the node above the greatest one, if it is at most 127
abbrev pub next_node : List Device → Option ℕ
next_node devices = if nat_lt (last_node devices) 127 then Some (last_node devices + 1) else None

-- the nodes are a number, the next one, and so on, in the order of the devices
abbrev pub IsNumberedFrom : ℕ → List Device → Type 0
IsNumberedFrom node [] = Unit {0}
IsNumberedFrom node (d ∷ devices) = (d.node ≡ node) × IsNumberedFrom (node + 1) devices
