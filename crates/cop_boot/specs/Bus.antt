-- The channels of a boot as its frames are kept: all in the order in which they were sent, and how many are behind each channel.
use Rattle.std.specs.Prelude.{◌≡◌, ◌==◌, ◌<◌, ◌≤◌, ℕ, Bool, false, is_some, List, map, filter, drop, get_or, length, vec_len, Some, None, ◌⊎◌}
use Rattle.cop_sdo.specs.Message.{Message, message_of}
use Rattle.cop_boot.specs.declared.bus.Bus.{Bus}
use Rattle.cop_boot.specs.declared.turn.Turn.{Turn}
use Rattle.cop_dict.specs.Find.{Entry}
use Rattle.cop_boot.specs.declared.«end».End.{End}
use Rattle.cop_boot.specs.declared.«end».End.TheVariants.{Ready, Silent}
use Rattle.cop_setup.specs.Settings.{planned}
use Rattle.cop_boot.specs.Node.{Node}
use Rattle.cop_boot.specs.Manager.{Managing, node_of, end_at, all_ready, is_command, commands_of}
use Rattle.cop_boot.specs.Device.{Attached}
use Rattle.cop_boot.specs.Booted.{device_of}
use Rattle.cop_boot.specs.Schedule.{Line, World, Boots, is_for, line_of, sent_in}

-- the frames on the way to a node
abbrev pub to_of : Bus → ℕ → List Message
to_of bus n = map message_of (filter (λ frame. is_for n (message_of frame)) (drop (get_or bus.delivered n 0) bus.sent.items))

-- the frames on the way from it
abbrev pub from_of : Bus → ℕ → List Message
from_of bus n = map (λ answer. message_of answer.frame) (filter (λ answer. answer.node == n) (drop (get_or bus.heard n 0) bus.answers.items))

abbrev pub line_at : Bus → List Attached → ℕ → Line
line_at bus devices n = record { number = n; to = to_of bus n; from = from_of bus n; device = device_of devices n }

abbrev pub world_at : Managing → Bus → List Attached → World
world_at m bus devices = record { manager = m; lines = map (λ node. line_at bus devices node.number) m.nodes }

-- no channel is ahead of what was sent
pub record IsBus (bus : Bus) : Type 0 where
  pub places : length bus.delivered ≡ 256
  pub others : length bus.heard ≡ 256
  pub delivered : (n : ℕ) → get_or bus.delivered n 0 ≤ vec_len bus.sent
  pub heard : (n : ℕ) → get_or bus.heard n 0 ≤ vec_len bus.answers

-- a table tells which numbers are those of nodes
abbrev pub KnowsNodes : List Node → List Bool → Type 0
KnowsNodes nodes known = (n : ℕ) → n < 256 → get_or known n false ≡ is_some (node_of nodes n)

-- devices of other nodes than the manager's are as they were
abbrev pub KeepsOthers : Managing → List Attached → List Attached → Type 0
KeepsOthers m old new = (n : ℕ) → node_of m.nodes n ≡ None → device_of new n ≡ device_of old n

-- A boot by turns made this of a manager and of devices. Of the frames that the manager sent, two at most are NMT commands: it
-- reset the communication of all nodes once, and started them once where it says that they were started.
pub record Runs (m : Managing) (devices : List Attached) (turns : List Turn) (later : Managing) (after : List Attached) : Type 0 where
  pub world : World
  pub boots : Boots m devices turns world
  pub manager : later ≡ world.manager
  pub attached : (n : ℕ) (line : Line) → line_of world.lines n ≡ Some line → line.device ≡ device_of after n
  pub others : KeepsOthers m devices after
  pub commands : filter is_command (sent_in m devices turns world boots) ≡ commands_of later.started

-- the device of a node has the planned dictionary
pub record HasPlanned (m : Managing) (built : ℕ → List Entry) (after : List Attached) (n : ℕ) : Type 0 where
  pub node : Node
  pub device : Attached
  pub manages : node_of m.nodes n ≡ Some node
  pub there : device_of after n ≡ Some device
  pub dict : device.dict ≡ planned (built n) node.settings

-- a node that is ready has the planned dictionary, no node is aborted or restarting, and the nodes are started exactly where all are
-- ready
pub record Made (m : Managing) (built : ℕ → List Entry) (later : Managing) (after : List Attached) : Type 0 where
  pub configured : (n : ℕ) → end_at later.nodes n ≡ Some Ready → HasPlanned m built after n
  pub no_other : (n : ℕ) (e : End) → end_at later.nodes n ≡ Some e → (e ≡ Ready) ⊎ (e ≡ Silent n)
  pub started : later.started ≡ all_ready later.nodes
