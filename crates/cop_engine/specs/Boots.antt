-- The boot of a planned network by drawn turns, and what is said of it.
use Rattle.std.specs.Prelude.{◌≡◌, ℕ, zero, suc, List, [], ◌∷◌, ◌++◌, map, false, Option, Some, None, is_some, unwrap_or, if◌then◌else◌}
use Rattle.cop_nmt.specs.declared.states.NodeState.TheVariants.{PreOperational}
use Rattle.cop_sdo.specs.Server.{idle}
use Rattle.cop_dict.specs.Find.{Entry}
use Rattle.cop_dict.specs.Dict.{initial}
use Rattle.cop_net.specs.Devices.{File}
use Rattle.cop_net.specs.Network.{Net}
use Rattle.cop_plan.specs.declared.assigning.Outcome.{Outcome}
use Rattle.cop_plan.specs.declared.choices.Asked.{Asked}
use Rattle.cop_plan.specs.declared.assigning.Outcome.TheVariants.{Planned, Refused}
use Rattle.cop_dcf.specs.Settings.{dictionary_of, node_settings}
use Rattle.cop_boot.specs.declared.«end».End.{End}
use Rattle.cop_boot.specs.declared.«end».End.TheVariants.{Ready, Aborted, Silent, Restarting}
use Rattle.cop_boot.specs.declared.«end».Phase.TheVariants.{Waiting}
use Rattle.cop_boot.specs.Node.{Node}
use Rattle.cop_boot.specs.Manager.{Managing, end_at}
use Rattle.cop_boot.specs.Device.{Attached}
use Rattle.cop_boot.specs.Booted.{ReadyInTime}
use Rattle.cop_boot.specs.Bus.{Runs, Made}
use Rattle.cop_boot.specs.NetworkBoot.{HavePlannedPdos}
use Rattle.cop_boot_answer.specs.declared.states.State.{State}
use Rattle.cop_boot_answer.specs.declared.states.State.TheVariants as states
use Rattle.cop_boot_answer.specs.declared.answers.NodeLine.{NodeLine}
use Rattle.cop_boot_answer.specs.Answers.{Told, text_of}
use Rattle.cop_engine.specs.Networks.{IsPlannedNetwork}
use Rattle.cop_engine.specs.Judgements.{none_passes}
use Rattle.cop_engine.specs.Turns.{turns_drawn}

-- the nodes from 1 to this one that have a device, by rising number
unfoldable pub nodes_to : Net → ℕ → List ℕ
nodes_to net zero = []
nodes_to net (suc n) = nodes_to net n ++ (if is_some (dictionary_of net (suc n)) then suc n ∷ [] else [])

abbrev pub device_nodes : Net → List ℕ
device_nodes net = nodes_to net 127

-- a node whose boot has not begun, with the settings that a plan with these identifiers has for it; its boot-up is awaited for 20,000,000
-- ticks (5 s)
abbrev pub managed : Net → List ℕ → ℕ → Node
managed net ids node = record { number = node; settings = node_settings net ids node; limit = 20000000; boots = 0; phase = Waiting 0 }

-- the manager of a plan
abbrev pub manager_of : Net → List ℕ → List ℕ → Managing
manager_of net ids nodes = record { begun = false; clock = 0; started = false; nodes = map (managed net ids) nodes }

-- the dictionary that a node's device begins with: its objects have their initial values
abbrev pub dictionary_at : Net → ℕ → List Entry
dictionary_at net node = initial (unwrap_or (dictionary_of net node) [])

-- the device of a node, as its EDS file describes it
abbrev pub device_at : Net → ℕ → Attached
device_at net node = record { number = node; state = PreOperational; dict = dictionary_at net node; server = record { node = node; state = idle } }

-- what is said of a node's end
abbrev pub state_of : Option End → State
state_of None = states.Undecided
state_of (Some Ready) = states.Ready
state_of (Some (Silent node)) = states.Silent
state_of (Some (Restarting node)) = states.Restarting
state_of (Some (Aborted node index sub code)) = states.Aborted (record { index = index; sub = sub }) code

-- the line of a node
abbrev pub node_line : Managing → ℕ → NodeLine
node_line m node = record { node = node; state = state_of (end_at m.nodes node) }

-- a line for each node, and whether they were started
abbrev pub boot_answer : Managing → List ℕ → Told
boot_answer m nodes = record { nodes = map (node_line m) nodes; started = Some m.started; heartbeats = [] }

-- A boot of a network by a plan with these identifiers, by the turns that a seed draws, made this of the manager and of the devices:
-- a node that is ready has the planned dictionary, no node is aborted or restarting, and the nodes are started exactly where
-- all are ready. A node is ready where its turns came in turn once more than it has settings, and no moment was too late. In the
-- device of each that is ready exactly the PDOs of the plan exist. The answer says so.
pub record IsBooted (seed : ℕ) (net : Net) (ids : List ℕ) (answer : Told) : Type 0 where
  pub later : Managing
  pub after : List Attached
  pub runs : Runs (manager_of net ids (device_nodes net)) (map (device_at net) (device_nodes net)) (turns_drawn seed (device_nodes net)) later after
  pub made : Made (manager_of net ids (device_nodes net)) (dictionary_at net) later after
  pub in_time : ReadyInTime (manager_of net ids (device_nodes net)) (map (device_at net) (device_nodes net)) (turns_drawn seed (device_nodes net)) later
  pub pdos : HavePlannedPdos net ids later after
  pub says : answer ≡ boot_answer later (device_nodes net)

-- where no rate passes nothing is booted
abbrev pub IsBootedBy : ℕ → Net → Outcome → Option Told → Type 0
IsBootedBy seed net (Planned plan) (Some answer) = IsBooted seed net plan.ids answer
IsBootedBy seed net (Planned plan) None = ⊥
IsBootedBy seed net (Refused refusals) answer = answer ≡ None

-- the text of an answer, and that no rate passes where there is none
abbrev pub boot_said : Option Told → List ℕ
boot_said None = none_passes
boot_said (Some answer) = text_of answer

-- the boot of the network that the tables and the EDS files say, by its plan
pub record IsBootOf (asked : Asked) (seed : ℕ) (nodes pdos : List ℕ) (eds : List File) (text : List ℕ) : Type 0 where
  pub outcome : Outcome
  pub network : IsPlannedNetwork asked nodes pdos eds outcome
  pub answer : Option Told
  pub booted : IsBootedBy seed network.net outcome answer
  pub says : text ≡ boot_said answer
