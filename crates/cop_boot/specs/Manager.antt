-- What a manager does with frames and moments.
use Rattle.std.specs.Prelude.{ℕ, ◌+◌, max, Bool, true, false, not, ◌&&◌, ◌||◌, List, [], ◌∷◌, ◌++◌, map, find, flat_map, slice_index, ◌==◌, Option, Some, None, option_to_list, option_and_then, if◌then◌else◌}
use Rattle.std.specs.List.{list_all}
use Rattle.cop_sdo.specs.Message.{Message, message_of}
use Rattle.cop_sdo.specs.Reply.{is_answer}
use Rattle.cop_boot.specs.declared.«end».End.{End}
use Rattle.cop_boot.specs.declared.«end».End.TheVariants.{Ready}
use Rattle.cop_boot.specs.declared.«end».Phase.{Phase}
use Rattle.cop_boot.specs.declared.«end».Phase.TheVariants.{Waiting, Sending, Over}
use Rattle.cop_boot.specs.declared.input.Input.{Input}
use Rattle.cop_boot.specs.declared.input.Input.TheVariants as inputs
use Rattle.cop_boot.specs.Node.{Node, Moved, stays, booted, answered, awaited, is_final}

-- the clock is the greatest moment that was handed in
pub record Managing : Type 0 where
  pub begun : Bool
  pub clock : ℕ
  pub started : Bool
  pub nodes : List Node

-- a node says that it has booted
abbrev pub is_boot_up : ℕ → Message → Bool
is_boot_up number frame = (frame.id == 0x700 + number) && ((frame.len == 1) && (slice_index frame.body 0 == 0))

-- a frame has the identifier of a node's boot-up, or of its answers
abbrev pub comes_from : ℕ → ℕ → Bool
comes_from number id = (id == 0x700 + number) || (id == 0x580 + number)

-- what a frame does to a node: its own boot-ups and answers alone count
abbrev pub heard_by : Message → ℕ → Node → Moved
heard_by frame now node =
    if is_boot_up node.number frame then booted node now
    else if is_answer node.number frame then answered node now frame.body
    else stays node

abbrev pub end_in : Phase → Option End
end_in (Over e) = Some e
end_in (Waiting since) = None
end_in (Sending done since) = None

abbrev pub is_ready_in : Phase → Bool
is_ready_in (Over Ready) = true
is_ready_in _ = false

abbrev pub is_ready : Node → Bool
is_ready node = is_ready_in node.phase

-- every node is ready, and there is one
abbrev pub all_ready : List Node → Bool
all_ready [] = false
all_ready (node ∷ nodes) = list_all is_ready (node ∷ nodes)

-- NMT commands to all nodes: reset communication, and start
abbrev pub nmt : ℕ → Message
nmt command = record { id = 0; body = command ∷ 0 ∷ 0 ∷ 0 ∷ 0 ∷ 0 ∷ 0 ∷ 0 ∷ []; len = 2 }

abbrev pub reset_all : Message
reset_all = nmt 130

abbrev pub start_all : Message
start_all = nmt 1

-- an NMT command is a frame with the identifier 0
abbrev pub is_command : Message → Bool
is_command frame = frame.id == 0

-- the start, where the nodes were started
abbrev pub starts_of : Bool → List Message
starts_of started = if started then start_all ∷ [] else []

-- the commands that a manager sends: one reset, and one start where the nodes were started
abbrev pub commands_of : Bool → List Message
commands_of started = reset_all ∷ starts_of started

-- a manager after a call, and the frames that it sends
pub record Managed : Type 0 where
  pub manager : Managing
  pub frames : List Message

-- the nodes are started once, when all of them are ready
abbrev pub starting : Managing → List Message → Managed
starting m frames =
    if not m.started && all_ready m.nodes then record { manager = record m { started = true }; frames = frames ++ start_all ∷ [] }
    else record { manager = m; frames = frames }

abbrev pub at_least : Managing → ℕ → Managing
at_least m now = record m { clock = max m.clock now }

abbrev pub moved : (Node → Moved) → Managing → Managing
moved f m = record m { nodes = map (λ node. (f node).node) m.nodes }

abbrev pub sent_by : (Node → Moved) → List Node → List Message
sent_by f nodes = flat_map (λ node. option_to_list (f node).frame) nodes

-- a manager hears a frame; before it begins, nothing counts
abbrev pub heard : Managing → Message → ℕ → Managed
heard m frame now =
    if m.begun then starting (moved (heard_by frame (max m.clock now)) (at_least m now)) (sent_by (heard_by frame (max m.clock now)) m.nodes)
    else record { manager = m; frames = [] }

-- a moment is reached: the frames are those of the silent nodes, by rising number
abbrev pub passed : Managing → ℕ → Managed
passed m now =
    if m.begun then record {
      manager = moved (λ node. awaited node (max m.clock now)) (at_least m now);
      frames = sent_by (λ node. awaited node (max m.clock now)) m.nodes;
    } else record { manager = m; frames = [] }

-- one call for a moment gives at most one frame: the node of least number from which a setting was out too long is given up, and
-- before it each whose boot-up is missing
abbrev pub with_next : Node → List Node × Option Message → List Node × Option Message
with_next node rest = (node ∷ rest.0, rest.1)

abbrev pub until_frame : Node → Option Message → List Node → List Node × Option Message → List Node × Option Message
until_frame node (Some frame) rest later = (node ∷ rest, Some frame)
until_frame node None rest later = with_next node later

abbrev pub first_silent : ℕ → List Node → List Node × Option Message
first_silent now [] = ([], None)
first_silent now (node ∷ rest) = until_frame (awaited node now).node (awaited node now).frame rest (first_silent now rest)

abbrev pub reached : Managing → ℕ → Managing × Option Message
reached m now =
    if m.begun then (record (at_least m now) { nodes = (first_silent (max m.clock now) m.nodes).0 }, (first_silent (max m.clock now) m.nodes).1) else (m, None)

abbrev pub waiting_from : ℕ → Node → Node
waiting_from now node = record node { boots = 0; phase = Waiting now }

abbrev pub begun_at : Managing → ℕ → Managed
begun_at m now = record {
  manager = record { begun = true; clock = now; started = false; nodes = map (waiting_from now) m.nodes };
  frames = reset_all ∷ [];
}

-- what a call sends stands behind what was sent before
abbrev pub behind : List Message → Managed → Managed
behind before out = record { manager = out.manager; frames = before ++ out.frames }

-- how many nodes have no end that stands, whatever comes
abbrev pub open_nodes : List Node → ℕ
open_nodes [] = 0
open_nodes (node ∷ nodes) = (if is_final node.phase then 0 else 1) + open_nodes nodes

-- a call, and then others
abbrev pub and_then : Managed → (Managing → Managed) → Managed
and_then a f = record { manager = (f a.manager).manager; frames = a.frames ++ (f a.manager).frames }

-- what a manager meets, as contracts see it: a frame that it hears, or a moment that is handed in
pub data Meeting : Type 0 where
  Heard : (frame : Message) → Meeting
  Moment : (now : ℕ) → Meeting

abbrev pub meeting_of : Input → Meeting
meeting_of (inputs.Heard frame) = Heard (message_of frame)
meeting_of (inputs.Moment now) = Moment now

-- each frame is heard at the moment handed in last
abbrev pub met : Managing → Meeting → Managed
met m (Heard frame) = heard m frame m.clock
met m (Moment now) = passed m now

unfoldable pub met_all : Managing → List Meeting → Managed
met_all m [] = record { manager = m; frames = [] }
met_all m (meeting ∷ rest) = and_then (met m meeting) (λ later. met_all later rest)

-- a manager begins at 0, and then meets all that comes
abbrev pub driven : Managing → List Meeting → Managed
driven m came = and_then (begun_at m 0) (λ later. met_all later came)

abbrev pub node_of : List Node → ℕ → Option Node
node_of nodes number = find (λ node. node.number == number) nodes

-- how the boot of a node ended
abbrev pub end_at : List Node → ℕ → Option End
end_at nodes number = option_and_then (λ node. end_in node.phase) (node_of nodes number)
