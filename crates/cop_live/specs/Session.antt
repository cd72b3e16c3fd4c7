-- A boot over a port: what is done there, and what is true of it. The start of the nodes is held back.
use Rattle.std.specs.Prelude.{◌≡◌, ◌⊎◌, ℕ, ◌-◌, Bool, not, ◌&&◌, ◌==◌, List, [], ◌∷◌, ◌++◌, map, filter, slice_index, nat_lt, unwrap_or, Option, Some, None, option_and_then, if◌then◌else◌}
use Rattle.cop_sdo.specs.Message.{Message}
use Rattle.cop_boot.specs.declared.«end».End.TheVariants.{Ready}
use Rattle.cop_boot.specs.Node.{Node}
use Rattle.cop_boot.specs.Manager.{Managing, Managed, heard, passed, and_then, begun_at, driven, node_of, end_at, is_command}
use Rattle.cop_boot.specs.Ends.{events, end_of, IsConfigured}
use Rattle.cop_slcan.specs.Meaning.{Told, Heard, Done, Refused, Other}
use Rattle.cop_slcan.specs.Reading.{said_from, left_from}
use Rattle.cop_live.specs.Log.{ByteStep, ClockStep, Doing, Asked, Sent, Read, DidAll, BrokeOff, GaveUp, came}
use Rattle.cop_live.specs.Nodes.{with_node}

-- `C` closes the adapter
abbrev pub closing : List ℕ
closing = 67 ∷ 13 ∷ []

-- two reads give the adapter time to send what it took, and the command is written
pub record Closed {P : Type 0} (reads writes : ByteStep P) (p q : P) : Type 0 where
  pub once : P
  pub twice : P
  pub first : List ℕ
  pub second : List ℕ
  pub reads_once : reads p first once
  pub reads_again : reads once second twice
  pub writes_command : writes twice closing q

-- the adapter was not closed: a read failed, or the write
abbrev pub CloseFails : {P : Type 0} → ByteStep P → ByteStep P → ByteStep P → P → P → Type 0
CloseFails {P} reads writes fails p q =
    fails p [] q
    ⊎ ((first : List ℕ) × (once : P) × reads p first once × (fails once [] q ⊎ ((second : List ℕ) × (twice : P) × reads once second twice × fails twice closing q)))

-- a manager, and the bytes of a line that is begun
pub record State : Type 0 where
  pub manager : Managing
  pub pending : List ℕ

-- a manager is told something: a frame counts at the moment handed in last
abbrev pub told : Managing → Told → Managed
told m (Heard frame) = heard m frame m.clock
told m Done = record { manager = m; frames = [] }
told m Refused = record { manager = m; frames = [] }
told m Other = record { manager = m; frames = [] }

-- and one thing after the other
abbrev pub told_all : Managing → List Told → Managed
told_all m [] = record { manager = m; frames = [] }
told_all m (t ∷ rest) = and_then (told m t) (λ later. told_all later rest)

-- an NMT command whose first byte is 1 starts nodes
abbrev pub is_start : Message → Bool
is_start frame = is_command frame && (slice_index frame.body 0 == 1)

-- the start is held back, and all else is sent
abbrev pub held : List Message → List Message
held frames = filter (λ frame. not (is_start frame)) frames

-- the node whose boot-up a frame is (701h to 77Fh, one byte, 00h)
abbrev pub boot_up_of : Message → Option ℕ
boot_up_of frame = if nat_lt 0x700 frame.id && (nat_lt frame.id 0x780 && ((frame.len == 1) && (slice_index frame.body 0 == 0))) then Some (frame.id - 0x700) else None

-- the node whose boot-up a line tells
abbrev pub boot_up_told : Told → Option ℕ
boot_up_told (Heard frame) = boot_up_of frame
boot_up_told Done = None
boot_up_told Refused = None
boot_up_told Other = None

-- a node that boots up is put into a set of nodes
abbrev pub noting : List Bool → Option ℕ → List Bool
noting nodes None = nodes
noting nodes (Some node) = with_node nodes node

-- the nodes whose boot-ups lines tell are put into a set of nodes
abbrev pub noted : List Bool → List Told → List Bool
noted nodes [] = nodes
noted nodes (line ∷ rest) = noted (noting nodes (boot_up_told line)) rest

-- a turn: the clock is asked, and what the manager gives up then is sent; bytes are read, and what it answers to the frames in them
-- is sent
abbrev pub turn_log : ℕ → State → ℕ → List ℕ → List Doing
turn_log began s now bytes =
    Asked now ∷ (map Sent (held (passed s.manager (now - began)).frames) ++ (Read bytes ∷ map Sent (held (told_all (passed s.manager (now - began)).manager (said_from s.pending bytes)).frames)))

abbrev pub turn_state : ℕ → State → ℕ → List ℕ → State
turn_state began s now bytes = record {
  manager = (told_all (passed s.manager (now - began)).manager (said_from s.pending bytes)).manager;
  pending = left_from s.pending bytes;
}

-- a turn broke off
abbrev pub TurnFails : {P : Type 0} → ByteStep P → ByteStep P → ClockStep P → ByteStep P → ℕ → State → P → P → Type 0
TurnFails reads writes asks fails began s p q = (now : ℕ) × (bytes : List ℕ) × BrokeOff reads writes asks fails p (turn_log began s now bytes) q

-- a step: a turn with its moment and its bytes, or a frame of another than the manager
pub data Step : Type 0 where
  Turn : (now : ℕ) (bytes : List ℕ) → Step
  Request : (frame : Message) → Step

-- steps in their order
abbrev pub steps_log : ℕ → State → List Step → List Doing
steps_log began s [] = []
steps_log began s (Turn now bytes ∷ steps) = turn_log began s now bytes ++ steps_log began (turn_state began s now bytes) steps
steps_log began s (Request frame ∷ steps) = Sent frame ∷ steps_log began s steps

abbrev pub steps_state : ℕ → State → List Step → State
steps_state began s [] = s
steps_state began s (Turn now bytes ∷ steps) = steps_state began (turn_state began s now bytes) steps
steps_state began s (Request frame ∷ steps) = steps_state began s steps

-- turns, each with its moment and its bytes
abbrev pub turns : List (ℕ × List ℕ) → List Step
turns [] = []
turns ((now, bytes) ∷ rest) = Turn now bytes ∷ turns rest

-- an NMT command to one node alone, or to all (CiA 301, "NMT node control": the node's number, or 0)
abbrev pub command_to : ℕ → Option ℕ → Message
command_to command only = record { id = 0; body = command ∷ unwrap_or only 0 ∷ 0 ∷ 0 ∷ 0 ∷ 0 ∷ 0 ∷ 0 ∷ []; len = 2 }

-- 130 resets the communication, and 1 starts
abbrev pub reset_of : Option ℕ → Message
reset_of only = command_to 130 only

-- 129 resets the whole node, so that it has the values that it was told to restore (CiA 301, object 1011h)
abbrev pub node_reset_of : Option ℕ → Message
node_reset_of only = command_to 129 only

abbrev pub start_of : Option ℕ → Message
start_of only = command_to 1 only

-- a boot begins: the communication of one node alone or of all is reset, and the boot-ups of the manager's nodes are awaited
abbrev pub first_state : Managing → State
first_state m = record { manager = (begun_at m 0).manager; pending = [] }

abbrev pub boot_log : Option ℕ → Managing → ℕ → List Step → List Doing
boot_log only m began steps = Sent (reset_of only) ∷ steps_log began (first_state m) steps

-- What is true of a manager that one became by all that came.
pub record IsDriven (m : Managing) (began : ℕ) (log : List Doing) (later : Managing) : Type 0 where
  pub driven_so : later ≡ (driven m (came began log)).manager
  -- the boot of each node ended as what came from it says
  pub ends : (number : ℕ) → end_at later.nodes number ≡ option_and_then (λ node. end_of node.number node.limit node.settings (events node.number 0 (came began log))) (node_of m.nodes number)
  -- a node that is ready has, since its last boot-up, confirmed each of its settings in turn by an answer that was read
  pub ready : (number : ℕ) (node : Node) → node_of m.nodes number ≡ Some node → end_at later.nodes number ≡ Some Ready → IsConfigured node.settings (events node.number 0 (came began log))

-- a boot over a port so far: the clock was asked at which moment it begins, one node alone or all were reset, and turns were taken
pub record Booted {P : Type 0} (reads writes : ByteStep P) (asks : ClockStep P) (only : Option ℕ) (m : Managing) (p : P) (began : ℕ) (s : State) (q : P) : Type 0 where
  pub asked : P
  pub taken : List (ℕ × List ℕ)
  pub asks_first : asks p began asked
  pub did : DidAll reads writes asks asked (boot_log only m began (turns taken)) q
  pub state : s ≡ steps_state began (first_state m) (turns taken)
  pub is : IsDriven m began (boot_log only m began (turns taken)) s.manager

-- a boot over a port gave out before it had ended: the look at the clock, the reset, or the turns
abbrev pub BootFails : {P : Type 0} → ByteStep P → ByteStep P → ClockStep P → ByteStep P → Option ℕ → Managing → P → P → Type 0
BootFails reads writes asks fails only m p q = (began : ℕ) × (taken : List (ℕ × List ℕ)) × GaveUp reads writes asks fails taken p (Asked began ∷ boot_log only m began (turns taken)) q
