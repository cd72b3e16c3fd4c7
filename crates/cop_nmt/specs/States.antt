-- The states of a node, and what commands do to them (CiA 301, network management).
use Rattle.std.specs.Prelude.{ℕ, Bool, true, false, not, ◌&&◌, ◌||◌, ◌==◌, List, [], ◌∷◌, slice_index, Option, Some, None, if◌then◌else◌}
use Rattle.std.specs.Option.{option_or}
use Rattle.cop_frame.specs.declared.frames.Frame.{Frame}
use Rattle.cop_nmt.specs.declared.states.NodeState.{NodeState}
use Rattle.cop_nmt.specs.declared.states.NodeState.TheVariants.{PreOperational, Operational, Stopped}
use Rattle.cop_nmt.specs.declared.states.Effect.{Effect}
use Rattle.cop_nmt.specs.declared.states.Effect.TheVariants as effects
use Rattle.cop_nmt.specs.declared.states.Service.{Service}
use Rattle.cop_nmt.specs.declared.states.Service.TheVariants.{Pdo, Sdo, Sync, Emcy, Nmt, Heartbeat}
use Rattle.cop_nmt.specs.declared.states.Command.{Command}
use Rattle.cop_nmt.specs.declared.states.Command.TheVariants as commands

-- the command that a number stands for
abbrev pub command_numbered : ℕ → Option Command
command_numbered n =
    if n == 1 then Some commands.Start
    else if n == 2 then Some commands.Stop
    else if n == 128 then Some commands.EnterPreOperational
    else if n == 129 then Some commands.ResetNode
    else if n == 130 then Some commands.ResetCommunication
    else None

-- the number of a command
abbrev pub number_of : Command → ℕ
number_of commands.Start = 1
number_of commands.Stop = 2
number_of commands.EnterPreOperational = 128
number_of commands.ResetNode = 129
number_of commands.ResetCommunication = 130

-- the command for a node in an identifier, a length and a body: identifier 0, two bytes, the command and the node, or 0 for all
abbrev pub command_in : ℕ → ℕ → ℕ → List ℕ → Option Command
command_in node id len body =
    if (id == 0) && (len == 2) && ((slice_index body 1 == 0) || (slice_index body 1 == node))
    then command_numbered (slice_index body 0) else None

abbrev pub command_of : ℕ → Frame → Option Command
command_of node frame = command_in node frame.id frame.len frame.body

-- the state that a command asks for: after a reset a node boots into PreOperational
abbrev pub commanded : Command → NodeState
commanded commands.Start = Operational
commanded commands.Stop = Stopped
commanded commands.EnterPreOperational = PreOperational
commanded commands.ResetNode = PreOperational
commanded commands.ResetCommunication = PreOperational

abbrev pub is_same : NodeState → NodeState → Bool
is_same PreOperational PreOperational = true
is_same Operational Operational = true
is_same Stopped Stopped = true
is_same a b = false

abbrev pub change : NodeState → NodeState → Effect
change old new = if is_same old new then effects.Nothing else effects.Changed

-- what a command does to a node in a state
abbrev pub effect_of : Command → NodeState → Effect
effect_of commands.ResetNode state = effects.ResetNode
effect_of commands.ResetCommunication state = effects.ResetCommunication
effect_of command state = change state (commanded command)

abbrev pub obeyed : NodeState → Option Command → NodeState × Effect
obeyed state None = (state, effects.Nothing)
obeyed state (Some command) = (commanded command, effect_of command state)

-- the state after a frame, and the frame's effect
abbrev pub stepped : ℕ → NodeState → Frame → NodeState × Effect
stepped node state frame = obeyed state (command_of node frame)

-- the state after a list of frames
unfoldable pub state_over : ℕ → NodeState → List Frame → NodeState
state_over node state [] = state
state_over node state (frame ∷ frames) = state_over node ((stepped node state frame).0) frames

-- the last command for the node in a list of frames
abbrev pub last_command : ℕ → List Frame → Option Command
last_command node [] = None
last_command node (frame ∷ frames) = option_or (last_command node frames) (command_of node frame)

-- which services a state has
abbrev pub is_allowed : NodeState → Service → Bool
is_allowed state Pdo = is_same state Operational
is_allowed state Sdo = not (is_same state Stopped)
is_allowed state Sync = not (is_same state Stopped)
is_allowed state Emcy = not (is_same state Stopped)
is_allowed state Nmt = true
is_allowed state Heartbeat = true

-- what a heartbeat says of a state
abbrev pub state_byte : NodeState → ℕ
state_byte Stopped = 4
state_byte Operational = 5
state_byte PreOperational = 127
