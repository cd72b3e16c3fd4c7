-- One NMT command is given over a port, whether nodes run or not.
use Rattle.std.specs.Prelude.{◌⊎◌, ℕ, [], ◌∷◌, Option}
use Rattle.cop_frame.specs.declared.rates.Rate.{Rate}
use Rattle.cop_sdo.specs.Message.{Message}
use Rattle.cop_live.specs.Log.{ByteStep, ClockStep, Sent, DidAll, BrokeOff}
use Rattle.cop_live.specs.Session.{command_to, Closed, CloseFails}
use Rattle.cop_survey.specs.Reaching.{IsOpened, IsLeft, ReachFails}
use Rattle.cop_command.specs.declared.commanding.Command.{Command}
use Rattle.cop_command.specs.declared.commanding.Command.TheVariants.{Start, Stop, EnterPreOperational, ResetNode, ResetCommunication}
use Rattle.cop_command.specs.declared.commanding.Commanded.{Commanded}
use Rattle.cop_command.specs.declared.commanding.Commanded.TheVariants.{Given, Left, Failed}

-- the number of a command (CiA 301, "NMT node control")
abbrev pub number_of : Command → ℕ
number_of Start = 1
number_of Stop = 2
number_of EnterPreOperational = 128
number_of ResetNode = 129
number_of ResetCommunication = 130

-- a command to one node, or to all
abbrev pub frame_of : Command → Option ℕ → Message
frame_of command only = command_to (number_of command) only

-- it was sent over an open adapter, which was closed then
pub record SentAndClosed {P : Type 0} (reads writes : ByteStep P) (asks : ClockStep P) (command : Command) (only : Option ℕ) (p q : P) : Type 0 where
  pub sent : P
  pub sends : DidAll reads writes asks p (Sent (frame_of command only) ∷ []) sent
  pub closes : Closed reads writes sent q

-- the bus was reached, and it was sent: nothing else was
pub record IsGiven {P : Type 0} (reads writes : ByteStep P) (asks : ClockStep P) (rate : Rate) (command : Command) (only : Option ℕ) (p q : P) : Type 0 where
  pub reached : P
  pub opens : IsOpened reads writes asks rate p reached
  pub sends : SentAndClosed reads writes asks command only reached q

-- what came of it
abbrev pub IsCommanded : {P : Type 0} → ByteStep P → ByteStep P → ClockStep P → Rate → Command → Option ℕ → P → P → Commanded → Type 0
IsCommanded reads writes asks rate command only p q Given = IsGiven reads writes asks rate command only p q
IsCommanded reads writes asks rate command only p q (Left reason) = IsLeft reads writes asks rate reason p q
IsCommanded reads writes asks rate command only p q Failed = Unit {0}

-- it was not sent over an open adapter, or that was not closed then
abbrev pub SendFails : {P : Type 0} → ByteStep P → ByteStep P → ClockStep P → ByteStep P → Command → Option ℕ → P → P → Type 0
SendFails {P} reads writes asks fails command only p q =
    BrokeOff reads writes asks fails p (Sent (frame_of command only) ∷ []) q
    ⊎ ((sent : P) × DidAll reads writes asks p (Sent (frame_of command only) ∷ []) sent × CloseFails reads writes fails sent q)

-- the bus was not reached; or it was, and that failed
abbrev pub CommandFails : {P : Type 0} → ByteStep P → ByteStep P → ClockStep P → ByteStep P → Rate → Command → Option ℕ → P → P → Type 0
CommandFails {P} reads writes asks fails rate command only p q =
    ReachFails reads writes asks fails rate p q ⊎ ((reached : P) × IsOpened reads writes asks rate p reached × SendFails reads writes asks fails command only reached q)

-- what holds where the port failed
abbrev pub if_failed : Commanded → Type 0 → Type 0
if_failed Given claim = Unit {0}
if_failed (Left reason) claim = Unit {0}
if_failed Failed claim = claim
