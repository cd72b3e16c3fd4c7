-- Listening at a port before a boot, and who is heard to run.
use Rattle.std.specs.Prelude.{◌≡◌, ◌≤◌, ℕ, ◌+◌, ◌-◌, Bool, true, false, ◌&&◌, ◌||◌, List, [], ◌∷◌, ◌++◌, find, slice_index, ◌==◌, nat_lt, nat_le, Option, Some, None, option_map, if◌then◌else◌}
use Rattle.std.specs.Option.{option_or, option_map_or}
use Rattle.cop_sdo.specs.Message.{Message}
use Rattle.cop_slcan.specs.Meaning.{Told, Heard, Done, Refused, Other}
use Rattle.cop_slcan.specs.Reading.{said_from, left_from}
use Rattle.cop_live.specs.declared.listening.Sender.{Sender}
use Rattle.cop_live.specs.declared.listening.Runner.{Runner}
use Rattle.cop_live.specs.declared.listening.Tally.{Tally}
use Rattle.cop_live.specs.declared.listening.Found.{Found}
use Rattle.cop_live.specs.declared.listening.Found.TheVariants as founds
use Rattle.cop_live.specs.Log.{ByteStep, ClockStep, Doing, Asked, Read, DidAll, GaveUp}

-- the node whose heartbeat (701h to 77Fh, one byte) says operational (05h)
abbrev pub beat_of : Message → Option ℕ
beat_of frame = if nat_lt 0x700 frame.id && (nat_lt frame.id 0x780 && ((frame.len == 1) && (slice_index frame.body 0 == 5))) then Some (frame.id - 0x700) else None

-- the node that sends the PDO of an identifier
abbrev pub sender_of : List Sender → ℕ → Option ℕ
sender_of senders id = option_map (λ sender. sender.node) (find (λ sender. sender.id == id) senders)

-- an identifier by which a machine sends that runs: SYNC (080h), and PDOs (181h to 57Fh, and 680h to 6DFh)
abbrev pub is_of_machine : ℕ → Bool
is_of_machine id = (id == 0x80) || ((nat_le 0x181 id && nat_le id 0x57F) || (nat_le 0x680 id && nat_le id 0x6DF))

-- the node that a frame comes from that runs, where it is known: its heartbeat says so, or it sends the PDO
abbrev pub known_of : List Sender → Message → Option ℕ
known_of senders frame = option_or (beat_of frame) (sender_of senders frame.id)

-- the node that a frame comes from that runs, or 0 where it is not known which
abbrev pub runner_of : List Sender → Message → Option ℕ
runner_of senders frame = option_or (known_of senders frame) (if is_of_machine frame.id then Some 0 else None)

-- a node is meant, where it is one alone, or all are
abbrev pub is_meant : Option ℕ → ℕ → Bool
is_meant only node = option_map_or (λ wanted. node == wanted) only true

abbrev pub if_meant : Option ℕ → Option ℕ → Option ℕ
if_meant only None = None
if_meant only (Some node) = if is_meant only node then Some node else None

-- who is shown to run by a frame, if it is meant
abbrev pub runner_by : List Sender → Option ℕ → Message → Option Runner
runner_by senders only frame = option_map (λ node. record { node = node; id = frame.id }) (if_meant only (runner_of senders frame))

-- who is shown to run by a line
abbrev pub runner_told : List Sender → Option ℕ → Told → Option Runner
runner_told senders only (Heard frame) = runner_by senders only frame
runner_told senders only Done = None
runner_told senders only Refused = None
runner_told senders only Other = None

-- the first who is shown to run by lines
abbrev pub first_runner : List Sender → Option ℕ → List Told → Option Runner
first_runner senders only [] = None
first_runner senders only (line ∷ rest) = option_or (runner_told senders only line) (first_runner senders only rest)

-- no line so far
abbrev pub no_lines : Tally
no_lines = record { frame = false; others = 0 }

-- a line is a frame, or something else than an answer of the adapter, of which up to a million are counted
abbrev pub tallying : Tally → Told → Tally
tallying tally (Heard frame) = record { frame = true; others = tally.others }
tallying tally Done = tally
tallying tally Refused = tally
tallying tally Other = record { frame = tally.frame; others = if nat_lt tally.others 1000000 then tally.others + 1 else tally.others }

abbrev pub tallied : Tally → List Told → Tally
tallied tally [] = tally
tallied tally (line ∷ rest) = tallied (tallying tally line) rest

-- what was found where nobody was heard to run: nobody, where one line is a frame; lines of which none is; or no line but answers of the adapter
abbrev pub found_through : Tally → Found
found_through tally = if tally.frame then founds.Nobody else if nat_lt 0 tally.others then founds.Garbled tally.others else founds.Silence

-- turns, each with its moment and its bytes: the clock is asked and bytes are read, and nothing is written
abbrev pub listening_log : List (ℕ × List ℕ) → List Doing
listening_log [] = []
listening_log ((now, bytes) ∷ turns) = Asked now ∷ Read bytes ∷ listening_log turns

-- the lines that come in turns, where bytes of a line had come before
abbrev pub lines_in : List ℕ → List (ℕ × List ℕ) → List Told
lines_in pending [] = []
lines_in pending ((now, bytes) ∷ turns) = said_from pending bytes ++ lines_in (left_from pending bytes) turns

-- a look at the clock and then such turns lead a port from one state to another, and this is who is first heard to run, or nobody is
pub record Listens {P : Type 0} (reads writes : ByteStep P) (asks : ClockStep P) (senders : List Sender) (only : Option ℕ) (began : ℕ) (p : P) (turns : List (ℕ × List ℕ)) (runner : Option Runner) (q : P) : Type 0 where
  pub did : DidAll reads writes asks p (Asked began ∷ listening_log turns) q
  pub heard : runner ≡ first_runner senders only (lines_in [] turns)

-- it was listened for 8,000,000 ticks (2 s), nobody was heard to run, and this is what the lines were
pub record ListensThrough {P : Type 0} (reads writes : ByteStep P) (asks : ClockStep P) (senders : List Sender) (only : Option ℕ) (p : P) (tally : Tally) (q : P) : Type 0 where
  pub began : ℕ
  pub turns : List (ℕ × List ℕ)
  pub heard : P
  pub until : ℕ
  pub listens : Listens reads writes asks senders only began p turns None heard
  pub looks : asks heard until q
  pub long : 8000000 ≤ until - began
  pub lines : tally ≡ tallied no_lines (lines_in [] turns)

-- what was found by listening: who is first heard to run; or nobody, or lines of which none is a frame, so many, or none
abbrev pub Listened : {P : Type 0} → ByteStep P → ByteStep P → ClockStep P → List Sender → Option ℕ → P → Found → P → Type 0
Listened reads writes asks senders only p founds.Nobody q = (tally : Tally) × ListensThrough reads writes asks senders only p tally q × (founds.Nobody ≡ found_through tally)
Listened reads writes asks senders only p founds.Silence q = (tally : Tally) × ListensThrough reads writes asks senders only p tally q × (founds.Silence ≡ found_through tally)
Listened reads writes asks senders only p (founds.Garbled lines) q = (tally : Tally) × ListensThrough reads writes asks senders only p tally q × (founds.Garbled lines ≡ found_through tally)
Listened reads writes asks senders only p (founds.Running runner) q = (began : ℕ) × (turns : List (ℕ × List ℕ)) × Listens reads writes asks senders only began p turns (Some runner) q
Listened reads writes asks senders only p (founds.Erroneous flags) q = ⊥
Listened reads writes asks senders only p (founds.Refused command) q = ⊥
Listened reads writes asks senders only p founds.Failed q = Unit {0}

-- it was not listened to the end: the look at the clock or the turns gave out
abbrev pub ListenFails : {P : Type 0} → ByteStep P → ByteStep P → ClockStep P → ByteStep P → P → P → Type 0
ListenFails reads writes asks fails p q = (began : ℕ) × (turns : List (ℕ × List ℕ)) × GaveUp reads writes asks fails turns p (Asked began ∷ listening_log turns) q

-- what holds where the port failed
abbrev pub if_failed : Found → Type 0 → Type 0
if_failed founds.Nobody claim = Unit {0}
if_failed founds.Silence claim = Unit {0}
if_failed (founds.Running runner) claim = Unit {0}
if_failed (founds.Garbled lines) claim = Unit {0}
if_failed (founds.Erroneous flags) claim = Unit {0}
if_failed (founds.Refused command) claim = Unit {0}
if_failed founds.Failed claim = claim
