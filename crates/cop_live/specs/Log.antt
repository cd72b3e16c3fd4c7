-- What is done at a port, and what came by it.
use Rattle.std.specs.Prelude.{◌≡◌, ◌≤◌, ◌⊎◌, ℕ, ◌-◌, List, [], ◌∷◌, ◌++◌, length}
use Rattle.cop_sdo.specs.Message.{Message}
use Rattle.cop_boot.specs.Manager.{Meeting, Heard, Moment}
use Rattle.cop_slcan.specs.Lines.{line_of}
use Rattle.cop_slcan.specs.Meaning as meanings
use Rattle.cop_slcan.specs.Meaning.{Told}
use Rattle.cop_slcan.specs.Reading.{said_from, left_from}

-- the clock is asked, the line of a frame is written, or bytes are read
pub data Doing : Type 0 where
  Asked : (now : ℕ) → Doing
  Sent : (frame : Message) → Doing
  Read : (bytes : List ℕ) → Doing

-- how a read or a write of bytes leads a port from one state to another
abbrev pub ByteStep : Type 0 → Type 1
ByteStep P = P → List ℕ → P → Type 0

-- how a look at the clock leads it from one state to another
abbrev pub ClockStep : Type 0 → Type 1
ClockStep P = P → ℕ → P → Type 0

-- one of these leads a port from one state to another
abbrev pub Did : {P : Type 0} → ByteStep P → ByteStep P → ClockStep P → P → Doing → P → Type 0
Did reads writes asks p (Asked now) q = asks p now q
Did reads writes asks p (Sent frame) q = writes p (line_of frame) q
Did reads writes asks p (Read bytes) q = reads p bytes q

-- a log leads a port from one state to another: this was done there in this order, and nothing else
abbrev pub DidAll : {P : Type 0} → ByteStep P → ByteStep P → ClockStep P → P → List Doing → P → Type 0
DidAll reads writes asks p [] q = p ≡ q
DidAll {P} reads writes asks p (doing ∷ log) q = (m : P) × Did reads writes asks p doing m × DidAll reads writes asks m log q

-- the bytes that one of these writes
abbrev pub written_by : Doing → List ℕ
written_by (Asked now) = []
written_by (Sent frame) = line_of frame
written_by (Read bytes) = []

-- a log broke off: what stands in it before one of its acts was done, that act failed, and nothing was done then
abbrev pub BrokeOff : {P : Type 0} → ByteStep P → ByteStep P → ClockStep P → ByteStep P → P → List Doing → P → Type 0
BrokeOff reads writes asks fails p [] q = ⊥
BrokeOff {P} reads writes asks fails p (doing ∷ log) q = fails p (written_by doing) q ⊎ ((m : P) × Did reads writes asks p doing m × BrokeOff reads writes asks fails m log q)

-- a log of turns broke off; or it was done, and has so many turns (2 ^ 64 - 1) that no more are taken
abbrev pub GaveUp : {P : Type 0} → ByteStep P → ByteStep P → ClockStep P → ByteStep P → List (ℕ × List ℕ) → P → List Doing → P → Type 0
GaveUp reads writes asks fails turns p log q = BrokeOff reads writes asks fails p log q ⊎ (DidAll reads writes asks p log q × (18446744073709551615 ≤ length turns))

-- the frames that were sent
abbrev pub sent_in : List Doing → List Message
sent_in [] = []
sent_in (Asked now ∷ log) = sent_in log
sent_in (Sent frame ∷ log) = frame ∷ sent_in log
sent_in (Read bytes ∷ log) = sent_in log

-- the frames that an adapter tells of
abbrev pub heard_in : List Told → List Meeting
heard_in [] = []
heard_in (meanings.Heard frame ∷ rest) = Heard frame ∷ heard_in rest
heard_in (meanings.Done ∷ rest) = heard_in rest
heard_in (meanings.Refused ∷ rest) = heard_in rest
heard_in (meanings.Other ∷ rest) = heard_in rest

-- what came to a manager by a log, where bytes of a line had come before: the frames in the lines that were read, and the moments,
-- which count from that at which the boot began
abbrev pub came_after : ℕ → List ℕ → List Doing → List Meeting
came_after began pending [] = []
came_after began pending (Asked now ∷ log) = Moment (now - began) ∷ came_after began pending log
came_after began pending (Sent frame ∷ log) = came_after began pending log
came_after began pending (Read bytes ∷ log) = heard_in (said_from pending bytes) ++ came_after began (left_from pending bytes) log

abbrev pub came : ℕ → List Doing → List Meeting
came began log = came_after began [] log
