-- Opening an adapter: to listen only, or to send (the text protocol of Lawicel's CAN232).
use Rattle.std.specs.Prelude.{◌≡◌, ◌⊎◌, ℕ, zero, suc, Bool, true, false, List, [], ◌∷◌, ◌==◌, unwrap_or, Option, Some, None, if◌then◌else◌}
use Rattle.cop_frame.specs.declared.rates.Rate.{Rate}
use Rattle.cop_slcan.specs.Lines.{rate_digit}
use Rattle.cop_live.specs.declared.opening.Reply.{Reply}
use Rattle.cop_live.specs.declared.opening.Reply.TheVariants as answers
use Rattle.cop_live.specs.declared.opening.Command.{Command}
use Rattle.cop_live.specs.declared.opening.Command.TheVariants as commands
use Rattle.cop_live.specs.declared.opening.Opening.{Opening}
use Rattle.cop_live.specs.declared.opening.Opening.TheVariants as openings
use Rattle.cop_live.specs.Log.{ByteStep}

-- the first answer in bytes: CR says that a command is taken, BEL that it is refused
abbrev pub reply_in : List ℕ → Option Reply
reply_in [] = None
reply_in (byte ∷ bytes) = if byte == 13 then Some answers.Taken else (if byte == 7 then Some answers.Refused else reply_in bytes)

-- a first read has the answer, or a second one is made
abbrev pub RepliedThen : {P : Type 0} → ByteStep P → Option Reply → P → Reply → P → Type 0
RepliedThen reads (Some found) p answer q = (answer ≡ found) × (p ≡ q)
RepliedThen reads None p answer q = (bytes : List ℕ) × reads p bytes q × (answer ≡ unwrap_or (reply_in bytes) answers.Silent)

pub record Replied {P : Type 0} (reads : ByteStep P) (p : P) (answer : Reply) (q : P) : Type 0 where
  pub bytes : List ℕ
  pub between : P
  pub reads_first : reads p bytes between
  pub goes_on : RepliedThen reads (reply_in bytes) between answer q

-- a command is written, and this is its answer
pub record Commanded {P : Type 0} (reads writes : ByteStep P) (text : List ℕ) (p : P) (answer : Reply) (q : P) : Type 0 where
  pub written : P
  pub writes_command : writes p text written
  pub replies : Replied reads written answer q

-- an answer says that a command is taken; no answer does, since some adapters answer nothing
abbrev pub is_obeyed : Reply → Bool
is_obeyed answers.Taken = true
is_obeyed answers.Refused = false
is_obeyed answers.Silent = true

-- a command is written, and this is whether it is taken
pub record Obeys {P : Type 0} (reads writes : ByteStep P) (text : List ℕ) (p : P) (taken : Bool) (q : P) : Type 0 where
  pub answer : Reply
  pub commands : Commanded reads writes text p answer q
  pub says : taken ≡ is_obeyed answer

-- one thing where bytes are none, and another where there are some
abbrev pub if_none : List ℕ → Type 0 → Type 0 → Type 0
if_none [] none some = none
if_none (byte ∷ bytes) none some = some

-- bytes are read until there are none, in at most so many reads
unfoldable pub Dropped : {P : Type 0} → ByteStep P → ℕ → P → P → Type 0
Dropped reads zero p q = p ≡ q
Dropped {P} reads (suc more) p q = (bytes : List ℕ) × (m : P) × reads p bytes m × if_none bytes (m ≡ q) (Dropped reads more m q)

-- CR ends a line that is begun, twice, and `C` closes the adapter
abbrev pub close_commands : List ℕ
close_commands = 13 ∷ 13 ∷ 67 ∷ 13 ∷ []

-- `S` and a digit set the rate
abbrev pub rate_command : Rate → List ℕ
rate_command rate = 83 ∷ rate_digit rate ∷ 13 ∷ []

-- `L` has the adapter listen only
abbrev pub listen_command : List ℕ
listen_command = 76 ∷ 13 ∷ []

-- `O` opens it to send
abbrev pub open_command : List ℕ
open_command = 79 ∷ 13 ∷ []

-- the adapter is closed, and what it says is dropped
pub record IsShut {P : Type 0} (reads writes : ByteStep P) (p q : P) : Type 0 where
  pub written : P
  pub writes_commands : writes p close_commands written
  pub drops : Dropped reads 64 written q

-- it is closed, and this is whether it takes the rate
pub record IsSet {P : Type 0} (reads writes : ByteStep P) (rate : Rate) (p : P) (taken : Bool) (q : P) : Type 0 where
  pub closed : P
  pub shuts : IsShut reads writes p closed
  pub sets : Obeys reads writes (rate_command rate) closed taken q

-- it is closed, its rate is set, and it is opened to send
pub record Opened {P : Type 0} (reads writes : ByteStep P) (rate : Rate) (p q : P) : Type 0 where
  pub set : P
  pub sets : IsSet reads writes rate p true set
  pub opens : Obeys reads writes open_command set true q

-- it is closed, its rate is set, and this is its answer to listen only
pub record OpenedPassive {P : Type 0} (reads writes : ByteStep P) (rate : Rate) (p : P) (answer : Reply) (q : P) : Type 0 where
  pub set : P
  pub sets : IsSet reads writes rate p true set
  pub listens : Commanded reads writes listen_command set answer q

-- it is closed, its rate is set, it refuses to listen only, and this is whether it takes to be opened to send
pub record OpenedInstead {P : Type 0} (reads writes : ByteStep P) (rate : Rate) (p : P) (taken : Bool) (q : P) : Type 0 where
  pub set : P
  pub refused : P
  pub sets : IsSet reads writes rate p true set
  pub refuses : Commanded reads writes listen_command set answers.Refused refused
  pub opens : Obeys reads writes open_command refused taken q

-- the adapter listens only, or does not say so, or, where it refuses that, is open to send
abbrev pub OpenedToListen : {P : Type 0} → ByteStep P → ByteStep P → Rate → Reply → P → P → Type 0
OpenedToListen reads writes rate answers.Taken p q = OpenedPassive reads writes rate p answers.Taken q
OpenedToListen reads writes rate answers.Silent p q = OpenedPassive reads writes rate p answers.Silent q
OpenedToListen reads writes rate answers.Refused p q = OpenedInstead reads writes rate p true q

-- its rate is refused; or it is set, and to be opened to send is refused
abbrev pub Unopened : {P : Type 0} → ByteStep P → ByteStep P → Rate → Command → P → P → Type 0
Unopened reads writes rate commands.Rate p q = IsSet reads writes rate p false q
Unopened {P} reads writes rate commands.Open p q = (set : P) × IsSet reads writes rate p true set × Obeys reads writes open_command set false q

-- its rate is refused; or it is set, and both to listen only and to be opened to send are refused
abbrev pub UnopenedToListen : {P : Type 0} → ByteStep P → ByteStep P → Rate → Command → P → P → Type 0
UnopenedToListen reads writes rate commands.Rate p q = IsSet reads writes rate p false q
UnopenedToListen reads writes rate commands.Open p q = OpenedInstead reads writes rate p false q

-- what came of an opening to send
abbrev pub OpenedBy : {P : Type 0} → ByteStep P → ByteStep P → Rate → P → Opening → P → Type 0
OpenedBy reads writes rate p openings.Active q = Opened reads writes rate p q
OpenedBy reads writes rate p openings.Passive q = ⊥
OpenedBy reads writes rate p openings.Untold q = ⊥
OpenedBy reads writes rate p (openings.Refused command) q = Unopened reads writes rate command p q
OpenedBy reads writes rate p openings.Failed q = Unit {0}

-- what came of an opening to listen
abbrev pub OpenedToListenBy : {P : Type 0} → ByteStep P → ByteStep P → Rate → P → Opening → P → Type 0
OpenedToListenBy reads writes rate p openings.Active q = OpenedToListen reads writes rate answers.Refused p q
OpenedToListenBy reads writes rate p openings.Passive q = OpenedToListen reads writes rate answers.Taken p q
OpenedToListenBy reads writes rate p openings.Untold q = OpenedToListen reads writes rate answers.Silent p q
OpenedToListenBy reads writes rate p (openings.Refused command) q = UnopenedToListen reads writes rate command p q
OpenedToListenBy reads writes rate p openings.Failed q = Unit {0}

-- what came of `O` where the rate is set
abbrev pub RefusedOn : {P : Type 0} → ByteStep P → ByteStep P → Command → P → P → Type 0
RefusedOn reads writes commands.Rate p q = ⊥
RefusedOn reads writes commands.Open p q = Obeys reads writes open_command p false q

abbrev pub SwitchedOn : {P : Type 0} → ByteStep P → ByteStep P → P → Opening → P → Type 0
SwitchedOn reads writes p openings.Active q = Obeys reads writes open_command p true q
SwitchedOn reads writes p openings.Passive q = ⊥
SwitchedOn reads writes p openings.Untold q = ⊥
SwitchedOn reads writes p (openings.Refused command) q = RefusedOn reads writes command p q
SwitchedOn reads writes p openings.Failed q = Unit {0}

-- what came of `L` where the rate is set, and of `O` where that is refused
abbrev pub SwitchedInstead : {P : Type 0} → ByteStep P → ByteStep P → P → Opening → P → Type 0
SwitchedInstead {P} reads writes p on q = (refused : P) × Commanded reads writes listen_command p answers.Refused refused × SwitchedOn reads writes refused on q

abbrev pub ListensBy : {P : Type 0} → ByteStep P → ByteStep P → P → Opening → P → Type 0
ListensBy reads writes p openings.Active q = SwitchedInstead reads writes p openings.Active q
ListensBy reads writes p openings.Passive q = Commanded reads writes listen_command p answers.Taken q
ListensBy reads writes p openings.Untold q = Commanded reads writes listen_command p answers.Silent q
ListensBy reads writes p (openings.Refused command) q = SwitchedInstead reads writes p (openings.Refused command) q
ListensBy reads writes p openings.Failed q = Unit {0}

-- no answer was read: the first read failed, or the second, where the first had no answer
abbrev pub ReplyFails : {P : Type 0} → ByteStep P → ByteStep P → P → P → Type 0
ReplyFails {P} reads fails p q = fails p [] q ⊎ ((bytes : List ℕ) × (m : P) × reads p bytes m × (reply_in bytes ≡ None) × fails m [] q)

-- a command was not given: its write failed, or no answer was read
abbrev pub CommandFails : {P : Type 0} → ByteStep P → ByteStep P → ByteStep P → List ℕ → P → P → Type 0
CommandFails {P} reads writes fails text p q = fails p text q ⊎ ((m : P) × writes p text m × ReplyFails reads fails m q)

-- a read failed before there was one without bytes, of so many reads at most
unfoldable pub DropFails : {P : Type 0} → ByteStep P → ByteStep P → ℕ → P → P → Type 0
DropFails reads fails zero p q = ⊥
DropFails {P} reads fails (suc more) p q = fails p [] q ⊎ ((bytes : List ℕ) × (m : P) × reads p bytes m × if_none bytes ⊥ (DropFails reads fails more m q))

-- the adapter was not closed, and what it says dropped
abbrev pub ShutFails : {P : Type 0} → ByteStep P → ByteStep P → ByteStep P → P → P → Type 0
ShutFails {P} reads writes fails p q = fails p close_commands q ⊎ ((m : P) × writes p close_commands m × DropFails reads fails 64 m q)

-- its rate was not set: it was not closed, or the rate not given
abbrev pub SetFails : {P : Type 0} → ByteStep P → ByteStep P → ByteStep P → Rate → P → P → Type 0
SetFails {P} reads writes fails rate p q = ShutFails reads writes fails p q ⊎ ((m : P) × IsShut reads writes p m × CommandFails reads writes fails (rate_command rate) m q)

-- it was not opened to send: its rate was not set; or it was, and the command to open it not given
abbrev pub OpenFails : {P : Type 0} → ByteStep P → ByteStep P → ByteStep P → Rate → P → P → Type 0
OpenFails {P} reads writes fails rate p q = SetFails reads writes fails rate p q ⊎ ((m : P) × IsSet reads writes rate p true m × CommandFails reads writes fails open_command m q)

-- the command to listen only was not given; or it was refused, and that to open it not given
abbrev pub ListensFail : {P : Type 0} → ByteStep P → ByteStep P → ByteStep P → P → P → Type 0
ListensFail {P} reads writes fails p q =
    CommandFails reads writes fails listen_command p q ⊎ ((m : P) × Commanded reads writes listen_command p answers.Refused m × CommandFails reads writes fails open_command m q)

-- it was not opened to listen: its rate was not set, or these commands not given
abbrev pub OpenToListenFails : {P : Type 0} → ByteStep P → ByteStep P → ByteStep P → Rate → P → P → Type 0
OpenToListenFails {P} reads writes fails rate p q = SetFails reads writes fails rate p q ⊎ ((m : P) × IsSet reads writes rate p true m × ListensFail reads writes fails m q)

-- what holds where the port failed
abbrev pub if_failed : Opening → Type 0 → Type 0
if_failed openings.Active claim = Unit {0}
if_failed openings.Passive claim = Unit {0}
if_failed openings.Untold claim = Unit {0}
if_failed (openings.Refused command) claim = Unit {0}
if_failed openings.Failed claim = claim
