-- How a bus is approached: the adapter is opened, and it is listened first unless the bus is taken over.
use Rattle.std.specs.Prelude.{◌≡◌, ◌⊎◌, ℕ, Bool, true, false, List, Option, Some, None}
use Rattle.cop_frame.specs.declared.rates.Rate.{Rate}
use Rattle.cop_live.specs.declared.listening.Sender.{Sender}
use Rattle.cop_live.specs.declared.listening.Found.{Found}
use Rattle.cop_live.specs.declared.listening.Found.TheVariants as founds
use Rattle.cop_live.specs.declared.opening.Reply.{Reply}
use Rattle.cop_live.specs.declared.opening.Command.{Command}
use Rattle.cop_live.specs.declared.opening.Reply.TheVariants as answers
use Rattle.cop_live.specs.Log.{ByteStep, ClockStep}
use Rattle.cop_live.specs.Opening.{Opened, Unopened, OpenedToListen, UnopenedToListen, OpenFails, OpenToListenFails}
use Rattle.cop_live.specs.Flags.{FlagsAsked, error_in, FlagsFail}
use Rattle.cop_live.specs.Listening.{Listened, ListenFails}

-- what came of an opening to send
abbrev pub TakenOver : {P : Type 0} → ByteStep P → ByteStep P → Rate → P → Found → P → Type 0
TakenOver reads writes rate p founds.Nobody q = Opened reads writes rate p q
TakenOver reads writes rate p founds.Silence q = ⊥
TakenOver reads writes rate p (founds.Running runner) q = ⊥
TakenOver reads writes rate p (founds.Garbled lines) q = ⊥
TakenOver reads writes rate p (founds.Erroneous flags) q = ⊥
TakenOver reads writes rate p (founds.Refused command) q = Unopened reads writes rate command p q
TakenOver reads writes rate p founds.Failed q = Unit {0}

-- the adapter was opened to send, and this was found by listening
pub record ListenedOpen {P : Type 0} (reads writes : ByteStep P) (asks : ClockStep P) (rate : Rate) (senders : List Sender) (only : Option ℕ) (p : P) (f : Found) (q : P) : Type 0 where
  pub opened : P
  pub opens : Opened reads writes rate p opened
  pub listens : Listened reads writes asks senders only opened f q

-- what came of an opening to send, and of listening then
abbrev pub HeardAgain : {P : Type 0} → ByteStep P → ByteStep P → ClockStep P → Rate → List Sender → Option ℕ → P → Found → P → Type 0
HeardAgain reads writes asks rate senders only p founds.Nobody q = ListenedOpen reads writes asks rate senders only p founds.Nobody q
HeardAgain reads writes asks rate senders only p founds.Silence q = ListenedOpen reads writes asks rate senders only p founds.Silence q
HeardAgain reads writes asks rate senders only p (founds.Running runner) q = ListenedOpen reads writes asks rate senders only p (founds.Running runner) q
HeardAgain reads writes asks rate senders only p (founds.Garbled lines) q = ListenedOpen reads writes asks rate senders only p (founds.Garbled lines) q
HeardAgain reads writes asks rate senders only p (founds.Erroneous flags) q = ⊥
HeardAgain reads writes asks rate senders only p (founds.Refused command) q = Unopened reads writes rate command p q
HeardAgain reads writes asks rate senders only p founds.Failed q = Unit {0}

-- what comes once nobody was heard to run, by the adapter's answer to listen only: it is opened to send where it did, and listened by again where
-- it did not say so; where it refused, it is open to send already
abbrev pub GoesOnBy : {P : Type 0} → ByteStep P → ByteStep P → ClockStep P → Rate → List Sender → Option ℕ → Reply → P → Found → P → Type 0
GoesOnBy reads writes asks rate senders only answers.Taken p f q = TakenOver reads writes rate p f q
GoesOnBy reads writes asks rate senders only answers.Silent p f q = HeardAgain reads writes asks rate senders only p f q
GoesOnBy reads writes asks rate senders only answers.Refused p f q = (f ≡ founds.Nobody) × (p ≡ q)

-- what comes once nothing was heard: the adapter is asked for its flags, and where they tell of no errors it goes on so
abbrev pub SoundsBy : {P : Type 0} → ByteStep P → ByteStep P → ClockStep P → Rate → List Sender → Option ℕ → Reply → Option ℕ → P → Found → P → Type 0
SoundsBy reads writes asks rate senders only answer (Some flags) p f q = (f ≡ founds.Erroneous flags) × (p ≡ q)
SoundsBy reads writes asks rate senders only answer None p f q = GoesOnBy reads writes asks rate senders only answer p f q

pub record Sounded {P : Type 0} (reads writes : ByteStep P) (asks : ClockStep P) (rate : Rate) (senders : List Sender) (only : Option ℕ) (answer : Reply) (p : P) (f : Found) (q : P) : Type 0 where
  pub flags : Option ℕ
  pub told : P
  pub flags_asked : FlagsAsked reads writes p flags told
  pub goes_on : SoundsBy reads writes asks rate senders only answer (error_in flags) told f q

-- a port or its clock may fail, of which other clauses speak
abbrev pub unless_failed : Found → Type 0 → Type 0
unless_failed founds.Nobody claim = claim
unless_failed founds.Silence claim = claim
unless_failed (founds.Running runner) claim = claim
unless_failed (founds.Garbled lines) claim = claim
unless_failed (founds.Erroneous flags) claim = claim
unless_failed (founds.Refused command) claim = claim
unless_failed founds.Failed claim = Unit {0}

abbrev pub Sounds : {P : Type 0} → ByteStep P → ByteStep P → ClockStep P → Rate → List Sender → Option ℕ → Reply → P → Found → P → Type 0
Sounds reads writes asks rate senders only answer p f q = unless_failed f (Sounded reads writes asks rate senders only answer p f q)

-- what came of listening by an adapter that gave this answer to listen only: that was found; or nobody was heard to run, and it goes on; or nothing
-- was heard, and its flags are asked for
pub record HeardNobody {P : Type 0} (reads writes : ByteStep P) (asks : ClockStep P) (rate : Rate) (senders : List Sender) (only : Option ℕ) (answer : Reply) (p : P) (f : Found) (q : P) : Type 0 where
  pub heard : P
  pub listens : Listened reads writes asks senders only p founds.Nobody heard
  pub goes_on : GoesOnBy reads writes asks rate senders only answer heard f q

pub record HeardNothing {P : Type 0} (reads writes : ByteStep P) (asks : ClockStep P) (rate : Rate) (senders : List Sender) (only : Option ℕ) (answer : Reply) (p : P) (f : Found) (q : P) : Type 0 where
  pub heard : P
  pub listens : Listened reads writes asks senders only p founds.Silence heard
  pub sounds : Sounded reads writes asks rate senders only answer heard f q

-- only these end a look at the bus by what was heard
abbrev pub is_reason : Found → Bool
is_reason founds.Nobody = false
is_reason founds.Silence = false
is_reason (founds.Running runner) = true
is_reason (founds.Garbled lines) = true
is_reason (founds.Erroneous flags) = false
is_reason (founds.Refused command) = false
is_reason founds.Failed = false

abbrev pub Hears : {P : Type 0} → ByteStep P → ByteStep P → ClockStep P → Rate → List Sender → Option ℕ → Reply → P → Found → P → Type 0
Hears reads writes asks rate senders only answer p f q =
    ((is_reason f ≡ true) × Listened reads writes asks senders only p f q)
    ⊎ (HeardNobody reads writes asks rate senders only answer p f q ⊎ HeardNothing reads writes asks rate senders only answer p f q)

abbrev pub Heard : {P : Type 0} → ByteStep P → ByteStep P → ClockStep P → Rate → List Sender → Option ℕ → Reply → P → Found → P → Type 0
Heard reads writes asks rate senders only answer p f q = unless_failed f (Hears reads writes asks rate senders only answer p f q)

-- the adapter was opened to listen, and this came of it
pub record Looks {P : Type 0} (reads writes : ByteStep P) (asks : ClockStep P) (rate : Rate) (senders : List Sender) (only : Option ℕ) (p : P) (f : Found) (q : P) : Type 0 where
  pub answer : Reply
  pub opened : P
  pub opens : OpenedToListen reads writes rate answer p opened
  pub hears : Hears reads writes asks rate senders only answer opened f q

-- the adapter was not opened to listen
abbrev pub IsUnopened : {P : Type 0} → ByteStep P → ByteStep P → Rate → P → Found → P → Type 0
IsUnopened {P} reads writes rate p f q = (command : Command) × (f ≡ founds.Refused command) × UnopenedToListen reads writes rate command p q

-- what came of listening first
abbrev pub Looked : {P : Type 0} → ByteStep P → ByteStep P → ClockStep P → Rate → List Sender → Option ℕ → P → Found → P → Type 0
Looked reads writes asks rate senders only p f q = unless_failed f (IsUnopened reads writes rate p f q ⊎ Looks reads writes asks rate senders only p f q)

-- what is found of a bus: where it is nobody or nothing, the adapter is open to send
abbrev pub Approached : {P : Type 0} → ByteStep P → ByteStep P → ClockStep P → Rate → List Sender → Option ℕ → Bool → P → Found → P → Type 0
Approached reads writes asks rate senders only true p f q = TakenOver reads writes rate p f q
Approached reads writes asks rate senders only false p f q = Looked reads writes asks rate senders only p f q

-- the adapter was not opened to send, or it was and was not listened by to the end
abbrev pub HearAgainFails : {P : Type 0} → ByteStep P → ByteStep P → ClockStep P → ByteStep P → Rate → P → P → Type 0
HearAgainFails {P} reads writes asks fails rate p q = OpenFails reads writes fails rate p q ⊎ ((m : P) × Opened reads writes rate p m × ListenFails reads writes asks fails m q)

-- what failed once nobody was heard to run, by the adapter's answer to listen only
abbrev pub GoOnFails : {P : Type 0} → ByteStep P → ByteStep P → ClockStep P → ByteStep P → Rate → Reply → P → P → Type 0
GoOnFails reads writes asks fails rate answers.Taken p q = OpenFails reads writes fails rate p q
GoOnFails reads writes asks fails rate answers.Silent p q = HearAgainFails reads writes asks fails rate p q
GoOnFails reads writes asks fails rate answers.Refused p q = ⊥

-- what failed once nothing was heard: to ask for the flags; or they told of no errors, and it failed then
abbrev pub SoundFails : {P : Type 0} → ByteStep P → ByteStep P → ClockStep P → ByteStep P → Rate → Reply → P → P → Type 0
SoundFails {P} reads writes asks fails rate answer p q =
    FlagsFail reads writes fails p q ⊎ ((flags : Option ℕ) × (m : P) × FlagsAsked reads writes p flags m × (error_in flags ≡ None) × GoOnFails reads writes asks fails rate answer m q)

-- what failed by an adapter that gave this answer to listen only: to listen; or nobody was heard to run, or nothing, and it failed then
abbrev pub HearFails : {P : Type 0} → ByteStep P → ByteStep P → ClockStep P → ByteStep P → Rate → List Sender → Option ℕ → Reply → P → P → Type 0
HearFails {P} reads writes asks fails rate senders only answer p q =
    ListenFails reads writes asks fails p q
    ⊎ (((m : P) × Listened reads writes asks senders only p founds.Nobody m × GoOnFails reads writes asks fails rate answer m q)
    ⊎ ((m : P) × Listened reads writes asks senders only p founds.Silence m × SoundFails reads writes asks fails rate answer m q))

-- what failed of a look at the bus: to open the adapter to listen; or it was open, and it failed then
abbrev pub LookFails : {P : Type 0} → ByteStep P → ByteStep P → ClockStep P → ByteStep P → Rate → List Sender → Option ℕ → P → P → Type 0
LookFails {P} reads writes asks fails rate senders only p q =
    OpenToListenFails reads writes fails rate p q ⊎ ((answer : Reply) × (m : P) × OpenedToListen reads writes rate answer p m × HearFails reads writes asks fails rate senders only answer m q)

-- what failed of an approach: where the bus is not taken over the command that opens the adapter to send is written only once nobody was heard to
-- run, or it refused to listen only
abbrev pub ApproachFails : {P : Type 0} → ByteStep P → ByteStep P → ClockStep P → ByteStep P → Rate → List Sender → Option ℕ → Bool → P → P → Type 0
ApproachFails reads writes asks fails rate senders only true p q = OpenFails reads writes fails rate p q
ApproachFails reads writes asks fails rate senders only false p q = LookFails reads writes asks fails rate senders only p q
