-- A bus is reached to ask its devices, whether they run or not.
use Rattle.std.specs.Prelude.{◌≡◌, ◌⊎◌, Bool, true, false, [], None}
use Rattle.cop_frame.specs.declared.rates.Rate.{Rate}
use Rattle.cop_live.specs.Log.{ByteStep, ClockStep}
use Rattle.cop_live.specs.declared.listening.Runner.{Runner}
use Rattle.cop_live.specs.declared.listening.Found.{Found}
use Rattle.cop_live.specs.declared.listening.Found.TheVariants as found
use Rattle.cop_live.specs.Opening.{OpenFails}
use Rattle.cop_live.specs.Approach.{Looked, TakenOver, LookFails}
use Rattle.cop_live.specs.Session.{Closed, CloseFails}
use Rattle.cop_survey.specs.declared.reaching.Reason.{Reason}
use Rattle.cop_survey.specs.declared.reaching.Reason.TheVariants as reasons
use Rattle.cop_survey.specs.declared.reaching.Reached.{Reached}
use Rattle.cop_survey.specs.declared.reaching.Reached.TheVariants.{Open, Left, Failed}

-- somebody was heard to run
abbrev pub is_running : Found → Bool
is_running found.Nobody = false
is_running found.Silence = false
is_running (found.Running runner) = true
is_running (found.Garbled lines) = false
is_running (found.Erroneous flags) = false
is_running (found.Refused command) = false
is_running found.Failed = false

-- the adapter is open to send
abbrev pub is_open : Found → Bool
is_open found.Nobody = true
is_open found.Silence = true
is_open (found.Running runner) = false
is_open (found.Garbled lines) = false
is_open (found.Erroneous flags) = false
is_open (found.Refused command) = false
is_open found.Failed = false

-- it was listened, somebody was heard to run, and the adapter was opened to send then
pub record OpenedWhereRunning {P : Type 0} (reads writes : ByteStep P) (asks : ClockStep P) (rate : Rate) (p : P) (f : Found) (q : P) : Type 0 where
  pub runner : Runner
  pub heard : P
  pub looks : Looked reads writes asks rate [] None p (found.Running runner) heard
  pub opens : TakenOver reads writes rate heard f q

-- what is found of a bus: it was listened, whoever runs; and where somebody does, the adapter was opened to send as it is where nobody does
abbrev pub IsFound : {P : Type 0} → ByteStep P → ByteStep P → ClockStep P → Rate → P → Found → P → Type 0
IsFound reads writes asks rate p f q = (is_running f ≡ false) × (Looked reads writes asks rate [] None p f q ⊎ OpenedWhereRunning reads writes asks rate p f q)

-- what failed: to listen; or somebody was heard to run, and the adapter was not opened to send
abbrev pub FindFails : {P : Type 0} → ByteStep P → ByteStep P → ClockStep P → ByteStep P → Rate → P → P → Type 0
FindFails {P} reads writes asks fails rate p q =
    LookFails reads writes asks fails rate [] None p q
    ⊎ ((runner : Runner) × (heard : P) × Looked reads writes asks rate [] None p (found.Running runner) heard × OpenFails reads writes fails rate heard q)

-- why nothing is sent over a bus, by what was found of it
abbrev pub found_of : Reason → Found
found_of (reasons.Garbled lines) = found.Garbled lines
found_of (reasons.Erroneous flags) = found.Erroneous flags
found_of (reasons.Unopened command) = found.Refused command

-- the adapter is open to send
abbrev pub IsOpened : {P : Type 0} → ByteStep P → ByteStep P → ClockStep P → Rate → P → P → Type 0
IsOpened reads writes asks rate p q = (f : Found) × (is_open f ≡ true) × IsFound reads writes asks rate p f q

-- this was found of the bus, and the adapter was closed: no frame was sent
pub record IsLeft {P : Type 0} (reads writes : ByteStep P) (asks : ClockStep P) (rate : Rate) (reason : Reason) (p q : P) : Type 0 where
  pub heard : P
  pub finds : IsFound reads writes asks rate p (found_of reason) heard
  pub closes : Closed reads writes heard q

-- what came of reaching a bus
abbrev pub IsReached : {P : Type 0} → ByteStep P → ByteStep P → ClockStep P → Rate → P → Reached → P → Type 0
IsReached reads writes asks rate p Open q = IsOpened reads writes asks rate p q
IsReached reads writes asks rate p (Left reason) q = IsLeft reads writes asks rate reason p q
IsReached reads writes asks rate p Failed q = Unit {0}

-- an adapter over which nothing is to be sent is closed
abbrev pub Leaves : {P : Type 0} → ByteStep P → ByteStep P → Reason → P → Reached → P → Type 0
Leaves reads writes reason p Open q = ⊥
Leaves reads writes reason p (Left other) q = (other ≡ reason) × Closed reads writes p q
Leaves reads writes reason p Failed q = Unit {0}

-- what holds where the port failed
abbrev pub if_failed : Reached → Type 0 → Type 0
if_failed Open claim = Unit {0}
if_failed (Left reason) claim = Unit {0}
if_failed Failed claim = claim

-- the bus was not reached: nothing was found of it; or nothing was to be sent, and the adapter was not closed
abbrev pub ReachFails : {P : Type 0} → ByteStep P → ByteStep P → ClockStep P → ByteStep P → Rate → P → P → Type 0
ReachFails {P} reads writes asks fails rate p q =
    FindFails reads writes asks fails rate p q
    ⊎ ((reason : Reason) × (heard : P) × IsFound reads writes asks rate p (found_of reason) heard × CloseFails reads writes fails heard q)
