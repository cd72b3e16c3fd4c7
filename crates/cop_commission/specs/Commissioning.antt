-- The boot of the devices of a planned network over a port, and what is said of it.
use Rattle.std.specs.Prelude.{◌≡◌, ◌⊎◌, ℕ, max, List, [], ◌∷◌, ◌++◌, Bool, true, false, ◌&&◌, nat_le, is_some, if◌then◌else◌, Option, Some, None}
use Rattle.cop_frame.specs.declared.rates.Rate.{Rate}
use Rattle.cop_rows.specs.declared.pdo_table.PdoRow.{PdoRow}
use Rattle.cop_net.specs.Devices.{File}
use Rattle.cop_net.specs.Network.{Net}
use Rattle.cop_plan.specs.declared.assigning.Outcome.{Outcome}
use Rattle.cop_plan.specs.declared.assigning.Outcome.TheVariants.{Planned, Refused}
use Rattle.cop_plan.specs.declared.choices.Asked.{Asked}
use Rattle.cop_dcf.specs.Settings.{dictionary_of}
use Rattle.cop_boot.specs.Manager.{Managing}
use Rattle.cop_live.specs.Log.{ByteStep, ClockStep}
use Rattle.cop_live.specs.declared.listening.Sender.{Sender}
use Rattle.cop_live.specs.declared.listening.Found.TheVariants as found
use Rattle.cop_heartbeats.specs.declared.attending.Awaited.{Awaited}
use Rattle.cop_heartbeats.specs.declared.attending.Heartbeats.{Heartbeats}
use Rattle.cop_heartbeats.specs.Attending.{are_all_operational}
use Rattle.cop_identity.specs.declared.questions.Question.{Question}
use Rattle.cop_identity.specs.declared.asking.Exchange.{Exchange}
use Rattle.cop_boot_answer.specs.Answers.{Told, nothing_told}
use Rattle.cop_engine.specs.Networks.{IsPlannedNetwork}
use Rattle.cop_engine.specs.Boots.{device_nodes}
use Rattle.cop_readback.specs.declared.session.ReadBack.{ReadBack}
use Rattle.cop_commission.specs.declared.commissioning.Watch.{Watch}
use Rattle.cop_commission.specs.declared.commissioning.Watch.TheVariants.{Never, OnceEach, For}
use Rattle.cop_commission.specs.declared.commissioning.Approach.{Approach}
use Rattle.cop_commission.specs.declared.commissioning.Commissioned.{Commissioned}
use Rattle.cop_commission.specs.declared.commissioning.Commissioned.TheVariants.{Ended, Running, Garbled, Erroneous, Unopened, Others, Unrestored, Absent, NonePasses, Failed}
use Rattle.cop_commission.specs.Heartbeats.{awaited_of, attendance_lines}
use Rattle.cop_commission.specs.Identities.{questions_of, identity_answer}
use Rattle.cop_commission.specs.Restoring.{restores_for, restoring_answer}
use Rattle.cop_commission.specs.Senders.{own_senders}
use Rattle.cop_commission.specs.Readings.{settings_questions, storing_questions, standing_lines}
use Rattle.cop_readback.specs.Session.{ReadBackStops}
use Rattle.cop_commission.specs.Sessions.{Way, awaited_if, BootsAndCloses, HasStarted, IsWhole, IsRefrained, IsUnopened, IsMistaken, IsUnrestored, ClosingFails, SessionFails, SessionStops}
use Rattle.cop_commission.specs.Told.{off_questions, told_manager}
use Rattle.cop_commission.specs.Unended.{unended_answer}

-- the identifiers of PDOs, and who sends each
abbrev pub senders_of : List PdoRow → List ℕ → List Sender
senders_of [] ids = []
senders_of (row ∷ rows) [] = []
senders_of (row ∷ rows) (id ∷ ids) = record { id = id; node = row.node } ∷ senders_of rows ids

-- the questions to nodes, where they are to be identified
abbrev pub questions_for : Bool → Net → List ℕ → List Question
questions_for true net nodes = questions_of net nodes
questions_for false net nodes = []

-- what nodes are asked after their boot: whether they have the settings of a plan, by what they told of their COB-IDs, and to store them, if
-- they are to
abbrev pub settings_for : Bool → Net → List ℕ → List Exchange → List ℕ → List Question
settings_for true net ids told nodes = settings_questions net ids told nodes ++ storing_questions net nodes
settings_for false net ids told nodes = settings_questions net ids told nodes

-- a node has a device
abbrev pub is_meant_device : Net → ℕ → Bool
is_meant_device net node = (nat_le 1 node && nat_le node 127) && is_some (dictionary_of net node)

-- the nodes that are booted: one alone, if it has a device, or all that have one
abbrev pub meant_nodes : Net → Option ℕ → List ℕ
meant_nodes net None = device_nodes net
meant_nodes net (Some node) = if is_meant_device net node then node ∷ [] else []

-- the heartbeats that are awaited, unless they never are
abbrev pub awaited_for : Watch → Net → List ℕ → List Awaited
awaited_for Never net nodes = []
awaited_for OnceEach net nodes = awaited_of net nodes
awaited_for (For ticks) net nodes = awaited_of net nodes

-- the longest time in which one of them has to come
abbrev pub longest : List Awaited → ℕ
longest [] = 0
longest (one ∷ rest) = max one.time (longest rest)

-- for how long they are awaited: for so many ticks, or until the time of each has passed
abbrev pub limit_for : Watch → List Awaited → ℕ
limit_for Never awaited = 0
limit_for OnceEach awaited = longest awaited
limit_for (For ticks) awaited = ticks

-- how the bus of a network is met by a plan with a rate and these identifiers; a node that is meant alone runs, too, where it sends a TPDO of its EDS file
abbrev pub way_of : Net → Rate → List ℕ → List ℕ → Approach → Way
way_of net rate ids nodes approach = record {
  rate = rate;
  senders = senders_of net.rows ids ++ own_senders net approach.reach.only;
  take_over = approach.take_over;
  reach = approach.reach;
  boot_limit = approach.boot_limit;
  awaited = awaited_for approach.watch net nodes;
  limit = limit_for approach.watch (awaited_for approach.watch net nodes);
}

-- where each node stands, whether they were started, and what the heartbeats said that were awaited then
abbrev pub ended_answer : Managing → List ℕ → ReadBack → List Awaited → Heartbeats → Told
ended_answer m nodes back awaited heartbeats = record {
  nodes = standing_lines m nodes back;
  started = Some back.started;
  heartbeats = attendance_lines (awaited_if back.started awaited) heartbeats;
}

-- a boot over an open adapter made this of a manager, whose answer this is; told are, too, whether all are ready, whether they were started,
-- whether each whose heartbeat was awaited is operational, and the rate
pub record HasEnded {P : Type 0} (reads writes : ByteStep P) (asks : ClockStep P) (way : Way) (m : Managing) (nodes : List ℕ) (settings : List Question) (p q : P) (answer : Told) (ready started operational : Bool) (at : Rate) : Type 0 where
  pub later : Managing
  pub back : ReadBack
  pub heartbeats : Heartbeats
  pub boots : BootsAndCloses reads writes asks way m nodes settings p back heartbeats later q
  pub says : answer ≡ ended_answer later nodes back way.awaited heartbeats
  pub are : ready ≡ back.ready
  pub tells : started ≡ back.started
  pub came : operational ≡ are_all_operational heartbeats (awaited_if back.started way.awaited)
  pub rated : at ≡ way.rate

-- a boot over a line that failed has such an answer; the start had been sent if that is said
pub record HasFailed {P : Type 0} (reads writes : ByteStep P) (asks : ClockStep P) (way : Way) (m : Managing) (nodes : List ℕ) (settings : List Question) (p : P) (answer : Told) : Type 0 where
  pub later : Managing
  pub started : Bool
  pub says : answer ≡ unended_answer later nodes started
  pub sent : started ≡ true → HasStarted reads writes asks way m nodes settings p later

-- what came of a boot over an open adapter
abbrev pub IsBooting : {P : Type 0} → ByteStep P → ByteStep P → ClockStep P → Way → Managing → List ℕ → List Question → P → P → Commissioned → Type 0
IsBooting reads writes asks way m nodes settings p q (Ended answer ready started operational at) = HasEnded reads writes asks way m nodes settings p q answer ready started operational at
IsBooting reads writes asks way m nodes settings p q (Failed answer) = HasFailed reads writes asks way m nodes settings p answer
IsBooting reads writes asks way m nodes settings p q (Running runner) = ⊥
IsBooting reads writes asks way m nodes settings p q (Garbled lines) = ⊥
IsBooting reads writes asks way m nodes settings p q (Erroneous flags at) = ⊥
IsBooting reads writes asks way m nodes settings p q (Unopened command at) = ⊥
IsBooting reads writes asks way m nodes settings p q (Others answer all) = ⊥
IsBooting reads writes asks way m nodes settings p q (Unrestored answer) = ⊥
IsBooting reads writes asks way m nodes settings p q Absent = ⊥
IsBooting reads writes asks way m nodes settings p q NonePasses = ⊥

-- a session: the devices tell which COB-IDs they have that are to be switched off, and then the manager boots the nodes that has the settings
-- of a plan with these identifiers by what they told
pub record IsEnded {P : Type 0} (reads writes : ByteStep P) (asks : ClockStep P) (net : Net) (ids nodes : List ℕ) (way : Way) (identify restore store : Bool) (p q : P) (answer : Told) (ready started operational : Bool) (at : Rate) : Type 0 where
  pub told : List Exchange
  pub free : P
  pub whole : IsWhole reads writes asks way nodes (questions_for identify net nodes) (restores_for restore net nodes) (off_questions net ids nodes) p told free
  pub ends : HasEnded reads writes asks way (told_manager way.boot_limit net ids told nodes) nodes (settings_for store net ids told nodes) free q answer ready started operational at

-- a session whose line failed in the boot
pub record IsUnended {P : Type 0} (reads writes : ByteStep P) (asks : ClockStep P) (net : Net) (ids nodes : List ℕ) (way : Way) (identify restore store : Bool) (p : P) (answer : Told) : Type 0 where
  pub told : List Exchange
  pub free : P
  pub whole : IsWhole reads writes asks way nodes (questions_for identify net nodes) (restores_for restore net nodes) (off_questions net ids nodes) p told free
  pub fails : HasFailed reads writes asks way (told_manager way.boot_limit net ids told nodes) nodes (settings_for store net ids told nodes) free answer

-- what came of the boot of some nodes by a plan with a rate and these identifiers; nothing is said where the line failed before the boot
abbrev pub IsMet : {P : Type 0} → ByteStep P → ByteStep P → ClockStep P → Net → Rate → List ℕ → List ℕ → Approach → P → P → Commissioned → Type 0
IsMet reads writes asks net rate ids nodes approach p q (Ended answer ready started operational at) =
    IsEnded reads writes asks net ids nodes (way_of net rate ids nodes approach) approach.identify approach.restore approach.store p q answer ready started operational at
IsMet reads writes asks net rate ids nodes approach p q (Running runner) = IsRefrained reads writes asks (way_of net rate ids nodes approach) (found.Running runner) p q
IsMet reads writes asks net rate ids nodes approach p q (Garbled lines) = IsRefrained reads writes asks (way_of net rate ids nodes approach) (found.Garbled lines) p q
IsMet reads writes asks net rate ids nodes approach p q (Erroneous flags at) = IsRefrained reads writes asks (way_of net rate ids nodes approach) (found.Erroneous flags) p q × (at ≡ rate)
IsMet reads writes asks net rate ids nodes approach p q (Unopened command at) = IsUnopened reads writes asks (way_of net rate ids nodes approach) command p q × (at ≡ rate)
IsMet reads writes asks net rate ids nodes approach p q (Others answer all) =
    IsMistaken reads writes asks (way_of net rate ids nodes approach) (questions_for approach.identify net nodes) all.items p q × (answer ≡ identity_answer nodes all.items)
IsMet reads writes asks net rate ids nodes approach p q (Unrestored answer) =
    (all : List Exchange) × IsUnrestored reads writes asks (way_of net rate ids nodes approach) (questions_for approach.identify net nodes) (restores_for approach.restore net nodes) all p q × (answer ≡ restoring_answer nodes all)
IsMet reads writes asks net rate ids nodes approach p q Absent = ⊥
IsMet reads writes asks net rate ids nodes approach p q NonePasses = ⊥
IsMet reads writes asks net rate ids nodes approach p q (Failed answer) = (answer ≡ nothing_told) ⊎ IsUnended reads writes asks net ids nodes (way_of net rate ids nodes approach) approach.identify approach.restore approach.store p answer

-- where there is no such node nothing is done at the port
abbrev pub IsWithoutNode : {P : Type 0} → P → P → Commissioned → Type 0
IsWithoutNode p q Absent = p ≡ q
IsWithoutNode p q (Ended answer ready started operational at) = ⊥
IsWithoutNode p q (Running runner) = ⊥
IsWithoutNode p q (Garbled lines) = ⊥
IsWithoutNode p q (Erroneous flags at) = ⊥
IsWithoutNode p q (Unopened command at) = ⊥
IsWithoutNode p q (Others answer all) = ⊥
IsWithoutNode p q (Unrestored answer) = ⊥
IsWithoutNode p q NonePasses = ⊥
IsWithoutNode p q (Failed answer) = ⊥

abbrev pub IsMetOrAbsent : {P : Type 0} → ByteStep P → ByteStep P → ClockStep P → Net → Rate → List ℕ → List ℕ → Approach → P → P → Commissioned → Type 0
IsMetOrAbsent reads writes asks net rate ids [] approach p q ended = IsWithoutNode p q ended
IsMetOrAbsent reads writes asks net rate ids (node ∷ nodes) approach p q ended = IsMet reads writes asks net rate ids (node ∷ nodes) approach p q ended

-- what came of the boot of the nodes of a network that are meant
abbrev pub IsCommissioned : {P : Type 0} → ByteStep P → ByteStep P → ClockStep P → Net → Rate → List ℕ → Approach → P → P → Commissioned → Type 0
IsCommissioned reads writes asks net rate ids approach p q ended = IsMetOrAbsent reads writes asks net rate ids (meant_nodes net approach.reach.only) approach p q ended

-- where no rate passes nothing is done at the port
abbrev pub IsWithoutPlan : {P : Type 0} → P → P → Commissioned → Type 0
IsWithoutPlan p q NonePasses = p ≡ q
IsWithoutPlan p q (Ended answer ready started operational at) = ⊥
IsWithoutPlan p q (Running runner) = ⊥
IsWithoutPlan p q (Garbled lines) = ⊥
IsWithoutPlan p q (Erroneous flags at) = ⊥
IsWithoutPlan p q (Unopened command at) = ⊥
IsWithoutPlan p q (Others answer all) = ⊥
IsWithoutPlan p q (Unrestored answer) = ⊥
IsWithoutPlan p q Absent = ⊥
IsWithoutPlan p q (Failed answer) = ⊥

abbrev pub IsCommissionedFor : {P : Type 0} → ByteStep P → ByteStep P → ClockStep P → Net → Outcome → Approach → P → P → Commissioned → Type 0
IsCommissionedFor reads writes asks net (Planned plan) approach p q ended = IsCommissioned reads writes asks net plan.rate plan.ids approach p q ended
IsCommissionedFor reads writes asks net (Refused refusals) approach p q ended = IsWithoutPlan p q ended

-- what came of the boot of a network by what the planner answers for it
-- what came of the boot of the network that the tables and the EDS files say, by what is asked of its plan
pub record IsCommissioning {P : Type 0} (reads writes : ByteStep P) (asks : ClockStep P) (asked : Asked) (nodes pdos : List ℕ) (eds : List File) (approach : Approach) (p q : P) (ended : Commissioned) : Type 0 where
  pub outcome : Outcome
  pub network : IsPlannedNetwork asked nodes pdos eds outcome
  pub met : IsCommissionedFor reads writes asks network.net outcome approach p q ended

-- what holds of the answer where the port failed
abbrev pub if_failed : Commissioned → (Told → Type 0) → Type 0
if_failed (Failed answer) claim = claim answer
if_failed (Ended answer ready started operational at) claim = Unit {0}
if_failed (Running runner) claim = Unit {0}
if_failed (Garbled lines) claim = Unit {0}
if_failed (Erroneous flags at) claim = Unit {0}
if_failed (Unopened command at) claim = Unit {0}
if_failed (Others answer all) claim = Unit {0}
if_failed (Unrestored answer) claim = Unit {0}
if_failed Absent claim = Unit {0}
if_failed NonePasses claim = Unit {0}

-- a boot over an open adapter gave out, and the answer tells where its manager stood, and of the start
abbrev pub BootingFails : {P : Type 0} → ByteStep P → ByteStep P → ClockStep P → ByteStep P → Way → Managing → List ℕ → List Question → P → P → Told → Type 0
BootingFails reads writes asks fails way m nodes settings p q answer = (later : Managing) × (started : Bool) × (answer ≡ unended_answer later nodes started) × ClosingFails reads writes asks fails way m nodes settings p later started q

-- there was no memory for what a boot over an open adapter is told by: it stopped at a question, or it ended and was closed, or it gave out
abbrev pub BootingStops : {P : Type 0} → ByteStep P → ByteStep P → ClockStep P → ByteStep P → Way → Managing → List ℕ → List Question → P → P → Type 0
BootingStops reads writes asks fails way m nodes settings p q =
    ReadBackStops reads writes asks way.reach.only m nodes settings p q
    ⊎ (((back : ReadBack) × (heartbeats : Heartbeats) × (later : Managing) × BootsAndCloses reads writes asks way m nodes settings p back heartbeats later q)
    ⊎ ((later : Managing) × (started : Bool) × ClosingFails reads writes asks fails way m nodes settings p later started q))

-- the boot of some nodes by a plan gave out: before the settings were begun, and nothing is told; or later
abbrev pub MeetingFails : {P : Type 0} → ByteStep P → ByteStep P → ClockStep P → ByteStep P → Net → List ℕ → List ℕ → Way → Bool → Bool → Bool → P → P → Told → Type 0
MeetingFails {P} reads writes asks fails net ids nodes way identify restore store p q answer =
    ((answer ≡ nothing_told) × SessionFails reads writes asks fails way nodes (questions_for identify net nodes) (restores_for restore net nodes) (off_questions net ids nodes) p q)
    ⊎ ((told : List Exchange) × (free : P) × IsWhole reads writes asks way nodes (questions_for identify net nodes) (restores_for restore net nodes) (off_questions net ids nodes) p told free × BootingFails reads writes asks fails way (told_manager way.boot_limit net ids told nodes) nodes (settings_for store net ids told nodes) free q answer)

-- there was no memory for more: nothing was done yet; or the devices were asked first, some of what they are to be asked; or some device was found to be
-- another one, or did not take the factory's values; or all was asked first, and the boot was not begun, or stopped
abbrev pub MeetingStops : {P : Type 0} → ByteStep P → ByteStep P → ClockStep P → ByteStep P → Net → List ℕ → List ℕ → Way → Bool → Bool → Bool → P → P → Type 0
MeetingStops {P} reads writes asks fails net ids nodes way identify restore store p q =
    (p ≡ q)
    ⊎ (SessionStops reads writes asks way nodes (questions_for identify net nodes) (restores_for restore net nodes) (off_questions net ids nodes) p q
    ⊎ (((all : List Exchange) × (IsMistaken reads writes asks way (questions_for identify net nodes) all p q ⊎ IsUnrestored reads writes asks way (questions_for identify net nodes) (restores_for restore net nodes) all p q))
    ⊎ ((told : List Exchange) × (free : P) × IsWhole reads writes asks way nodes (questions_for identify net nodes) (restores_for restore net nodes) (off_questions net ids nodes) p told free × ((free ≡ q) ⊎ BootingStops reads writes asks fails way (told_manager way.boot_limit net ids told nodes) nodes (settings_for store net ids told nodes) free q))))

-- and so the boot of the nodes of a network that are meant
abbrev pub CommissionFails : {P : Type 0} → ByteStep P → ByteStep P → ClockStep P → ByteStep P → Net → Rate → List ℕ → Approach → P → P → Told → Type 0
CommissionFails reads writes asks fails net rate ids approach p q answer =
    MeetingFails reads writes asks fails net ids (meant_nodes net approach.reach.only) (way_of net rate ids (meant_nodes net approach.reach.only) approach) approach.identify approach.restore approach.store p q answer

abbrev pub CommissionStops : {P : Type 0} → ByteStep P → ByteStep P → ClockStep P → ByteStep P → Net → Rate → List ℕ → Approach → P → P → Type 0
CommissionStops reads writes asks fails net rate ids approach p q =
    MeetingStops reads writes asks fails net ids (meant_nodes net approach.reach.only) (way_of net rate ids (meant_nodes net approach.reach.only) approach) approach.identify approach.restore approach.store p q

-- by what the planner answers
abbrev pub FailsFor : {P : Type 0} → ByteStep P → ByteStep P → ClockStep P → ByteStep P → Net → Outcome → Approach → P → P → Told → Type 0
FailsFor reads writes asks fails net (Planned plan) approach p q answer = CommissionFails reads writes asks fails net plan.rate plan.ids approach p q answer
FailsFor reads writes asks fails net (Refused refusals) approach p q answer = ⊥

abbrev pub StopsFor : {P : Type 0} → ByteStep P → ByteStep P → ClockStep P → ByteStep P → Net → Outcome → Approach → P → P → Type 0
StopsFor reads writes asks fails net (Planned plan) approach p q = CommissionStops reads writes asks fails net plan.rate plan.ids approach p q
StopsFor reads writes asks fails net (Refused refusals) approach p q = ⊥

-- the boot of the network that the tables and the EDS files say gave out
pub record CommissioningFails {P : Type 0} (reads writes : ByteStep P) (asks : ClockStep P) (fails : ByteStep P) (asked : Asked) (nodes pdos : List ℕ) (eds : List File) (approach : Approach) (p q : P) (answer : Told) : Type 0 where
  pub outcome : Outcome
  pub network : IsPlannedNetwork asked nodes pdos eds outcome
  pub failed : FailsFor reads writes asks fails network.net outcome approach p q answer

-- a rule was broken, or there was no memory: nothing was done at the port, or so much of that network's boot
pub record CommissioningStops {P : Type 0} (reads writes : ByteStep P) (asks : ClockStep P) (fails : ByteStep P) (asked : Asked) (nodes pdos : List ℕ) (eds : List File) (approach : Approach) (p q : P) : Type 0 where
  pub outcome : Outcome
  pub network : IsPlannedNetwork asked nodes pdos eds outcome
  pub stops : StopsFor reads writes asks fails network.net outcome approach p q
