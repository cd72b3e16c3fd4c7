-- A boot by a manager over a port, from the opening of the adapter to its closing.
use Rattle.std.specs.Prelude.{ℕ, List, [], ◌∷◌, Bool, true, false, ◌≡◌, ◌⊎◌, Option, if◌then◌else◌}
use Rattle.cop_frame.specs.declared.rates.Rate.{Rate}
use Rattle.cop_boot.specs.Manager.{Managing}
use Rattle.cop_live.specs.Log.{ByteStep, ClockStep, Sent, DidAll, BrokeOff}
use Rattle.cop_live.specs.declared.listening.Sender.{Sender}
use Rattle.cop_live.specs.declared.listening.Found.{Found}
use Rattle.cop_live.specs.declared.listening.Found.TheVariants as found
use Rattle.cop_live.specs.Nodes.{nobody}
use Rattle.cop_live.specs.Approach.{Approached, Looked, ApproachFails}
use Rattle.cop_live.specs.declared.opening.Command.{Command}
use Rattle.cop_live.specs.Session.{Closed, CloseFails, node_reset_of}
use Rattle.cop_heartbeats.specs.declared.attending.Awaited.{Awaited}
use Rattle.cop_heartbeats.specs.declared.attending.Heartbeats.{Heartbeats}
use Rattle.cop_heartbeats.specs.Attending.{Attended, AttendFails}
use Rattle.cop_identity.specs.declared.questions.Question.{Question}
use Rattle.cop_identity.specs.declared.asking.Exchange.{Exchange}
use Rattle.cop_identity.specs.Asking.{AskedAll, AskingFails, AskedSome, has_other}
use Rattle.cop_commission.specs.Restoring.{has_untaken}
use Rattle.cop_identity.specs.Telling.{WereTold, TellFails, ToldSome}
use Rattle.cop_readback.specs.declared.session.Reach.{Reach}
use Rattle.cop_readback.specs.declared.session.ReadBack.{ReadBack}
use Rattle.cop_readback.specs.Session.{ReadsBack, ReadBackFails}
use Rattle.cop_commission.specs.declared.sessions.Session.{Session}
use Rattle.cop_commission.specs.declared.sessions.Session.TheVariants as sessions
use Rattle.cop_commission.specs.declared.sessions.Closing.{Closing}
use Rattle.cop_commission.specs.declared.sessions.Closing.TheVariants as closings

-- how a bus is met: at which rate; to whose PDOs it is listened, unless it is taken over; how far the boot reaches; for how many ticks a
-- node's boot-up is awaited after a reset; and whose heartbeats are awaited after the start, for so many ticks
pub record Way : Type 0 where
  pub rate : Rate
  pub senders : List Sender
  pub take_over : Bool
  pub reach : Reach
  pub boot_limit : ℕ
  pub awaited : List Awaited
  pub limit : ℕ

-- a bus was approached, and this was found: where it is nobody or nothing, the adapter is open to send
abbrev pub IsApproached : {P : Type 0} → ByteStep P → ByteStep P → ClockStep P → Way → P → Found → P → Type 0
IsApproached reads writes asks way p f q = Approached reads writes asks way.rate way.senders way.reach.only way.take_over p f q

-- heartbeats are awaited where nodes were started
abbrev pub awaited_if : Bool → List Awaited → List Awaited
awaited_if started awaited = if started then awaited else []

-- this was heard of those whose heartbeats are awaited, if there are such
abbrev pub IsWatched : {P : Type 0} → ByteStep P → ByteStep P → ClockStep P → List Awaited → ℕ → P → Heartbeats → P → Type 0
IsWatched reads writes asks [] limit p heartbeats q = (heartbeats ≡ record { heard = nobody; late = nobody }) × (p ≡ q)
IsWatched reads writes asks (one ∷ rest) limit p heartbeats q = Attended reads writes asks (one ∷ rest) limit p heartbeats q

-- a manager boots its nodes over an open adapter, what they have is read back, heartbeats are awaited, and the adapter is closed then
pub record BootsAndCloses {P : Type 0} (reads writes : ByteStep P) (asks : ClockStep P) (way : Way) (m : Managing) (nodes : List ℕ) (settings : List Question) (p : P) (back : ReadBack) (heartbeats : Heartbeats) (later : Managing) (q : P) : Type 0 where
  pub booted : P
  pub watched : P
  pub boots : ReadsBack reads writes asks way.reach m nodes settings p back.exchanges.items back.booted back.ready back.started later booted
  pub watches : IsWatched reads writes asks (awaited_if back.started way.awaited) way.limit booted heartbeats watched
  pub closes : Closed reads writes watched q

-- a boot whose settings were read back started the nodes
pub record HasStarted {P : Type 0} (reads writes : ByteStep P) (asks : ClockStep P) (way : Way) (m : Managing) (nodes : List ℕ) (settings : List Question) (p : P) (later : Managing) : Type 0 where
  pub back : ReadBack
  pub booted : P
  pub boots : ReadsBack reads writes asks way.reach m nodes settings p back.exchanges.items back.booted back.ready back.started later booted
  pub starts : back.started ≡ true

-- how a boot over an open adapter ended; where the port failed, the start of the nodes had been sent if that is said
abbrev pub IsClosing : {P : Type 0} → ByteStep P → ByteStep P → ClockStep P → Way → Managing → List ℕ → List Question → P → Managing → P → Closing → Type 0
IsClosing reads writes asks way m nodes settings p later q (closings.Closed back heartbeats) = BootsAndCloses reads writes asks way m nodes settings p back heartbeats later q
IsClosing reads writes asks way m nodes settings p later q (closings.Failed started) = started ≡ true → HasStarted reads writes asks way m nodes settings p later

-- some devices are asked who they are, and none answers with another value than is wanted: each answer is the wanted one or an abort, or
-- there is none
pub record AreRight {P : Type 0} (reads writes : ByteStep P) (asks : ClockStep P) (questions : List Question) (p q : P) : Type 0 where
  pub all : List Exchange
  pub asked : AskedAll reads writes asks questions p all q
  pub none_other : has_other all ≡ false

-- nobody was found, or nothing
abbrev pub is_free : Found → Bool
is_free found.Nobody = true
is_free found.Silence = true
is_free (found.Running runner) = false
is_free (found.Garbled lines) = false
is_free (found.Erroneous flags) = false
is_free (found.Refused command) = false
is_free found.Failed = false

-- a bus was found free, and the adapter is open to send
abbrev pub IsFree : {P : Type 0} → ByteStep P → ByteStep P → ClockStep P → Way → P → P → Type 0
IsFree reads writes asks way p q = (f : Found) × (is_free f ≡ true) × IsApproached reads writes asks way p f q

-- one node alone or all are reset whole, where some devices were told to take other values
abbrev pub AreReset : {P : Type 0} → ByteStep P → ByteStep P → ClockStep P → Option ℕ → List Question → P → P → Type 0
AreReset reads writes asks only [] p q = p ≡ q
AreReset reads writes asks only (question ∷ rest) p q = DidAll reads writes asks p (Sent (node_reset_of only) ∷ []) q

-- some devices are told to take the values that they left the factory with, each does, and then they are reset
pub record AreRestored {P : Type 0} (reads writes : ByteStep P) (asks : ClockStep P) (only : Option ℕ) (restores : List Question) (p q : P) : Type 0 where
  pub all : List Exchange
  pub told : P
  pub asked : AskedAll reads writes asks restores p all told
  pub each : has_untaken all ≡ false
  pub resets : AreReset reads writes asks only restores told q

-- the devices are known, some take the values that they left the factory with, and those of the nodes that boot up after a reset are asked which COB-IDs they
-- have, if there are such questions
pub record RestoresFirst {P : Type 0} (reads writes : ByteStep P) (asks : ClockStep P) (way : Way) (nodes : List ℕ) (restores offs : List Question) (p : P) (told : List Exchange) (q : P) : Type 0 where
  pub restored : P
  pub takes : AreRestored reads writes asks way.reach.only restores p restored
  pub tells : WereTold reads writes asks way.reach.only nodes way.boot_limit offs restored told q

-- some devices are asked who they are, and none is found to be another one; some take the values that they left the factory with; and those of the nodes
-- that boot up after a reset are asked which COB-IDs they have, if there are such questions
pub record AsksFirst {P : Type 0} (reads writes : ByteStep P) (asks : ClockStep P) (way : Way) (nodes : List ℕ) (questions restores offs : List Question) (p : P) (told : List Exchange) (q : P) : Type 0 where
  pub known : P
  pub identifies : AreRight reads writes asks questions p known
  pub restores_first : RestoresFirst reads writes asks way nodes restores offs known told q

-- the bus is found free and the adapter open, and the devices are asked so: nothing else is done at the port
pub record IsWhole {P : Type 0} (reads writes : ByteStep P) (asks : ClockStep P) (way : Way) (nodes : List ℕ) (questions restores offs : List Question) (p : P) (told : List Exchange) (q : P) : Type 0 where
  pub free : P
  pub frees : IsFree reads writes asks way p free
  pub asked : AsksFirst reads writes asks way nodes questions restores offs free told q

-- some devices are asked who they are, one answers with another value than is wanted, and the adapter is closed
pub record FindsOther {P : Type 0} (reads writes : ByteStep P) (asks : ClockStep P) (questions : List Question) (all : List Exchange) (p q : P) : Type 0 where
  pub known : P
  pub asked : AskedAll reads writes asks questions p all known
  pub some_other : has_other all ≡ true
  pub closes : Closed reads writes known q

-- the bus is found free and the adapter open, some device is found to be another one, and the adapter is closed: of frames the requests
-- of uploads alone are sent
pub record IsMistaken {P : Type 0} (reads writes : ByteStep P) (asks : ClockStep P) (way : Way) (questions : List Question) (all : List Exchange) (p q : P) : Type 0 where
  pub free : P
  pub frees : IsFree reads writes asks way p free
  pub finds : FindsOther reads writes asks questions all free q

-- some device does not take the values that it left the factory with, and the adapter is closed
pub record HasUnrestored {P : Type 0} (reads writes : ByteStep P) (asks : ClockStep P) (restores : List Question) (all : List Exchange) (p q : P) : Type 0 where
  pub told : P
  pub asked : AskedAll reads writes asks restores p all told
  pub some_untaken : has_untaken all ≡ true
  pub closes : Closed reads writes told q

-- the same of devices that are known
pub record FindsUnrestored {P : Type 0} (reads writes : ByteStep P) (asks : ClockStep P) (questions restores : List Question) (all : List Exchange) (p q : P) : Type 0 where
  pub known : P
  pub identifies : AreRight reads writes asks questions p known
  pub finds : HasUnrestored reads writes asks restores all known q

-- the bus is found free and the adapter open, some device does not take these values, and the adapter is closed: of frames the requests of uploads alone
-- are sent, and the downloads to 1011h sub 1
pub record IsUnrestored {P : Type 0} (reads writes : ByteStep P) (asks : ClockStep P) (way : Way) (questions restores : List Question) (all : List Exchange) (p q : P) : Type 0 where
  pub free : P
  pub frees : IsFree reads writes asks way p free
  pub finds : FindsUnrestored reads writes asks questions restores all free q

-- the bus is not taken over, the adapter is opened to listen (to listen only, if it can), somebody who is meant is heard to run, or lines come of which none
-- is a frame, or none comes and its flags tell of errors, and the adapter is closed: no frame is sent
pub record IsRefrained {P : Type 0} (reads writes : ByteStep P) (asks : ClockStep P) (way : Way) (f : Found) (p q : P) : Type 0 where
  pub heard : P
  pub left_alone : way.take_over ≡ false
  pub looks : Looked reads writes asks way.rate way.senders way.reach.only p f heard
  pub closes : Closed reads writes heard q

-- the adapter refuses a command by which it is opened, and is closed: no frame is sent
pub record IsUnopened {P : Type 0} (reads writes : ByteStep P) (asks : ClockStep P) (way : Way) (command : Command) (p q : P) : Type 0 where
  pub refused : P
  pub approaches : IsApproached reads writes asks way p (found.Refused command) refused
  pub closes : Closed reads writes refused q

-- what the beginning of a session says
abbrev pub IsSession : {P : Type 0} → ByteStep P → ByteStep P → ClockStep P → Way → List ℕ → List Question → List Question → List Question → P → P → Session → Type 0
IsSession reads writes asks way nodes questions restores offs p q (sessions.Told told) = IsWhole reads writes asks way nodes questions restores offs p told.items q
IsSession reads writes asks way nodes questions restores offs p q (sessions.Running runner) = IsRefrained reads writes asks way (found.Running runner) p q
IsSession reads writes asks way nodes questions restores offs p q (sessions.Garbled lines) = IsRefrained reads writes asks way (found.Garbled lines) p q
IsSession reads writes asks way nodes questions restores offs p q (sessions.Erroneous flags) = IsRefrained reads writes asks way (found.Erroneous flags) p q
IsSession reads writes asks way nodes questions restores offs p q (sessions.Unopened command) = IsUnopened reads writes asks way command p q
IsSession reads writes asks way nodes questions restores offs p q (sessions.Others all) = IsMistaken reads writes asks way questions all.items p q
IsSession reads writes asks way nodes questions restores offs p q (sessions.Unrestored all) = IsUnrestored reads writes asks way questions restores all.items p q
IsSession reads writes asks way nodes questions restores offs p q sessions.Failed = Unit {0}

-- the adapter is closed where nothing is to be sent, for what was found
abbrev pub Refrains : {P : Type 0} → ByteStep P → ByteStep P → Found → P → Session → P → Type 0
Refrains reads writes f p (sessions.Told told) q = ⊥
Refrains reads writes f p (sessions.Running runner) q = (f ≡ found.Running runner) × Closed reads writes p q
Refrains reads writes f p (sessions.Garbled lines) q = (f ≡ found.Garbled lines) × Closed reads writes p q
Refrains reads writes f p (sessions.Erroneous flags) q = (f ≡ found.Erroneous flags) × Closed reads writes p q
Refrains reads writes f p (sessions.Unopened command) q = (f ≡ found.Refused command) × Closed reads writes p q
Refrains reads writes f p (sessions.Others all) q = ⊥
Refrains reads writes f p (sessions.Unrestored all) q = ⊥
Refrains reads writes f p sessions.Failed q = Unit {0}

-- how a session goes on where the devices are known
abbrev pub Restores : {P : Type 0} → ByteStep P → ByteStep P → ClockStep P → Way → List ℕ → List Question → List Question → P → P → Session → Type 0
Restores reads writes asks way nodes restores offs p q (sessions.Told told) = RestoresFirst reads writes asks way nodes restores offs p told.items q
Restores reads writes asks way nodes restores offs p q (sessions.Running runner) = ⊥
Restores reads writes asks way nodes restores offs p q (sessions.Garbled lines) = ⊥
Restores reads writes asks way nodes restores offs p q (sessions.Erroneous flags) = ⊥
Restores reads writes asks way nodes restores offs p q (sessions.Unopened command) = ⊥
Restores reads writes asks way nodes restores offs p q (sessions.Others all) = ⊥
Restores reads writes asks way nodes restores offs p q (sessions.Unrestored all) = HasUnrestored reads writes asks restores all.items p q
Restores reads writes asks way nodes restores offs p q sessions.Failed = Unit {0}

-- how a session goes on where nobody that is meant is heard to run
abbrev pub GoesOn : {P : Type 0} → ByteStep P → ByteStep P → ClockStep P → Way → List ℕ → List Question → List Question → List Question → P → P → Session → Type 0
GoesOn reads writes asks way nodes questions restores offs p q (sessions.Told told) = AsksFirst reads writes asks way nodes questions restores offs p told.items q
GoesOn reads writes asks way nodes questions restores offs p q (sessions.Running runner) = ⊥
GoesOn reads writes asks way nodes questions restores offs p q (sessions.Garbled lines) = ⊥
GoesOn reads writes asks way nodes questions restores offs p q (sessions.Erroneous flags) = ⊥
GoesOn reads writes asks way nodes questions restores offs p q (sessions.Unopened command) = ⊥
GoesOn reads writes asks way nodes questions restores offs p q (sessions.Others all) = FindsOther reads writes asks questions all.items p q
GoesOn reads writes asks way nodes questions restores offs p q (sessions.Unrestored all) = FindsUnrestored reads writes asks questions restores all.items p q
GoesOn reads writes asks way nodes questions restores offs p q sessions.Failed = Unit {0}

-- the heartbeats that are awaited gave out, if there are such
abbrev pub WatchFails : {P : Type 0} → ByteStep P → ByteStep P → ClockStep P → ByteStep P → List Awaited → P → P → Type 0
WatchFails reads writes asks fails [] p q = ⊥
WatchFails reads writes asks fails (one ∷ rest) p q = AttendFails reads writes asks fails p q

-- a boot's settings were read back, and by then the nodes were started or not; and then the heartbeats gave out, or the closing of the adapter
pub record EndFails {P : Type 0} (reads writes : ByteStep P) (asks : ClockStep P) (fails : ByteStep P) (way : Way) (m : Managing) (nodes : List ℕ) (settings : List Question) (p : P) (later : Managing) (started : Bool) (q : P) : Type 0 where
  pub back : ReadBack
  pub booted : P
  pub boots : ReadsBack reads writes asks way.reach m nodes settings p back.exchanges.items back.booted back.ready back.started later booted
  pub tells : started ≡ back.started
  pub failed : WatchFails reads writes asks fails (awaited_if back.started way.awaited) booted q
      ⊎ ((heartbeats : Heartbeats) × (watched : P) × IsWatched reads writes asks (awaited_if back.started way.awaited) way.limit booted heartbeats watched × CloseFails reads writes fails watched q)

-- a boot over an open adapter gave out, and it is said whether the nodes were started: they were not, unless their start itself broke off; or they were, or
-- not, as its end says
abbrev pub ClosingFails : {P : Type 0} → ByteStep P → ByteStep P → ClockStep P → ByteStep P → Way → Managing → List ℕ → List Question → P → Managing → Bool → P → Type 0
ClosingFails reads writes asks fails way m nodes settings p later started q =
    ((started ≡ false) × ReadBackFails reads writes asks fails way.reach m nodes settings p later q) ⊎ EndFails reads writes asks fails way m nodes settings p later started q

-- what holds where the port failed in a boot
abbrev pub if_unclosed : Closing → (Bool → Type 0) → Type 0
if_unclosed (closings.Closed back heartbeats) claim = Unit {0}
if_unclosed (closings.Failed started) claim = claim started

-- what was found keeps a session from sending
abbrev pub is_kept_off : Found → Bool
is_kept_off found.Nobody = false
is_kept_off found.Silence = false
is_kept_off (found.Running runner) = true
is_kept_off (found.Garbled lines) = true
is_kept_off (found.Erroneous flags) = true
is_kept_off (found.Refused command) = true
is_kept_off found.Failed = false

-- the devices are known, and then it gave out that some take the values that they left the factory with; or the closing of the adapter where one does not; or
-- their reset
abbrev pub RestoringFails : {P : Type 0} → ByteStep P → ByteStep P → ClockStep P → ByteStep P → Option ℕ → List Question → P → P → Type 0
RestoringFails {P} reads writes asks fails only restores p q =
    AskingFails reads writes asks fails restores p q
    ⊎ (((all : List Exchange) × (told : P) × AskedAll reads writes asks restores p all told × (has_untaken all ≡ true) × CloseFails reads writes fails told q)
    ⊎ ((all : List Exchange) × (told : P) × AskedAll reads writes asks restores p all told × (has_untaken all ≡ false) × BrokeOff reads writes asks fails told (Sent (node_reset_of only) ∷ []) q))

-- the devices are known and restored, and then it gave out which COB-IDs they have
abbrev pub TellingFails : {P : Type 0} → ByteStep P → ByteStep P → ClockStep P → ByteStep P → Way → List ℕ → List Question → List Question → P → P → Type 0
TellingFails {P} reads writes asks fails way nodes restores offs p q =
    (restored : P) × AreRestored reads writes asks way.reach.only restores p restored × TellFails reads writes asks fails way.reach.only nodes way.boot_limit offs restored q

-- what the devices are asked first gave out: who they are; or the closing of the adapter where one is another one; or what they take of the factory's values;
-- or which COB-IDs they have
abbrev pub AskFirstFails : {P : Type 0} → ByteStep P → ByteStep P → ClockStep P → ByteStep P → Way → List ℕ → List Question → List Question → List Question → P → P → Type 0
AskFirstFails {P} reads writes asks fails way nodes questions restores offs p q =
    AskingFails reads writes asks fails questions p q
    ⊎ (((all : List Exchange) × (known : P) × AskedAll reads writes asks questions p all known × (has_other all ≡ true) × CloseFails reads writes fails known q)
    ⊎ ((known : P) × AreRight reads writes asks questions p known × (RestoringFails reads writes asks fails way.reach.only restores known q ⊎ TellingFails reads writes asks fails way nodes restores offs known q)))

-- the devices are known, and there was no memory for what they take, or for which COB-IDs they have
abbrev pub RestoringStops : {P : Type 0} → ByteStep P → ByteStep P → ClockStep P → Way → List ℕ → List Question → List Question → P → P → Type 0
RestoringStops {P} reads writes asks way nodes restores offs p q =
    AskedSome reads writes asks restores p q
    ⊎ ((restored : P) × AreRestored reads writes asks way.reach.only restores p restored × ToldSome reads writes asks way.reach.only nodes way.boot_limit offs restored q)

-- and so much of it was done where there was no memory for more
abbrev pub AskFirstStops : {P : Type 0} → ByteStep P → ByteStep P → ClockStep P → Way → List ℕ → List Question → List Question → List Question → P → P → Type 0
AskFirstStops {P} reads writes asks way nodes questions restores offs p q =
    AskedSome reads writes asks questions p q
    ⊎ ((known : P) × AreRight reads writes asks questions p known × RestoringStops reads writes asks way nodes restores offs known q)

-- a session gave out before the boot: the approach; or the closing of the adapter, by what was found; or what the devices are asked first. No start
-- was written, nor a part of it.
abbrev pub SessionFails : {P : Type 0} → ByteStep P → ByteStep P → ClockStep P → ByteStep P → Way → List ℕ → List Question → List Question → List Question → P → P → Type 0
SessionFails {P} reads writes asks fails way nodes questions restores offs p q =
    ApproachFails reads writes asks fails way.rate way.senders way.reach.only way.take_over p q
    ⊎ (((f : Found) × (heard : P) × (is_kept_off f ≡ true) × IsApproached reads writes asks way p f heard × CloseFails reads writes fails heard q)
    ⊎ ((free : P) × IsFree reads writes asks way p free × AskFirstFails reads writes asks fails way nodes questions restores offs free q))

-- and so much of it was done where there was no memory for more
abbrev pub SessionStops : {P : Type 0} → ByteStep P → ByteStep P → ClockStep P → Way → List ℕ → List Question → List Question → List Question → P → P → Type 0
SessionStops {P} reads writes asks way nodes questions restores offs p q = (free : P) × IsFree reads writes asks way p free × AskFirstStops reads writes asks way nodes questions restores offs free q

-- what holds where the port failed before the boot
abbrev pub if_failed : Session → Type 0 → Type 0
if_failed (sessions.Told told) claim = Unit {0}
if_failed (sessions.Running runner) claim = Unit {0}
if_failed (sessions.Garbled lines) claim = Unit {0}
if_failed (sessions.Erroneous flags) claim = Unit {0}
if_failed (sessions.Unopened command) claim = Unit {0}
if_failed (sessions.Others all) claim = Unit {0}
if_failed (sessions.Unrestored all) claim = Unit {0}
if_failed sessions.Failed claim = claim
