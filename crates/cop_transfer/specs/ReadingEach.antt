-- An object of several nodes is read in one session over a port, from the opening of the adapter to its closing.
use Rattle.std.specs.Prelude.{◌≡◌, ◌≤◌, ◌⊎◌, ℕ, List, [], ◌∷◌, ◌++◌, Ok}
use Rattle.cop_frame.specs.declared.rates.Rate.{Rate}
use Rattle.cop_sdo.specs.declared.address.Address.{Address}
use Rattle.cop_sdo.specs.Client.{Calling}
use Rattle.cop_sdo.specs.Calls.{Started, uploading}
use Rattle.cop_live.specs.Log.{ByteStep, ClockStep}
use Rattle.cop_live.specs.Session.{Closed, CloseFails}
use Rattle.cop_survey.specs.Asking.{Pauses, PauseFails}
use Rattle.cop_survey.specs.Reaching.{IsOpened, IsLeft, ReachFails}
use Rattle.cop_transfer.specs.declared.carrying.End.{End}
use Rattle.cop_transfer.specs.declared.reading_each.NodeValue.{NodeValue}
use Rattle.cop_transfer.specs.declared.reading_each.EachRead.{EachRead}
use Rattle.cop_transfer.specs.declared.reading_each.EachRead.TheVariants.{Ended, Left, Failed}
use Rattle.cop_transfer.specs.Carrying.{IsCarried, CarryFails}
use Rattle.cop_transfer.specs.Transferring.{read_limit, fresh, asking_of}

-- the number of a node (CiA 301, "Node-ID")
abbrev pub IsNode : ℕ → Type 0
IsNode node = (1 ≤ node) × (node ≤ 127)

-- over an open adapter, and behind a pause, the transfer of a client of a node that had begun nothing is carried to its end: it reads an object
pub record AsksFor {P : Type 0} (reads writes : ByteStep P) (asks : ClockStep P) (ticks : ℕ) (at : Address) (node : ℕ) (p : P) (end : End) (later : Calling) (q : P) : Type 0 where
  pub paused : P
  pub started : Started
  pub pauses : Pauses reads writes asks ticks p paused
  pub begins : uploading (fresh node) at ≡ Ok started
  pub carries : IsCarried reads writes asks read_limit (asking_of started) paused end later q

-- the object of a node was asked for, and this is told: the node, how that ended, and the bytes that its client holds
pub record ReadsOne {P : Type 0} (reads writes : ByteStep P) (asks : ClockStep P) (ticks : ℕ) (at : Address) (node : ℕ) (p : P) (value : NodeValue) (q : P) : Type 0 where
  pub later : Calling
  pub asked : AsksFor reads writes asks ticks at node p value.end later q
  pub takes : value.bytes.items ≡ later.asking.bytes
  pub of_it : value.node ≡ node

-- nodes are read one after the other, each once, and nothing else is done at the port
abbrev pub ReadsEach : {P : Type 0} → ByteStep P → ByteStep P → ClockStep P → ℕ → Address → List ℕ → P → List NodeValue → P → Type 0
ReadsEach reads writes asks ticks at [] p [] q = p ≡ q
ReadsEach reads writes asks ticks at [] p (value ∷ values) q = ⊥
ReadsEach reads writes asks ticks at (node ∷ nodes) p [] q = ⊥
ReadsEach {P} reads writes asks ticks at (node ∷ nodes) p (value ∷ values) q = (m : P) × ReadsOne reads writes asks ticks at node p value m × ReadsEach reads writes asks ticks at nodes m values q

-- the read of a node gave out: the pause before it, or its transfer
abbrev pub OneFails : {P : Type 0} → ByteStep P → ByteStep P → ClockStep P → ByteStep P → ℕ → Address → ℕ → P → P → Type 0
OneFails {P} reads writes asks fails ticks at node p q =
    PauseFails reads writes asks fails p q
    ⊎ ((paused : P) × (started : Started) × Pauses reads writes asks ticks p paused × (uploading (fresh node) at ≡ Ok started) × CarryFails reads writes asks fails read_limit (asking_of started) paused q)

-- a node was asked for the object, and there was no memory for what it told
abbrev pub OneStops : {P : Type 0} → ByteStep P → ByteStep P → ClockStep P → ℕ → Address → ℕ → P → P → Type 0
OneStops {P} reads writes asks ticks at node p q = (end : End) × (later : Calling) × AsksFor reads writes asks ticks at node p end later q

-- the first ones of these nodes were read, and the next one gave out
abbrev pub OneOfEachFails : {P : Type 0} → ByteStep P → ByteStep P → ClockStep P → ByteStep P → ℕ → Address → List ℕ → P → P → Type 0
OneOfEachFails reads writes asks fails ticks at [] p q = ⊥
OneOfEachFails {P} reads writes asks fails ticks at (node ∷ nodes) p q =
    OneFails reads writes asks fails ticks at node p q ⊎ ((value : NodeValue) × (m : P) × ReadsOne reads writes asks ticks at node p value m × OneOfEachFails reads writes asks fails ticks at nodes m q)

-- the first ones of these nodes were read, the next one was asked, and there was no memory for what it told
abbrev pub OneOfEachStops : {P : Type 0} → ByteStep P → ByteStep P → ClockStep P → ℕ → Address → List ℕ → P → P → Type 0
OneOfEachStops reads writes asks ticks at [] p q = ⊥
OneOfEachStops {P} reads writes asks ticks at (node ∷ nodes) p q =
    OneStops reads writes asks ticks at node p q ⊎ ((value : NodeValue) × (m : P) × ReadsOne reads writes asks ticks at node p value m × OneOfEachStops reads writes asks ticks at nodes m q)

-- what these nodes told stands behind what others had told
pub record AddsEach {P : Type 0} (reads writes : ByteStep P) (asks : ClockStep P) (ticks : ℕ) (at : Address) (nodes : List ℕ) (before : List NodeValue) (p : P) (after : List NodeValue) (q : P) : Type 0 where
  pub values : List NodeValue
  pub behind : after ≡ before ++ values
  pub each : ReadsEach reads writes asks ticks at nodes p values q

-- the object of these nodes was read over an open adapter, which was closed then
pub record ReadAndClosed {P : Type 0} (reads writes : ByteStep P) (asks : ClockStep P) (ticks : ℕ) (at : Address) (nodes : List ℕ) (p : P) (values : List NodeValue) (q : P) : Type 0 where
  pub known : P
  pub each : ReadsEach reads writes asks ticks at nodes p values known
  pub closes : Closed reads writes known q

-- the bus was reached once, and the object of these nodes was read: nothing else was sent
pub record HasReadEach {P : Type 0} (reads writes : ByteStep P) (asks : ClockStep P) (rate : Rate) (ticks : ℕ) (at : Address) (nodes : List ℕ) (p : P) (values : List NodeValue) (q : P) : Type 0 where
  pub reached : P
  pub opens : IsOpened reads writes asks rate p reached
  pub reads_each : ReadAndClosed reads writes asks ticks at nodes reached values q

-- what came of it
abbrev pub IsEachRead : {P : Type 0} → ByteStep P → ByteStep P → ClockStep P → Rate → ℕ → Address → List ℕ → P → P → EachRead → Type 0
IsEachRead reads writes asks rate ticks at nodes p q (Ended values) = HasReadEach reads writes asks rate ticks at nodes p values.items q
IsEachRead reads writes asks rate ticks at nodes p q (Left reason) = IsLeft reads writes asks rate reason p q
IsEachRead reads writes asks rate ticks at nodes p q Failed = Unit {0}

-- what came of the nodes over an open adapter
abbrev pub ReadsAll : {P : Type 0} → ByteStep P → ByteStep P → ClockStep P → ℕ → Address → List ℕ → P → P → EachRead → Type 0
ReadsAll reads writes asks ticks at nodes p q (Ended values) = ReadAndClosed reads writes asks ticks at nodes p values.items q
ReadsAll reads writes asks ticks at nodes p q (Left reason) = ⊥
ReadsAll reads writes asks ticks at nodes p q Failed = Unit {0}

-- what holds where the port failed
abbrev pub if_each_failed : EachRead → Type 0 → Type 0
if_each_failed (Ended values) claim = Unit {0}
if_each_failed (Left reason) claim = Unit {0}
if_each_failed Failed claim = claim

-- a node gave out over an open adapter; or all were read, and the adapter was not closed
abbrev pub ReadOrCloseFails : {P : Type 0} → ByteStep P → ByteStep P → ClockStep P → ByteStep P → ℕ → Address → List ℕ → P → P → Type 0
ReadOrCloseFails {P} reads writes asks fails ticks at nodes p q =
    OneOfEachFails reads writes asks fails ticks at nodes p q
    ⊎ ((values : List NodeValue) × (known : P) × ReadsEach reads writes asks ticks at nodes p values known × CloseFails reads writes fails known q)

-- the port failed: the bus was not reached; or it was, and that gave out
abbrev pub EachReadFails : {P : Type 0} → ByteStep P → ByteStep P → ClockStep P → ByteStep P → Rate → ℕ → Address → List ℕ → P → P → Type 0
EachReadFails {P} reads writes asks fails rate ticks at nodes p q =
    ReachFails reads writes asks fails rate p q ⊎ ((reached : P) × IsOpened reads writes asks rate p reached × ReadOrCloseFails reads writes asks fails ticks at nodes reached q)

-- there was no memory for what a node told
abbrev pub EachReadStops : {P : Type 0} → ByteStep P → ByteStep P → ClockStep P → Rate → ℕ → Address → List ℕ → P → P → Type 0
EachReadStops {P} reads writes asks rate ticks at nodes p q = (reached : P) × IsOpened reads writes asks rate p reached × OneOfEachStops reads writes asks ticks at nodes reached q
