-- A transfer over a port, from the opening of the adapter to its closing.
use Rattle.std.specs.Prelude.{◌≡◌, ◌⊎◌, ℕ, List, Ok}
use Rattle.cop_frame.specs.declared.rates.Rate.{Rate}
use Rattle.cop_sdo.specs.declared.address.Address.{Address}
use Rattle.cop_sdo.specs.declared.fault.ClientFault.{ClientFault}
use Rattle.cop_sdo.specs.Client.{Calling, resting}
use Rattle.cop_sdo.specs.Calls.{Started, IsFault, downloading, uploading}
use Rattle.cop_live.specs.Log.{ByteStep, ClockStep}
use Rattle.cop_live.specs.Session.{Closed, CloseFails}
use Rattle.cop_survey.specs.Reaching.{IsOpened, IsLeft, ReachFails}
use Rattle.cop_transfer.specs.declared.carrying.End.{End}
use Rattle.cop_transfer.specs.declared.transferring.Transferred.{Transferred}
use Rattle.cop_transfer.specs.declared.transferring.Transferred.TheVariants.{Ended, Left, Failed}
use Rattle.cop_transfer.specs.declared.transferring.ReadValue.{ReadValue}
use Rattle.cop_transfer.specs.Carrying.{Asking, IsCarried, CarryFails}

-- an answer is awaited for so many ticks: 1 s by a read, and 10 s by a write, as devices that store a value need seconds
abbrev pub read_limit : ℕ
read_limit = 4000000

abbrev pub write_limit : ℕ
write_limit = 40000000

-- a client of a node that has begun nothing
abbrev pub fresh : ℕ → Calling
fresh node = record { node = node; asking = resting }

-- a client that has begun, and its first request
abbrev pub asking_of : Started → Asking
asking_of started = record { client = started.client; request = started.frame }

-- a transfer was carried to its end over an open adapter, which was closed then
pub record CarriedAndClosed {P : Type 0} (reads writes : ByteStep P) (asks : ClockStep P) (limit : ℕ) (first : Asking) (p : P) (end : End) (later : Calling) (q : P) : Type 0 where
  pub carried : P
  pub carries : IsCarried reads writes asks limit first p end later carried
  pub closes : Closed reads writes carried q

-- the bus was reached, and a transfer carried to its end: nothing else was sent
pub record HasEnded {P : Type 0} (reads writes : ByteStep P) (asks : ClockStep P) (rate : Rate) (limit : ℕ) (first : Asking) (p : P) (end : End) (later : Calling) (q : P) : Type 0 where
  pub reached : P
  pub opens : IsOpened reads writes asks rate p reached
  pub ends : CarriedAndClosed reads writes asks limit first reached end later q

-- what came of a transfer
abbrev pub IsTransfer : {P : Type 0} → ByteStep P → ByteStep P → ClockStep P → Rate → ℕ → Asking → P → Calling → P → Transferred → Type 0
IsTransfer reads writes asks rate limit first p later q (Ended end) = HasEnded reads writes asks rate limit first p end later q
IsTransfer reads writes asks rate limit first p later q (Left reason) = (later ≡ first.client) × IsLeft reads writes asks rate reason p q
IsTransfer reads writes asks rate limit first p later q Failed = Unit {0}

-- what holds where the port failed
abbrev pub if_failed : Transferred → Type 0 → Type 0
if_failed (Ended end) claim = Unit {0}
if_failed (Left reason) claim = Unit {0}
if_failed Failed claim = claim

-- a transfer over an open adapter gave out; or it ended, and the adapter was not closed
abbrev pub CarryOrCloseFails : {P : Type 0} → ByteStep P → ByteStep P → ClockStep P → ByteStep P → ℕ → Asking → P → P → Type 0
CarryOrCloseFails {P} reads writes asks fails limit first p q =
    CarryFails reads writes asks fails limit first p q
    ⊎ ((end : End) × (later : Calling) × (carried : P) × IsCarried reads writes asks limit first p end later carried × CloseFails reads writes fails carried q)

-- the bus was not reached; or it was, and that gave out
abbrev pub TransferFails : {P : Type 0} → ByteStep P → ByteStep P → ClockStep P → ByteStep P → Rate → ℕ → Asking → P → P → Type 0
TransferFails {P} reads writes asks fails rate limit first p q =
    ReachFails reads writes asks fails rate p q ⊎ ((reached : P) × IsOpened reads writes asks rate p reached × CarryOrCloseFails reads writes asks fails limit first reached q)

-- a value was read by a client of a node, and these are its bytes
pub record IsRead {P : Type 0} (reads writes : ByteStep P) (asks : ClockStep P) (rate : Rate) (node : ℕ) (at : Address) (p q : P) (value : ReadValue) : Type 0 where
  pub started : Started
  pub later : Calling
  pub begins : uploading (fresh node) at ≡ Ok started
  pub transfers : IsTransfer reads writes asks rate read_limit (asking_of started) p later q value.came
  pub takes : value.bytes.items ≡ later.asking.bytes

-- the port failed in a read
pub record ReadFails {P : Type 0} (reads writes : ByteStep P) (asks : ClockStep P) (fails : ByteStep P) (rate : Rate) (node : ℕ) (at : Address) (p q : P) : Type 0 where
  pub started : Started
  pub begins : uploading (fresh node) at ≡ Ok started
  pub fails_so : TransferFails reads writes asks fails rate read_limit (asking_of started) p q

-- there was no memory for the bytes that were read
pub record ReadStops {P : Type 0} (reads writes : ByteStep P) (asks : ClockStep P) (fails : ByteStep P) (rate : Rate) (node : ℕ) (at : Address) (p q : P) : Type 0 where
  pub came : Transferred
  pub started : Started
  pub later : Calling
  pub begins : uploading (fresh node) at ≡ Ok started
  pub transfers : IsTransfer reads writes asks rate read_limit (asking_of started) p later q came
  pub failed : if_failed came (TransferFails reads writes asks fails rate read_limit (asking_of started) p q)

-- a value was written by a client of a node
pub record IsWritten {P : Type 0} (reads writes : ByteStep P) (asks : ClockStep P) (rate : Rate) (node : ℕ) (at : Address) (bytes : List ℕ) (p q : P) (came : Transferred) : Type 0 where
  pub started : Started
  pub later : Calling
  pub begins : downloading (fresh node) at bytes ≡ Ok started
  pub transfers : IsTransfer reads writes asks rate write_limit (asking_of started) p later q came

-- the port failed in a write
pub record WriteFails {P : Type 0} (reads writes : ByteStep P) (asks : ClockStep P) (fails : ByteStep P) (rate : Rate) (node : ℕ) (at : Address) (bytes : List ℕ) (p q : P) : Type 0 where
  pub started : Started
  pub begins : downloading (fresh node) at bytes ≡ Ok started
  pub fails_so : TransferFails reads writes asks fails rate write_limit (asking_of started) p q

-- a write was not begun, and nothing was done at the port
abbrev pub IsUnbegun : {P : Type 0} → ℕ → Address → List ℕ → P → P → ClientFault → Type 0
IsUnbegun node at bytes p q fault = IsFault fault (downloading (fresh node) at bytes) × (q ≡ p)
