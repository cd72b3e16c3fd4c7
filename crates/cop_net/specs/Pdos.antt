-- The PDOs of a network: what each of them sends, and who takes it.
use Rattle.std.specs.Prelude.{ℕ, ◌≡◌, ◌≤◌, ◌<◌, ◌+◌, ◌*◌, Bool, true, false, not, ◌&&◌, ◌||◌, ◌==◌, nat_le, if◌then◌else◌, List, [], ◌∷◌, ◌++◌, length, pos, negsuc, get_or, Option, Some, None, IsSome, option_and_then, ℤ, Result, Ok, Err}
use Rattle.cop_dict.specs.declared.mapping.Direction.{Direction}
use Rattle.cop_dict.specs.declared.mapping.Direction.TheVariants as directions
use Rattle.cop_dict.specs.declared.mapping.MappingFault.{MappingFault}
use Rattle.cop_dict.specs.declared.mapping.Mapped.{Mapped}
use Rattle.cop_dict.specs.Find as dictionary
use Rattle.cop_dict.specs.Find.{entry_at}
use Rattle.cop_dict.specs.Mapping.{total_bits}
use Rattle.cop_pdo.specs.Payload.{Layout, communication_of, payload_of, is_same_layout}
use Rattle.cop_pdo.specs.Bits.{bytes_for}
use Rattle.cop_rows.specs.declared.pdo_table.Consumer.{Consumer}
use Rattle.cop_rows.specs.declared.pdo_table.PdoRow.{PdoRow}
use Rattle.cop_rows.specs.declared.node_table.FrameRow.{FrameRow}
use Rattle.cop_rta.specs.Entries.{Entry}
use Rattle.cop_table.specs.Reading.{◌>>=◌}
use Rattle.cop_net.specs.declared.faults.Refusal.{Refusal}
use Rattle.cop_net.specs.declared.faults.Rule.{Rule}
use Rattle.cop_net.specs.declared.faults.Rule.TheVariants as rules
use Rattle.cop_net.specs.declared.devices.Device.{Device}
use Rattle.cop_net.specs.declared.faults.DevicePdo.{DevicePdo}
use Rattle.cop_net.specs.declared.faults.ReceiveFault.TheVariants as receiving
use Rattle.cop_net.specs.declared.faults.SyncFault.{SyncFault}
use Rattle.cop_net.specs.declared.faults.SyncFault.TheVariants as faults
use Rattle.cop_net.specs.declared.pdos.Sent.{Sent}
use Rattle.cop_net.specs.declared.uses.Used.{Used}
use Rattle.cop_net.specs.Faults.{at_pdo}
use Rattle.cop_net.specs.Steps.{folded}
use Rattle.cop_net.specs.Fixed.{ticks}
use Rattle.cop_net.specs.Uses.{is_used}
use Rattle.cop_net.specs.declared.signals.Signals.{Signals}
use Rattle.cop_net.specs.Signals.{ranges_of}
use Rattle.cop_net.specs.Settings.{is_usable, whole_of}

-- the PDO of a row, and that of a consumer
abbrev pub tpdo_of : PdoRow → DevicePdo
tpdo_of row = record { direction = directions.Transmit; node = row.node; number = row.tpdo }

abbrev pub rpdo_of : Consumer → DevicePdo
rpdo_of consumer = record { direction = directions.Receive; node = consumer.node; number = consumer.rpdo }

-- the mapping of a TPDO, and that of a consumer's RPDO, breaks a rule
abbrev pub unsent : MappingFault → Rule
unsent fault = rules.Transmit (Some fault)

abbrev pub unread : Consumer → MappingFault → Rule
unread consumer fault = rules.Receive consumer (receiving.Mapping fault)

-- the payload of a PDO; a payload that is refused is refused by the rule of its direction
abbrev pub laid_out : (MappingFault → Rule) → ℕ → Direction → Result (List Mapped) MappingFault → Result Layout Refusal
laid_out rule place direction (Ok entries) = Ok (record { direction = direction; entries = entries })
laid_out rule place direction (Err fault) = at_pdo (rule fault) place

-- a PDO that the tables use keeps this rule
abbrev pub unless : {A : Type 0} → Rule → ℕ → Bool → A → Result A Refusal
unless rule place true x = Ok x
unless rule place false x = at_pdo rule place

-- the number that a reading gives, or the rule where it gives none
abbrev pub or_rule : Rule → ℕ → Option ℕ → Result ℕ Refusal
or_rule rule place None = at_pdo rule place
or_rule rule place (Some n) = Ok n

-- What transmission types say (CiA 301, "Transmission type"): sent by every n-th SYNC, or by events, which is 0. Type 0, which
-- waits for an event and then for SYNC, those of remote frames and the reserved ones are not taken.
abbrev pub every_of : ℤ → Option ℕ
every_of (pos n) = if nat_le 1 n && nat_le n 240 then Some n else if (n == 254) || (n == 255) then Some 0 else None
every_of (negsuc n) = None

-- after how many SYNCs the TPDO of a communication record is sent
abbrev pub every_at : List dictionary.Entry → ℕ → Option ℕ
every_at dict index = option_and_then every_of (option_and_then whole_of (entry_at dict index 2))

abbrev pub sync_fault : Option FrameRow → PdoRow → ℕ → Option SyncFault
sync_fault None row every = Some faults.NoSync
sync_fault (Some sync) row every =
    if not (nat_le (every * sync.period) 60000000) then Some (faults.TooRare every)
    else if not (nat_le (sync.jitter + row.jitter) 40000000) then Some faults.TooLate
    else None

-- why a row and SYNC's do not go with a TPDO that is sent by so many SYNCs, or by events: times are in microseconds
unfoldable pub pace_fault : Option FrameRow → PdoRow → ℕ → Option SyncFault
pace_fault sync row every =
    if every == 0 then (if row.period == 0 then Some faults.NoPeriod else None)
    else if row.period == 0 then sync_fault sync row every
    else Some faults.OwnPeriod

abbrev pub unless_fault : {A : Type 0} → ℕ → Option SyncFault → A → Result A Refusal
unless_fault place None x = Ok x
unless_fault place (Some fault) x = at_pdo (rules.Synchrony fault) place

abbrev pub period_by : Option FrameRow → ℕ → ℕ → ℕ
period_by None own every = own
period_by (Some sync) own every = every * sync.period

-- the period of a TPDO in microseconds: its row's, or so many of SYNC's
unfoldable pub period_of : Option FrameRow → PdoRow → ℕ → ℕ
period_of sync row every = if every == 0 then row.period else period_by sync row.period every

-- the times of a SYNC that is sent
pub record IsSync (row : FrameRow) : Type 0 where
  pub least : 100 ≤ row.period
  pub most : row.period ≤ 60000000
  pub jitter : row.jitter ≤ 60000000

-- the TPDO of a device
abbrev pub transmitted : Signals → ℕ → PdoRow → List dictionary.Entry → Result Sent Refusal
transmitted signals place row dict = do
  layout ← laid_out unsent place directions.Transmit (payload_of dict directions.Transmit row.tpdo)
  layout ← unless (rules.CobId (tpdo_of row)) place (is_usable dict (communication_of directions.Transmit row.tpdo) (ranges_of signals)) layout
  every ← or_rule rules.Transmission place (every_at dict (communication_of directions.Transmit row.tpdo))
  unless_fault place (pace_fault signals.sync row every) (record { mapping = layout; every = every })

abbrev pub transmitted_by : Signals → ℕ → PdoRow → Option Device → Result Sent Refusal
transmitted_by signals place row None = at_pdo (rules.Transmit None) place
transmitted_by signals place row (Some device) = transmitted signals place row device.dictionary

-- the RPDO of a consumer takes what is sent: nobody else has it, and its layout is the same
abbrev pub received : Signals → ℕ → Consumer → Bool → Layout → List dictionary.Entry → Result Layout Refusal
received signals place consumer is_taken sent dict = do
  layout ← laid_out (unread consumer) place directions.Receive (payload_of dict directions.Receive consumer.rpdo)
  layout ← unless (rules.Receive consumer receiving.Taken) place (not is_taken) layout
  layout ← unless (rules.Receive consumer receiving.OtherLayout) place (is_same_layout sent layout) layout
  unless (rules.CobId (rpdo_of consumer)) place (is_usable dict (communication_of directions.Receive consumer.rpdo) (ranges_of signals)) layout

abbrev pub received_by : Signals → ℕ → Consumer → Bool → Layout → Option Device → Result Layout Refusal
received_by signals place consumer is_taken sent None = at_pdo (rules.Receive consumer receiving.NoDevice) place
received_by signals place consumer is_taken sent (Some device) = received signals place consumer is_taken sent device.dictionary

-- the records of a PDO
abbrev pub sent_by : PdoRow → Used
sent_by row = record { node = row.node; index = communication_of directions.Transmit row.tpdo }

abbrev pub taken_by : Consumer → Used
taken_by consumer = record { node = consumer.node; index = communication_of directions.Receive consumer.rpdo }

-- one consumer more
abbrev pub consumer_added : List (Option Device) → Signals → ℕ → Layout → List Used → Consumer → Result (List Used) Refusal
consumer_added devices signals place sent used consumer = do
  _ ← received_by signals place consumer (is_used used consumer.node (communication_of directions.Receive consumer.rpdo)) sent (get_or devices consumer.node None)
  Ok (used ++ taken_by consumer ∷ [])

-- the streams of the PDOs, and the records that they use
pub record Traffic : Type 0 where
  pub streams : List Entry
  pub used : List Used

-- the stream of a PDO that has so many before it, with its provisional identifier
abbrev pub pdo_stream : Signals → ℕ → Sent → PdoRow → Entry
pdo_stream signals before sent row = record {
  id = 0x181 + before;
  bytes = bytes_for (total_bits sent.mapping.entries);
  period = ticks (period_of signals.sync row sent.every);
  jitter = ticks row.jitter;
  deadline = Some (ticks row.deadline);
  every = sent.every;
}

-- the streams of PDOs so far: their provisional identifiers are 181h, 182h, .. and they have deadlines
abbrev pub IsPdoAt : ℕ → Entry → Type 0
IsPdoAt k e = (e.id ≡ 0x181 + k) × IsSome e.deadline

abbrev pub ArePdos : List Entry → Type 0
ArePdos es = (k : ℕ) (d : Entry) → k < length es → IsPdoAt k (get_or es k d)

-- a stream that is sent by SYNC has as many times SYNC's period
abbrev pub IsPaced : Option FrameRow → Entry → Type 0
IsPaced sync e = 1 ≤ e.every → (row : FrameRow) × (sync ≡ Some row) × (e.period ≡ e.every * ticks row.period)

-- one PDO more; its record has the number of the PDOs with it
abbrev pub pdo_added : List (Option Device) → Signals → Traffic → PdoRow → Result Traffic Refusal
pdo_added devices signals found row = do
  sent ← transmitted_by signals (length found.streams + 1) row (get_or devices row.node None)
  used ← folded (consumer_added devices signals (length found.streams + 1) sent.mapping) (found.used ++ sent_by row ∷ []) row.consumers
  Ok (record { streams = found.streams ++ pdo_stream signals (length found.streams) sent row ∷ []; used = used })

abbrev pub no_traffic : Traffic
no_traffic = record { streams = []; used = [] }

-- the PDOs of the rows, or the first refusal by record
unfoldable pub pdos_of : List (Option Device) → Signals → List PdoRow → Result Traffic Refusal
pdos_of devices signals rows = folded (pdo_added devices signals) no_traffic rows
