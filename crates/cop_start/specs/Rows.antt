-- The rows of a table of PDOs to start from: times are in microseconds.
use Rattle.std.specs.Prelude.{ℕ, ◌*◌, Bool, true, false, not, ◌&&◌, List, [], ◌∷◌, take, ◌==◌, if◌then◌else◌, Option, Some, None, Result, Ok, Err}
use Rattle.cop_dict.specs.declared.mapping.Mapped.{Mapped}
use Rattle.cop_dict.specs.declared.mapping.MappingFault.{MappingFault}
use Rattle.cop_dict.specs.declared.mapping.Direction.TheVariants.{Transmit, Receive}
use Rattle.cop_dict.specs.Find.{Entry}
use Rattle.cop_pdo.specs.Payload.{payload_of, is_same_layout}
use Rattle.cop_rows.specs.Fields.{is_within}
use Rattle.cop_rows.specs.declared.pdo_table.Consumer.{Consumer}
use Rattle.cop_start.specs.declared.offers.Offer.{Offer}
use Rattle.cop_start.specs.declared.offers.Offer.TheVariants.{Absent, Off, Unmapped, Untimed, Sends}
use Rattle.cop_start.specs.declared.senders.Sender.{Sender}
use Rattle.cop_start.specs.declared.receivers.Receiver.{Receiver}
use Rattle.cop_written.specs.declared.pdos.Row.{Row}
use Rattle.cop_start.specs.Start.{Device}
use Rattle.cop_start.specs.Offers.{at_most_a_minute}
use Rattle.cop_start.specs.Senders.{senders_of, receivers_of}
use Rattle.cop_start.specs.Frames.{sync_period_of}

-- the dictionary of a node
abbrev pub dict_at : List Device → ℕ → Option (List Entry)
dict_at [] node = None
dict_at (d ∷ devices) node = if d.node == node then Some d.dict else dict_at devices node

-- two payloads with the same layout
abbrev pub have_same_layout : Result (List Mapped) MappingFault → Result (List Mapped) MappingFault → Bool
have_same_layout (Err fault) taken = false
have_same_layout (Ok sent) (Err fault) = false
have_same_layout (Ok sent) (Ok taken) = is_same_layout (record { direction = Transmit; entries = sent }) (record { direction = Receive; entries = taken })

-- an RPDO has the layout of a TPDO
abbrev pub fits_in : ℕ → ℕ → List Entry → List Entry → Bool
fits_in tpdo rpdo sent taken = is_within 1 512 tpdo && is_within 1 512 rpdo && have_same_layout (payload_of sent Transmit tpdo) (payload_of taken Receive rpdo)

abbrev pub fit_in : ℕ → ℕ → Option (List Entry) → Option (List Entry) → Bool
fit_in tpdo rpdo None taken = false
fit_in tpdo rpdo (Some sent) None = false
fit_in tpdo rpdo (Some sent) (Some taken) = fits_in tpdo rpdo sent taken

-- an RPDO is to take what a TPDO sends: it is another device's, has its identifier, and its layout
abbrev pub takes : List Device → Sender → Receiver → Bool
takes devices s r = (r.id == s.id) && not (r.node == s.node) && fit_in s.tpdo r.rpdo (dict_at devices s.node) (dict_at devices r.node)

-- a TPDO is the first with its identifier
abbrev pub is_first : List Sender → Sender → Bool
is_first [] s = false
is_first (first ∷ senders) s = if first.id == s.id then (first.node == s.node) && (first.tpdo == s.tpdo) else is_first senders s

-- the RPDOs that are to take what a TPDO sends
abbrev pub consumers_by : List Device → Sender → List Receiver → List Consumer
consumers_by devices s [] = []
consumers_by devices s (r ∷ rs) =
    if takes devices s r then record { node = r.node; rpdo = r.rpdo } ∷ consumers_by devices s rs else consumers_by devices s rs

-- of TPDOs with one identifier the first alone has consumers
abbrev pub row_consumers : List Device → List Sender → List Receiver → Sender → List Consumer
row_consumers devices senders receivers s = if is_first senders s then consumers_by devices s receivers else []

-- the deadline is the period, or so many of SYNC's
abbrev pub deadline_of : ℕ → Sender → ℕ
deadline_of sync s = if s.every == 0 then s.period else at_most_a_minute (s.every * sync)

abbrev pub rows_from : List Device → List Sender → List Receiver → List Sender → List Row
rows_from devices senders receivers [] = []
rows_from devices senders receivers (s ∷ kept) =
    record { node = s.node; tpdo = s.tpdo; period = s.period; deadline = deadline_of (sync_period_of devices) s; consumers = row_consumers devices senders receivers s }
    ∷ rows_from devices senders receivers kept

-- the rows of the first 512 TPDOs that may have one
abbrev pub rows_of : List Device → List Row
rows_of devices = rows_from devices (senders_of devices) (receivers_of devices) (take 512 (senders_of devices))

-- a TPDO that is good for this may have a row
abbrev pub may_have_row : Offer → Bool
may_have_row Absent = false
may_have_row Off = false
may_have_row Unmapped = false
may_have_row Untimed = false
may_have_row (Sends id every) = true
