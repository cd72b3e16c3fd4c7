-- The TPDOs of all devices that may have rows, and the RPDOs that exist.
use Rattle.std.specs.Prelude.{ℕ, zero, suc, ◌+◌, ◌%◌, ◌^◌, List, [], ◌∷◌, ◌++◌, if◌then◌else◌, Option, Some, None}
use Rattle.cop_dict.specs.Find.{Entry}
use Rattle.cop_dict.specs.Pdo.{cob_id_at, exists_by}
use Rattle.cop_start.specs.declared.offers.Offer.{Offer}
use Rattle.cop_start.specs.declared.offers.Offer.TheVariants.{Absent, Off, Unmapped, Untimed, Sends}
use Rattle.cop_start.specs.declared.senders.Sender.{Sender}
use Rattle.cop_start.specs.declared.receivers.Receiver.{Receiver}
use Rattle.cop_start.specs.Start.{Device}
use Rattle.cop_start.specs.Offers.{offer_of, pace_of, period_of}

-- what each number from 1 up to one gives, in their order
unfoldable pub each_to : {X : Type 0} → (ℕ → List X) → ℕ → List X
each_to f zero = []
each_to f (suc n) = each_to f n ++ f (n + 1)

-- a TPDO that may have a row, with the period of that row
abbrev pub sender_by : ℕ → List Entry → ℕ → Offer → List Sender
sender_by node dict tpdo Absent = []
sender_by node dict tpdo Off = []
sender_by node dict tpdo Unmapped = []
sender_by node dict tpdo Untimed = []
sender_by node dict tpdo (Sends id every) =
    record { node = node; tpdo = tpdo; id = id; every = every; pace = pace_of dict tpdo every; period = period_of dict tpdo every } ∷ []

abbrev pub sender_at : ℕ → List Entry → ℕ → List Sender
sender_at node dict tpdo = sender_by node dict tpdo (offer_of dict tpdo)

-- those of a device, whose TPDOs are 1 to 512
abbrev pub device_senders : ℕ → List Entry → List Sender
device_senders node dict = each_to (sender_at node dict) 512

-- those of all devices, each of its node
abbrev pub senders_of : List Device → List Sender
senders_of [] = []
senders_of (d ∷ devices) = device_senders d.node d.dict ++ senders_of devices

-- an RPDO that exists, with bits 0 to 29 of its COB-ID
abbrev pub receiver_by : ℕ → ℕ → Option ℕ → List Receiver
receiver_by node rpdo None = []
receiver_by node rpdo (Some cob_id) = if exists_by cob_id then record { node = node; rpdo = rpdo; id = cob_id % 2 ^ 30 } ∷ [] else []

abbrev pub receiver_at : ℕ → List Entry → ℕ → List Receiver
receiver_at node dict rpdo = receiver_by node rpdo (cob_id_at dict (0x13FF + rpdo))

abbrev pub device_receivers : ℕ → List Entry → List Receiver
device_receivers node dict = each_to (receiver_at node dict) 512

abbrev pub receivers_of : List Device → List Receiver
receivers_of [] = []
receivers_of (d ∷ devices) = device_receivers d.node d.dict ++ receivers_of devices
