-- The frames of fixed identifiers that tables start with: times are in microseconds.
use Rattle.std.specs.Prelude.{ℕ, ◌*◌, Bool, false, not, ◌&&◌, List, [], ◌∷◌, ◌++◌, ◌==◌, if◌then◌else◌, Option, Some, None}
use Rattle.std.specs.List.{list_any}
use Rattle.std.specs.Option.{option_map_or}
use Rattle.cop_dict.specs.Types.{is_writable}
use Rattle.cop_dict.specs.Find.{Entry, entry_at}
use Rattle.cop_dict.specs.Pdo.{exists_by}
use Rattle.cop_net.specs.Settings.{is_unsigned16}
use Rattle.cop_warn.specs.Warnings.{natural_at, word_at}
use Rattle.cop_rows.specs.Fields.{is_within}
use Rattle.cop_rows.specs.declared.node_table.FrameKind.TheVariants.{Nmt, Sync, Emcy, SdoResponse, SdoRequest, Heartbeat}
use Rattle.cop_written.specs.declared.nodes.Frame.{Frame}
use Rattle.cop_start.specs.declared.senders.Sender.{Sender}
use Rattle.cop_start.specs.Start.{Device}
use Rattle.cop_start.specs.Senders.{senders_of}

-- the time of the heartbeat can be written
abbrev pub may_beat : List Entry → Bool
may_beat dict = option_map_or (λ entry. is_unsigned16 entry.description.data_type && is_writable entry.description.access) (entry_at dict 0x1017 0) false

abbrev pub second_if : Bool → Option ℕ
second_if may = if may then Some 1000 else None

abbrev pub heartbeat_by : Bool → Option ℕ → Option ℕ
heartbeat_by may None = second_if may
heartbeat_by may (Some millis) = if is_within 1 60000 millis then Some millis else second_if may

-- the time of a device's heartbeat in milliseconds: its own, or a second where it can be written
abbrev pub heartbeat_of : List Entry → Option ℕ
heartbeat_of dict = heartbeat_by (may_beat dict) (natural_at dict 0x1017 0)

abbrev pub period_or : Option ℕ → ℕ → ℕ
period_or None other = other
period_or (Some period) other = if is_within 100 60000000 period then period else other

-- the period of SYNC: the first that a device has, or 10 ms
abbrev pub sync_period_of : List Device → ℕ
sync_period_of [] = 10000
sync_period_of (d ∷ devices) = period_or (natural_at d.dict 0x1006 0) (sync_period_of devices)

-- some TPDO is sent by SYNC
abbrev pub is_by_sync : List Sender → Bool
is_by_sync senders = list_any (λ s. not (s.every == 0)) senders

-- EMCY is sent where bit 31 of its COB-ID is 0
abbrev pub emcy_frames : ℕ → Option ℕ → List Frame
emcy_frames node None = []
emcy_frames node (Some cob_id) = if exists_by cob_id then record { kind = Emcy; node = node; period = 100000 } ∷ [] else []

abbrev pub heartbeat_frames : ℕ → Option ℕ → List Frame
heartbeat_frames node None = []
heartbeat_frames node (Some millis) = record { kind = Heartbeat; node = node; period = millis * 1000 } ∷ []

-- the rows of a device: EMCY, SDO both ways, and its heartbeat
abbrev pub device_frames : ℕ → List Entry → List Frame
device_frames node dict =
    emcy_frames node (word_at dict 0x1014 0)
    ++ (record { kind = SdoResponse; node = node; period = 100000 } ∷ record { kind = SdoRequest; node = node; period = 100000 } ∷ heartbeat_frames node (heartbeat_of dict))

-- those of all devices, each for its node
abbrev pub frames_behind : List Device → List Frame
frames_behind [] = []
frames_behind (d ∷ devices) = device_frames d.node d.dict ++ frames_behind devices

-- the rows of nobody's frames: NMT, and SYNC where some TPDO is sent by it
abbrev pub first_frames : List Device → List Sender → List Frame
first_frames devices senders =
    record { kind = Nmt; node = 0; period = 1000000 }
    ∷ (if is_by_sync senders then record { kind = Sync; node = 0; period = sync_period_of devices } ∷ [] else [])

-- all rows of frames
abbrev pub frames_of : List Device → List Frame
frames_of devices = first_frames devices (senders_of devices) ++ frames_behind devices
