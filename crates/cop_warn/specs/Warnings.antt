-- What is worth a look before one relies on a plan.
use Rattle.std.specs.Prelude.{ℕ, ◌+◌, ◌*◌, ◌/◌, ◌%◌, Bool, false, not, ◌&&◌, ◌||◌, ◌==◌, nat_le, nat_lt, if◌then◌else◌, List, [], ◌∷◌, ◌++◌, get_or, Option, Some, None, option_and_then, option_map, find, int_lt, ℤ, pos, negsuc}
use Rattle.std.specs.List.{list_any}
use Rattle.std.specs.Option.{option_to_list, option_map_or}
use Rattle.cop_dict.specs.Find.{Entry, entry_at, integer_of, unsigned32_of}
use Rattle.cop_dict.specs.Mapping.{is_between}
use Rattle.cop_rows.specs.declared.node_table.DeviceRow.{DeviceRow}
use Rattle.cop_rows.specs.declared.node_table.FrameKind.{FrameKind}
use Rattle.cop_rows.specs.declared.node_table.FrameKind.TheVariants as kinds
use Rattle.cop_rows.specs.declared.node_table.FrameRow.{FrameRow}
use Rattle.cop_rows.specs.declared.pdo_table.Consumer.{Consumer}
use Rattle.cop_rows.specs.declared.pdo_table.PdoRow.{PdoRow}
use Rattle.cop_net.specs.Fixed.{rank_of}
use Rattle.cop_net.specs.Network.{Net}
use Rattle.cop_warn.specs.declared.warning.Warning.{Warning}
use Rattle.cop_warn.specs.declared.warning.Warning.TheVariants as warnings

-- the number of an integer of at most 32 bits that is not negative
abbrev pub natural_by : ℤ → Option ℕ
natural_by (pos n) = if nat_le n 4294967295 then Some n else None
natural_by (negsuc n) = None

abbrev pub natural_at : List Entry → ℕ → ℕ → Option ℕ
natural_at dict index sub = option_and_then natural_by (option_and_then integer_of (entry_at dict index sub))

-- the number of an UNSIGNED32
abbrev pub word_at : List Entry → ℕ → ℕ → Option ℕ
word_at dict index sub = option_and_then unsigned32_of (entry_at dict index sub)

-- ---- PDOs, by their records; times of rows are in microseconds

-- the deadline is not above the jitter
abbrev pub deadline_warning : ℕ → PdoRow → Option Warning
deadline_warning place row = if nat_le row.deadline row.jitter then Some (warnings.DeadlineWithinJitter place) else None

-- so many milliseconds are less than the period
abbrev pub timer_by : ℕ → ℕ → Option ℕ → Option Warning
timer_by place period None = None
timer_by place period (Some millis) = if not (millis == 0) && nat_lt (millis * 1000) period then Some (warnings.EventTimer place millis) else None

abbrev pub timer_warning : ℕ → PdoRow → List Entry → Option Warning
timer_warning place row dict = timer_by place row.period (natural_at dict (0x17FF + row.tpdo) 5)

-- so many units of 100 microseconds are more than the period
abbrev pub inhibit_by : ℕ → ℕ → Option ℕ → Option Warning
inhibit_by place period None = None
inhibit_by place period (Some units) = if not (period == 0) && nat_lt period (units * 100) then Some (warnings.InhibitTime place units) else None

abbrev pub inhibit_warning : ℕ → PdoRow → List Entry → Option Warning
inhibit_warning place row dict = inhibit_by place row.period (natural_at dict (0x17FF + row.tpdo) 3)

abbrev pub of_sender : ℕ → PdoRow → List Entry → List Warning
of_sender place row dict = option_to_list (timer_warning place row dict) ++ option_to_list (inhibit_warning place row dict)

abbrev pub of_sender_by : ℕ → PdoRow → Option (List Entry) → List Warning
of_sender_by place row None = []
of_sender_by place row (Some dict) = of_sender place row dict

abbrev pub of_row : ℕ → PdoRow → Option (List Entry) → List Warning
of_row place row dict = option_to_list (deadline_warning place row) ++ of_sender_by place row dict

-- ---- devices, by their nodes

-- a row is of a kind of frames of a node
abbrev pub is_row : ℕ → FrameKind → FrameRow → Bool
is_row node kind row = (row.node == node) && (rank_of row.kind == rank_of kind)

abbrev pub has_row : List FrameRow → ℕ → FrameKind → Bool
has_row frames node kind = list_any (is_row node kind) frames

-- a kind of frames has no row
abbrev pub no_row : List FrameRow → ℕ → FrameKind → Option Warning
no_row frames node kind = if has_row frames node kind then None else Some (warnings.NoRow node kind)

-- a COB-ID exists where its bit 31 is 0 (CiA 301, "EMCY COB-ID object")
abbrev pub emcy_by : List FrameRow → ℕ → Option ℕ → Option Warning
emcy_by frames node None = None
emcy_by frames node (Some cob_id) = if nat_lt cob_id 2147483648 then no_row frames node kinds.Emcy else None

abbrev pub emcy_warning : List FrameRow → ℕ → List Entry → Option Warning
emcy_warning frames node dict = emcy_by frames node (word_at dict 0x1014 0)

-- a parameter of the SDO server is described (CiA 301, "SDO server parameter"), and no row has its frames
abbrev pub server_by : List FrameRow → ℕ → FrameKind → Option ℕ → Option Warning
server_by frames node kind None = None
server_by frames node kind (Some cob_id) = no_row frames node kind

abbrev pub request_warning : List FrameRow → ℕ → List Entry → Option Warning
request_warning frames node dict = server_by frames node kinds.SdoRequest (word_at dict 0x1200 1)

abbrev pub response_warning : List FrameRow → ℕ → List Entry → Option Warning
response_warning frames node dict = server_by frames node kinds.SdoResponse (word_at dict 0x1200 2)

-- the producer's heartbeat time is not 0, and no row has it
abbrev pub heartbeat_by : List FrameRow → ℕ → Option ℕ → Option Warning
heartbeat_by frames node None = None
heartbeat_by frames node (Some millis) = if not (millis == 0) then no_row frames node kinds.Heartbeat else None

abbrev pub heartbeat_warning : List FrameRow → ℕ → List Entry → Option Warning
heartbeat_warning frames node dict = heartbeat_by frames node (natural_at dict 0x1017 0)

abbrev pub of_frames : List FrameRow → ℕ → List Entry → List Warning
of_frames frames node dict =
    option_to_list (emcy_warning frames node dict) ++ option_to_list (request_warning frames node dict) ++ option_to_list (response_warning frames node dict) ++ option_to_list (heartbeat_warning frames node dict)

-- a COB-ID that exists has another identifier than this one: bits 0 to 29, which are those of a frame of 29 bits too
abbrev pub other_by : ℕ → ℕ → ℕ → ℕ → Option ℕ → Option Warning
other_by node index sub identifier None = None
other_by node index sub identifier (Some cob_id) =
    if nat_lt cob_id 2147483648 && not (cob_id % 1073741824 == identifier) then Some (warnings.OtherIdentifier node index sub cob_id) else None

abbrev pub other_identifier : ℕ → ℕ → ℕ → ℕ → List Entry → Option Warning
other_identifier node index sub identifier dict = other_by node index sub identifier (word_at dict index sub)

-- bit 30 of the COB-ID of SYNC says that the device makes it (CiA 301, "COB-ID SYNC message")
abbrev pub sync_by : ℕ → Option ℕ → Option Warning
sync_by node None = None
sync_by node (Some cob_id) =
    if cob_id / 1073741824 % 2 == 1 then Some (warnings.MakesSync node)
    else if not (cob_id % 1073741824 == 0x80) then Some (warnings.OtherIdentifier node 0x1005 0 cob_id)
    else None

abbrev pub sync_warning : ℕ → List Entry → Option Warning
sync_warning node dict = sync_by node (word_at dict 0x1005 0)

abbrev pub of_identifiers : ℕ → List Entry → List Warning
of_identifiers node dict =
    option_to_list (sync_warning node dict) ++ option_to_list (other_identifier node 0x1014 0 (0x80 + node) dict)
    ++ option_to_list (other_identifier node 0x1200 1 (0x600 + node) dict) ++ option_to_list (other_identifier node 0x1200 2 (0x580 + node) dict)

-- bit 30 of the COB-ID of TIME says that the device sends it (CiA 301, "COB-ID time stamp object")
abbrev pub time_by : ℕ → Option ℕ → Option Warning
time_by node None = None
time_by node (Some cob_id) = if cob_id / 1073741824 % 2 == 1 then Some (warnings.MakesTime node) else None

abbrev pub time_warning : ℕ → List Entry → Option Warning
time_warning node dict = time_by node (word_at dict 0x1012 0)

-- the period of SYNC's row, 0 if there is none
abbrev pub sync_period : List FrameRow → ℕ
sync_period frames = option_map_or (λ row. row.period) (find (is_row 0 kinds.Sync) frames) 0

-- the period of SYNC in a device is neither 0 nor that of SYNC's row, which has one (CiA 301, "Communication cycle period")
abbrev pub period_by : ℕ → ℕ → Option ℕ → Option Warning
period_by node period None = None
period_by node period (Some micros) = if not (micros == 0) && (not (period == 0) && not (micros == period)) then Some (warnings.SyncPeriod node micros) else None

abbrev pub period_warning : List FrameRow → ℕ → List Entry → Option Warning
period_warning frames node dict = period_by node (sync_period frames) (word_at dict 0x1006 0)

abbrev pub of_clocks : List FrameRow → ℕ → List Entry → List Warning
of_clocks frames node dict = option_to_list (time_warning node dict) ++ option_to_list (period_warning frames node dict)

-- an index of the objects that a plan counts on, or that a boot sets or asks (CiA 301, "Communication profile area")
abbrev pub is_relied : ℕ → Bool
is_relied index =
    is_between 0x1005 0x1007 index || (index == 0x1010) || (index == 0x1011) || is_between 0x1014 0x1018 index || (index == 0x1200)
    || is_between 0x1400 0x1BFF index

-- the low limit of an object is above its high limit, so that it takes no value
abbrev pub is_shut : Entry → Bool
is_shut entry = option_map_or (λ high. option_map_or (λ low. int_lt high low) entry.description.low false) entry.description.high false

abbrev pub is_relied_and_shut : Entry → Bool
is_relied_and_shut entry = is_relied entry.index && is_shut entry

-- the first such object
abbrev pub limits_by : ℕ → Option Entry → Option Warning
limits_by node None = None
limits_by node (Some entry) = Some (warnings.TakesNothing node entry.index entry.sub)

abbrev pub limits_warning : ℕ → List Entry → Option Warning
limits_warning node dict = limits_by node (find is_relied_and_shut dict)

abbrev pub of_device : List FrameRow → ℕ → List Entry → List Warning
of_device frames node dict =
    of_frames frames node dict ++ of_identifiers node dict ++ of_clocks frames node dict ++ option_to_list (limits_warning node dict)

-- ---- the network

-- the dictionary of a node's device, with the values that it begins with
abbrev pub dictionary_in : Net → ℕ → Option (List Entry)
dictionary_in net node = option_map (λ device. device.dictionary) (get_or net.equipment.devices node None)

abbrev pub of_device_by : List FrameRow → ℕ → Option (List Entry) → List Warning
of_device_by frames node None = []
of_device_by frames node (Some dict) = of_device frames node dict

-- of a PDO by SYNC: an RPDO that takes it has the transmission type 254 or 255, by which a device uses what comes at once, before the next SYNC
-- (CiA 301, "RPDO communication parameter")
abbrev pub at_once_by : ℕ → Consumer → Option ℕ → Option Warning
at_once_by place consumer None = None
at_once_by place consumer (Some kind) = if (kind == 254) || (kind == 255) then Some (warnings.UsedAtOnce place consumer.node consumer.rpdo kind) else None

-- the transmission type of an RPDO
abbrev pub kind_by : ℕ → Option (List Entry) → Option ℕ
kind_by rpdo None = None
kind_by rpdo (Some dict) = natural_at dict (0x13FF + rpdo) 2

abbrev pub at_once_warning : Net → ℕ → Consumer → Option Warning
at_once_warning net place consumer = at_once_by place consumer (kind_by consumer.rpdo (dictionary_in net consumer.node))

abbrev pub of_consumers : Net → ℕ → List Consumer → List Warning
of_consumers net place [] = []
of_consumers net place (consumer ∷ consumers) = option_to_list (at_once_warning net place consumer) ++ of_consumers net place consumers

-- a PDO by SYNC has no period
abbrev pub of_receivers : Net → ℕ → PdoRow → List Warning
of_receivers net place row = if row.period == 0 then of_consumers net place row.consumers else []

-- the rows of PDOs, from a record on
abbrev pub of_rows : Net → ℕ → List PdoRow → List Warning
of_rows net place [] = []
of_rows net place (row ∷ rows) = of_row place row (dictionary_in net row.node) ++ of_receivers net place row ++ of_rows net (place + 1) rows

abbrev pub of_devices : Net → List FrameRow → List DeviceRow → List Warning
of_devices net frames [] = []
of_devices net frames (row ∷ rows) = of_device_by frames row.node (dictionary_in net row.node) ++ of_devices net frames rows

-- the device of a row makes SYNC, and is not of this node
abbrev pub makes_sync_by : Option (List Entry) → Bool
makes_sync_by None = false
makes_sync_by (Some dict) = option_map_or (λ cob_id. cob_id / 1073741824 % 2 == 1) (word_at dict 0x1005 0) false

abbrev pub is_other_maker : Net → ℕ → DeviceRow → Bool
is_other_maker net node row = not (row.node == node) && makes_sync_by (dictionary_in net row.node)

-- the first node that makes SYNC, other than this one; 0 is no node
abbrev pub other_maker : Net → ℕ → List DeviceRow → Option ℕ
other_maker net node rows = option_map (λ row. row.node) (find (is_other_maker net node) rows)

-- of the devices that make SYNC: there are two, and one alone may (CiA 301, "Synchronization object")
abbrev pub makers_by : Net → List DeviceRow → Option ℕ → Option Warning
makers_by net rows None = None
makers_by net rows (Some first) = option_map (warnings.BothMakeSync first) (other_maker net first rows)

abbrev pub makers_warning : Net → List DeviceRow → Option Warning
makers_warning net rows = makers_by net rows (other_maker net 0 rows)

-- all of a network, by the frames of its table of nodes
unfoldable pub warnings_of : List FrameRow → Net → List Warning
warnings_of frames net = of_rows net 1 net.rows ++ of_devices net frames net.nodes.devices ++ option_to_list (makers_warning net net.nodes.devices)

-- ---- their numbers: of EMCY 88, of SYNC 89, of limits 118

abbrev pub number_of_kind : FrameKind → Option ℕ
number_of_kind kind = if rank_of kind == rank_of kinds.Emcy then Some 88 else None

abbrev pub number_of_index : ℕ → Option ℕ
number_of_index index = if index == 0x1014 then Some 88 else if index == 0x1005 then Some 89 else None

abbrev pub number_of : Warning → Option ℕ
number_of (warnings.DeadlineWithinJitter place) = None
number_of (warnings.EventTimer place millis) = Some 86
number_of (warnings.InhibitTime place units) = Some 87
number_of (warnings.NoRow node kind) = number_of_kind kind
number_of (warnings.OtherIdentifier node index sub cob_id) = number_of_index index
number_of (warnings.MakesSync node) = Some 89
number_of (warnings.BothMakeSync first second) = Some 89
number_of (warnings.TakesNothing node index sub) = Some 118
number_of (warnings.UsedAtOnce place node rpdo kind) = None
number_of (warnings.MakesTime node) = None
number_of (warnings.SyncPeriod node micros) = None
