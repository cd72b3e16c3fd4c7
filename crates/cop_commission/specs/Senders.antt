-- The identifiers by which a device sends PDOs as it was built (CiA 301, "TPDO communication parameter").
use Rattle.std.specs.Prelude.{ℕ, ◌%◌, Bool, ◌&&◌, List, [], ◌==◌, nat_le, Option, Some, None, option_map, option_and_then, if◌then◌else◌}
use Rattle.std.specs.List.{filter_map}
use Rattle.cop_dict.specs.Find.{Entry, unsigned32_of}
use Rattle.cop_dict.specs.Pdo.{exists_by}
use Rattle.cop_net.specs.Network.{Net}
use Rattle.cop_dcf.specs.Settings.{dictionary_of}
use Rattle.cop_live.specs.declared.listening.Sender.{Sender}

-- the COB-ID of a TPDO: sub 1 of 1800h to 19FFh
abbrev pub is_sent : Entry → Bool
is_sent entry = (nat_le 0x1800 entry.index && nat_le entry.index 0x19FF) && (entry.sub == 1)

-- the identifier in a COB-ID, whose bit 31 is clear where the PDO exists
abbrev pub existing_id : ℕ → Option ℕ
existing_id cob_id = if exists_by cob_id then Some (cob_id % 2048) else None

-- the identifier of a TPDO that exists
abbrev pub sent_id : Entry → Option ℕ
sent_id entry = if is_sent entry then option_and_then existing_id (unsigned32_of entry) else None

-- a node sends the TPDO of an entry
abbrev pub own_sender : ℕ → Entry → Option Sender
own_sender node entry = option_map (λ id. record { id = id; node = node }) (sent_id entry)

abbrev pub own_senders_of : ℕ → Option (List Entry) → List Sender
own_senders_of node None = []
own_senders_of node (Some dict) = filter_map (own_sender node) dict

-- the TPDOs that exist in the device of the node that is meant alone, as its EDS file says
abbrev pub own_senders : Net → Option ℕ → List Sender
own_senders net None = []
own_senders net (Some node) = own_senders_of node (dictionary_of net node)
