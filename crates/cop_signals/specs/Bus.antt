-- The messages of a plan's bus.
use Rattle.std.specs.Prelude.{ℕ, ◌%◌, Bool, false, ◌&&◌, ◌||◌, ◌==◌, nat_le, if◌then◌else◌, List, [], ◌∷◌, ◌++◌, get_or, Option, Some, None, option_map, Result, Ok, Err}
use Rattle.cop_dict.specs.declared.mapping.Direction.TheVariants as directions
use Rattle.cop_dict.specs.declared.mapping.Mapped.{Mapped}
use Rattle.cop_dict.specs.declared.mapping.MappingFault.{MappingFault}
use Rattle.cop_dict.specs.Find.{Entry}
use Rattle.cop_pdo.specs.Payload.{payload_of}
use Rattle.cop_rows.specs.declared.pdo_table.Consumer.{Consumer}
use Rattle.cop_rows.specs.declared.pdo_table.PdoRow.{PdoRow}
use Rattle.cop_rta.specs.declared.streams.Stream.{Stream}
use Rattle.cop_net.specs.Network.{Net}
use Rattle.cop_signals.specs.declared.places.Signal.{Signal}
use Rattle.cop_signals.specs.declared.bus.Message.{Message}
use Rattle.cop_signals.specs.Signals.{signals_from}
use Rattle.cop_signals.specs.Takers.{takes_from}

-- the dictionary of a node's device
abbrev pub dictionary_of : Net → ℕ → Option (List Entry)
dictionary_of net node = option_map (λ device. device.dictionary) (get_or net.equipment.devices node None)

-- the signals of a TPDO of a device
abbrev pub signals_by : List Entry → Result (List Mapped) MappingFault → List Signal
signals_by dict (Ok entries) = signals_from dict directions.Transmit 0 entries
signals_by dict (Err fault) = []

abbrev pub signals_in : Option (List Entry) → ℕ → List Signal
signals_in None tpdo = []
signals_in (Some dict) tpdo = signals_by dict (payload_of dict directions.Transmit tpdo)

-- the signals of the PDO of a row
abbrev pub sent_signals : Net → PdoRow → List Signal
sent_signals net row = signals_in (dictionary_of net row.node) row.tpdo

abbrev pub takes_by : Result (List Mapped) MappingFault → Signal → Bool
takes_by (Ok entries) signal = takes_from directions.Receive entries 0 signal.start signal.bits
takes_by (Err fault) signal = false

abbrev pub takes_in : Option (List Entry) → ℕ → Signal → Bool
takes_in None rpdo signal = false
takes_in (Some dict) rpdo signal = takes_by (payload_of dict directions.Receive rpdo) signal

-- a consumer takes a signal: its RPDO maps an object where the signal is
abbrev pub takes : Net → Signal → Consumer → Bool
takes net signal consumer = takes_in (dictionary_of net consumer.node) consumer.rpdo signal

-- the node of a consumer that takes a signal
abbrev pub taker : Net → Signal → Consumer → List ℕ
taker net signal consumer = if takes net signal consumer then consumer.node ∷ [] else []

-- the nodes of the consumers that take a signal, in the order of the row
abbrev pub receivers_of : Net → Signal → List Consumer → List ℕ
receivers_of net signal [] = []
receivers_of net signal (consumer ∷ rest) = taker net signal consumer ++ receivers_of net signal rest

-- Who sends the frame of a fixed identifier (CiA 301, "Pre-defined connection set"): NMT, SYNC and what SDO servers are asked
-- come from no device of the tables, each other frame from the node of its last seven bits.
abbrev pub fixed_sender : ℕ → Option ℕ
fixed_sender id = if (id % 128 == 0) || (nat_le 0x600 id && nat_le id 0x67F) then None else Some (id % 128)

-- the message of a stream
abbrev pub message_of : Option ℕ → Stream → Message
message_of sender stream = record { id = stream.id; bytes = stream.bytes; period = stream.period; sender = sender }

-- the messages of streams, of which the first are those of the rows
abbrev pub messages_of : List PdoRow → List Stream → List Message
messages_of rows [] = []
messages_of [] (stream ∷ streams) = message_of (fixed_sender stream.id) stream ∷ messages_of [] streams
messages_of (row ∷ rows) (stream ∷ streams) = message_of (Some row.node) stream ∷ messages_of rows streams
