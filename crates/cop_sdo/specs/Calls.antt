-- What the calls of a client give.
use Rattle.std.specs.Prelude.{ℕ, ◌≡◌, Bool, true, false, IsOk, IsErr, not, ◌&&◌, List, [], length, nat_lt, nat_le, if◌then◌else◌, Option, Some, None, Result, Ok, Err, ◌⊎◌}
use Rattle.cop_dict.specs.declared.abort.Abort.TheVariants as aborts
use Rattle.cop_dict.specs.Codes.{code_of}
use Rattle.cop_sdo.specs.declared.address.Address.{Address}
use Rattle.cop_frame.specs.declared.frames.Frame.{Frame}
use Rattle.cop_sdo.specs.Message.{Message, message_of}
use Rattle.cop_sdo.specs.declared.fault.ClientFault.{ClientFault}
use Rattle.cop_sdo.specs.declared.fault.ClientFault.TheVariants as faults
use Rattle.cop_sdo.specs.declared.task.Task.TheVariants as tasks
use Rattle.cop_sdo.specs.Answers.{abort_body}
use Rattle.cop_sdo.specs.Client.{Calling, Called, called, reacted, concluded, resting, request, give_body, begin_body, ask_body, is_idle, task_at}
use Rattle.cop_sdo.specs.Exchange.{IsDownloading, brings_bytes}
use Rattle.cop_sdo.specs.Reply.{is_answer, reply_of}

-- a client after a transfer has begun, and its first frame
pub record Started : Type 0 where
  pub client : Calling
  pub frame : Message

abbrev pub is_short : List ℕ → Bool
is_short bytes = nat_lt 0 (length bytes) && nat_le (length bytes) 4

-- 1 to 4 bytes go with the first frame
abbrev pub given : ℕ → Address → List ℕ → Started
given node at bytes = record {
  client = record { node = node; asking = record { task = tasks.Giving at; bytes = [] } };
  frame = request node (give_body at bytes);
}

abbrev pub downloading : Calling → Address → List ℕ → Result Started ClientFault
downloading client at bytes =
    if not (is_idle client.asking.task) then Err faults.Busy
    else if nat_lt 65535 (length bytes) then Err faults.TooLong
    else if is_short bytes then Ok (given client.node at bytes)
    else Ok (record {
      client = record { node = client.node; asking = record { task = tasks.Beginning at; bytes = bytes } };
      frame = request client.node (begin_body at (length bytes));
    })

abbrev pub uploading : Calling → Address → Result Started ClientFault
uploading client at =
    if not (is_idle client.asking.task) then Err faults.Busy
    else Ok (record {
      client = record { node = client.node; asking = record { task = tasks.Asking at; bytes = [] } };
      frame = request client.node (ask_body at);
    })

abbrev pub expiring : Calling → Option Message × Calling
expiring client =
    if is_idle client.asking.task then (None, client)
    else (Some (request client.node (abort_body (task_at client.asking.task) (code_of aborts.TimeOut))), record { node = client.node; asking = resting })

-- want of memory says nothing of the outcome, and any other fault is the outcome's
abbrev pub IsFault : ClientFault → Result Started ClientFault → Type 0
IsFault faults.Memory outcome = IsOk outcome
IsFault fault outcome = outcome ≡ Err fault

-- what a call gave and left is the outcome; a fault leaves the client as it was
abbrev pub Starts : Result Frame ClientFault → Calling → Calling → Result Started ClientFault → Type 0
Starts (Ok frame) old new outcome = outcome ≡ Ok (record { client = new; frame = message_of frame })
Starts (Err fault) old new outcome = IsFault fault outcome × (new ≡ old)

abbrev pub StartsExactly : Result Frame ClientFault → Calling → Calling → Result Started ClientFault → Type 0
StartsExactly (Ok frame) old new outcome = outcome ≡ Ok (record { client = new; frame = message_of frame })
StartsExactly (Err fault) old new outcome = (outcome ≡ Err fault) × (new ≡ old)

-- these take no memory: a frame in a download, one without bytes of a value, and one that is refused
abbrev pub HearsInPlace : Calling → Message → Type 0
HearsInPlace client frame =
    IsDownloading client.asking.task ⊎ (brings_bytes (reply_of frame.body) ≡ false) ⊎ IsErr (reacted client.asking.bytes client.asking.task (reply_of frame.body))

-- what a client may do with a frame: what is due, or, where memory is refused, its own abort
pub record MayCall (client : Calling) (frame : Message) (next : Called) : Type 0 where
  pub either : (next ≡ called client frame) ⊎ ((is_idle client.asking.task ≡ false) × (is_answer client.node frame ≡ true) × (next ≡ concluded client.node (task_at client.asking.task) (Err aborts.NoMemory)))
  pub sure : HearsInPlace client frame → next ≡ called client frame
