-- What a client does with one answer, by cases.
use Rattle.std.specs.Prelude.{ℕ, ◌+◌, Bool, true, false, not, ◌&&◌, ◌||◌, List, [], ◌∷◌, ◌++◌, length, take, drop, nat_lt, nat_le, ◌==◌, if◌then◌else◌, Option, Result, Ok, Err}
use Rattle.std.specs.Bool.{beq}
use Rattle.std.specs.Option.{option_map_or}
use Rattle.cop_dict.specs.declared.abort.Abort.{Abort}
use Rattle.cop_dict.specs.declared.abort.Abort.TheVariants as aborts
use Rattle.cop_dict.specs.Codes.{code_of}
use Rattle.cop_sdo.specs.declared.address.Address.{Address}
use Rattle.cop_sdo.specs.Message.{Message}
use Rattle.cop_sdo.specs.declared.task.Task.{Task}
use Rattle.cop_sdo.specs.declared.task.Task.TheVariants as tasks
use Rattle.cop_sdo.specs.declared.task.Reaction.{Reaction}
use Rattle.cop_sdo.specs.declared.task.Reaction.TheVariants as reactions
use Rattle.cop_sdo.specs.Outcome.{Outcome}
use Rattle.cop_sdo.specs.Outcome as progress
use Rattle.cop_sdo.specs.Reply as replies
use Rattle.cop_sdo.specs.Reply.{Reply, reply_of, is_answer}
use Rattle.cop_sdo.specs.Answers.{body_of, toggle_bit, abort_body, value_body, upload_segment}

-- what a client is in the middle of, and the bytes that are to go, or that came
pub record Asking : Type 0 where
  pub task : Task
  pub bytes : List ℕ

abbrev pub resting : Asking
resting = record { task = tasks.Idle; bytes = [] }

-- what a client sends to a server
abbrev pub give_body : Address → List ℕ → List ℕ
give_body at bytes = value_body 0x23 at bytes

abbrev pub begin_body : Address → ℕ → List ℕ
begin_body at size = body_of 0x21 at size

abbrev pub ask_body : Address → List ℕ
ask_body at = body_of 0x40 at 0

abbrev pub ask_segment_body : Bool → List ℕ
ask_segment_body toggle = (0x60 + toggle_bit toggle) ∷ 0 ∷ 0 ∷ 0 ∷ 0 ∷ 0 ∷ 0 ∷ 0 ∷ []

-- a body to the server of a node
abbrev pub request : ℕ → List ℕ → Message
request node body = record { id = 0x600 + node; body = body; len = 8 }

pub record Reacted : Type 0 where
  pub asking : Asking
  pub reaction : Reaction

abbrev pub sends : Task → List ℕ → List ℕ → Result Reacted Abort
sends task bytes body = Ok (record { asking = record { task = task; bytes = bytes }; reaction = reactions.Send body })

-- the end of a download, and of an upload, whose bytes stay
abbrev pub done : List ℕ → Result Reacted Abort
done bytes = Ok (record { asking = record { task = tasks.Idle; bytes = bytes }; reaction = reactions.Done })

abbrev pub same_address : Address → Address → Bool
same_address a b = (a.index == b.index) && (a.sub == b.sub)

-- the next segment of a download, at most 7 bytes from a place on
abbrev pub sends_segment : Address → List ℕ → ℕ → Bool → Result Reacted Abort
sends_segment at bytes sent toggle =
    sends (tasks.Sending at (sent + 7) toggle) bytes (upload_segment toggle (take 7 (drop sent bytes)) (nat_le (length bytes) (sent + 7)))

-- a segment of an upload, with all bytes so far
abbrev pub took : Address → Option ℕ → Bool → List ℕ → Bool → Result Reacted Abort
took at size toggle bytes true =
    if option_map_or (λ stated. nat_lt (length bytes) stated) size false then Err aborts.Command else done bytes
took at size toggle bytes false = sends (tasks.Receiving at size (not toggle)) bytes (ask_segment_body (not toggle))

-- what a client makes of an answer, or why it aborts
abbrev pub reacted : List ℕ → Task → Reply → Result Reacted Abort
reacted bytes task (replies.Abort code) = Ok (record { asking = resting; reaction = reactions.Aborted code })
reacted bytes (tasks.Giving at) (replies.Confirm other) = if same_address at other then done [] else Err aborts.Command
reacted bytes (tasks.Beginning at) (replies.Confirm other) = if same_address at other then sends_segment at bytes 0 false else Err aborts.Command
reacted bytes (tasks.Sending at sent toggle) (replies.ConfirmSegment t) =
    if not (beq t toggle) then Err aborts.Toggle
    else if nat_le (length bytes) sent then done []
    else sends_segment at bytes sent (not toggle)
reacted bytes (tasks.Asking at) (replies.Value other value) = if same_address at other then done value else Err aborts.Command
reacted bytes (tasks.Asking at) (replies.Size other size) =
    if same_address at other then sends (tasks.Receiving at size false) [] (ask_segment_body false) else Err aborts.Command
reacted bytes (tasks.Receiving at size toggle) (replies.Segment t more is_last) =
    if not (beq t toggle) then Err aborts.Toggle
    else if option_map_or (λ stated. nat_lt stated (length bytes + length more)) size false then Err aborts.Command
    else took at size toggle (bytes ++ more) is_last
reacted bytes task reply = Err aborts.Command

abbrev pub task_at : Task → Address
task_at tasks.Idle = record { index = 0; sub = 0 }
task_at (tasks.Giving at) = at
task_at (tasks.Beginning at) = at
task_at (tasks.Sending at sent toggle) = at
task_at (tasks.Asking at) = at
task_at (tasks.Receiving at size toggle) = at

abbrev pub is_idle : Task → Bool
is_idle tasks.Idle = true
is_idle _ = false

-- the client of a node
pub record Calling : Type 0 where
  pub node : ℕ
  pub asking : Asking

-- a client after a frame, and what came of it
pub record Called : Type 0 where
  pub client : Calling
  pub progress : Outcome

abbrev pub progress_of : ℕ → Reaction → Outcome
progress_of node (reactions.Send body) = progress.Send (request node body)
progress_of node reactions.Done = progress.Done
progress_of node (reactions.Aborted code) = progress.Aborted code

-- an abort leaves the client idle
abbrev pub concluded : ℕ → Address → Result Reacted Abort → Called
concluded node at (Ok r) = record { client = record { node = node; asking = r.asking }; progress = progress_of node r.reaction }
concluded node at (Err abort) = record {
  client = record { node = node; asking = resting };
  progress = progress.Ended (request node (abort_body at (code_of abort))) (code_of abort);
}

abbrev pub called : Calling → Message → Called
called client frame =
    if is_idle client.asking.task || not (is_answer client.node frame) then record { client = client; progress = progress.Ignored }
    else concluded client.node (task_at client.asking.task) (reacted client.asking.bytes client.asking.task (reply_of frame.body))
