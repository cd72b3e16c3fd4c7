-- What the device of a node is asked, and what a frame answers.
use Rattle.std.specs.Prelude.{ℕ, ◌+◌, ◌*◌, ◌^◌, ◌&&◌, List, slice_index, ◌==◌, nat_lt, if◌then◌else◌, Option, Some, None, option_map}
use Rattle.cop_sdo.specs.Message.{Message}
use Rattle.cop_sdo.specs.Request.{address_in}
use Rattle.cop_sdo.specs.declared.address.Address.{Address}
use Rattle.cop_sdo.specs.Answers.{body_of}
use Rattle.cop_sdo.specs.Client.{request, ask_body, same_address}
use Rattle.cop_sdo.specs.Reply.{Reply, Confirm, Value, Abort, reply_of, is_answer}
use Rattle.cop_identity.specs.declared.questions.Demand.{Demand}
use Rattle.cop_identity.specs.declared.questions.Demand.TheVariants.{Tell, TellOff, Take}
use Rattle.cop_identity.specs.declared.questions.Question.{Question}
use Rattle.cop_identity.specs.declared.questions.Answer.{Answer}
use Rattle.cop_identity.specs.declared.questions.Answer.TheVariants.{Wanted, Other, Aborted}

-- a device tells a value at the request of an upload (CiA 301, "Initiate SDO upload"), and takes one at that of a download of four bytes
-- ("Initiate SDO download", expedited)
abbrev pub body_by : Demand → Address → ℕ → List ℕ
body_by Tell at wanted = ask_body at
body_by TellOff at wanted = ask_body at
body_by Take at wanted = body_of 0x23 at wanted

abbrev pub request_of : Question → Message
request_of question = request question.node (body_by question.demand question.at question.wanted)

-- an answer is awaited for so many ticks: 1 s, or 10 s
abbrev pub limit_of : Demand → ℕ
limit_of Tell = 4000000
limit_of TellOff = 4000000
limit_of Take = 40000000

-- the number that at most four bytes are, the least significant first; where there are fewer, the others count as 0
abbrev pub number_of : List ℕ → ℕ
number_of bytes = slice_index bytes 0 + 256 * slice_index bytes 1 + 65536 * slice_index bytes 2 + 16777216 * slice_index bytes 3

-- the value that was found is the one that is wanted, or another
abbrev pub judged : ℕ → ℕ → Answer
judged wanted found = if found == wanted then Wanted else Other found

-- the COB-ID that was found has bit 31, so that its PDO is off, or it has not (CiA 301, "PDO communication parameter record")
abbrev pub judged_off : ℕ → Answer
judged_off found = if nat_lt found (2 ^ 31) then Other found else Wanted

-- the number that a whole value is; one that comes in segments is none
abbrev pub value_of : Reply → Option ℕ
value_of (Value at bytes) = Some (number_of bytes)
value_of _ = None

-- an abort answers; so does a whole value, where it is to be told, or a confirmation, where it is to be taken; and nothing else
abbrev pub taken_by : Reply → Option Answer
taken_by (Confirm at) = Some Wanted
taken_by _ = None

abbrev pub answer_to : Demand → ℕ → Reply → Option Answer
answer_to Tell wanted reply = option_map (judged wanted) (value_of reply)
answer_to TellOff wanted reply = option_map judged_off (value_of reply)
answer_to Take wanted reply = taken_by reply

abbrev pub answer_by : Demand → ℕ → Reply → Option Answer
answer_by demand wanted (Abort code) = Some (Aborted code)
answer_by demand wanted reply = answer_to demand wanted reply

-- what a frame answers to a question: it comes from the node, and is about the object
abbrev pub answer_in : Question → Message → Option Answer
answer_in question frame =
    if is_answer question.node frame && same_address question.at (address_in frame.body) then answer_by question.demand question.wanted (reply_of frame.body) else None
