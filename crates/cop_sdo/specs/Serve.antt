-- What the server of a node does with frames.
use Rattle.std.specs.Prelude.{ℕ, ◌≡◌, Bool, true, false, ◌&&◌, List, [], ◌∷◌, ◌++◌, slice_index, ◌==◌, if◌then◌else◌, Option, None, option_map, option_to_list, ◌⊎◌}
use Rattle.cop_dict.specs.declared.abort.Abort.TheVariants as aborts
use Rattle.cop_dict.specs.Codes.{code_of}
use Rattle.cop_dict.specs.Find.{Entry}
use Rattle.cop_sdo.specs.Message.{Message}
use Rattle.cop_sdo.specs.Request.{Request, Cancel, request_of, is_heard, size_in}
use Rattle.cop_sdo.specs.Answers.{reply}
use Rattle.cop_sdo.specs.Server.{State, Moved, step, short_of_memory, TakesNoMemory}

-- the server of a node
pub record Serving : Type 0 where
  pub node : ℕ
  pub state : State

-- a server and a dictionary after a frame, and the answer
pub record Served : Type 0 where
  pub server : Serving
  pub dict : List Entry
  pub answer : Option Message

abbrev pub replied : ℕ → Moved → Served
replied node m = record { server = record { node = node; state = m.state }; dict = m.dict; answer = option_map (reply node) m.answer }

-- a frame that the server doesn't hear changes nothing and has no answer
abbrev pub due : Serving → List Entry → Message → Served
due server dict frame =
    if is_heard server.node frame then replied server.node (step server.state dict (request_of frame.body))
    else record { server = server; dict = dict; answer = None }

-- what a server may do with a frame: what is due, or, where memory is refused, the abort that says so
pub record MayServe (server : Serving) (dict : List Entry) (frame : Message) (next : Served) : Type 0 where
  pub either : (next ≡ due server dict frame)
      ⊎ ((is_heard server.node frame ≡ true) × (next ≡ replied server.node (short_of_memory server.state dict (request_of frame.body))))
  pub sure : TakesNoMemory server.state dict (request_of frame.body) → next ≡ due server dict frame

-- what a server may do with frames, one after the other: its answers, and what it leaves
abbrev pub Serves : Serving → List Entry → List Message → List Message → Serving → List Entry → Type 0
Serves server dict [] answers server' dict' = (answers ≡ []) × (server' ≡ server) × (dict' ≡ dict)
Serves server dict (frame ∷ frames) answers server' dict' =
    (next : Served) × MayServe server dict frame next × (later : List Message)
    × (answers ≡ option_to_list next.answer ++ later)
    × Serves next.server next.dict frames later server' dict'

-- an answer that says that memory was refused: abort 05040005h
abbrev pub ran_out : Message → Bool
ran_out answer = (slice_index answer.body 0 == 0x80) && (size_in answer.body == code_of aborts.NoMemory)

-- each request but the client's abort has an answer
abbrev pub is_answered : Request → Bool
is_answered Cancel = false
is_answered request = true

-- requests with the client's abort in the place of each that was answered for want of memory
abbrev pub granted : List Request → List Message → List Request
granted [] answers = []
granted (request ∷ more) [] = request ∷ granted more []
granted (request ∷ more) (answer ∷ answers) =
    if is_answered request then (if ran_out answer then Cancel else request) ∷ granted more answers
    else request ∷ granted more (answer ∷ answers)
