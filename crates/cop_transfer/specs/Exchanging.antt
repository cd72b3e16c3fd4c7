-- One request over a port, and the answer of its node.
use Rattle.std.specs.Prelude.{◌≡◌, ◌<◌, ◌≤◌, ℕ, ◌-◌, List, [], ◌∷◌, Option, Some, None, if◌then◌else◌}
use Rattle.std.specs.Option.{option_or}
use Rattle.std.specs.List.{AllByRecursion}
use Rattle.cop_sdo.specs.Message.{Message}
use Rattle.cop_sdo.specs.Reply.{is_answer}
use Rattle.cop_slcan.specs.Meaning.{Told, Heard, Done, Refused, Other}
use Rattle.cop_slcan.specs.Reading.{said_from, left_from}
use Rattle.cop_live.specs.Log.{ByteStep, ClockStep, Asked, Sent, DidAll, GaveUp}
use Rattle.cop_live.specs.Listening.{listening_log}

-- the frame of a node's SDO server that a line tells (CiA 301: the identifier 580h + node, 8 bytes)
abbrev pub answer_told : ℕ → Told → Option Message
answer_told node (Heard frame) = if is_answer node frame then Some frame else None
answer_told node Done = None
answer_told node Refused = None
answer_told node Other = None

-- the first one in lines
abbrev pub first_answer : ℕ → List Told → Option Message
first_answer node [] = None
first_answer node (line ∷ rest) = option_or (answer_told node line) (first_answer node rest)

-- the first one in the lines of turns, each with its moment and its bytes, where bytes of a line had come before
abbrev pub answer_heard : ℕ → List ℕ → List (ℕ × List ℕ) → Option Message
answer_heard node pending [] = None
answer_heard node pending ((now, bytes) ∷ turns) = option_or (first_answer node (said_from pending bytes)) (answer_heard node (left_from pending bytes) turns)

-- a request leads a port from one state to another: the clock is asked, the request is sent, and turns are taken, each sooner after that than so
-- many ticks; this is the first answer in what is read then, or there is none
pub record Exchanges {P : Type 0} (reads writes : ByteStep P) (asks : ClockStep P) (node limit : ℕ) (request : Message) (began : ℕ) (p : P) (turns : List (ℕ × List ℕ)) (answer : Option Message) (q : P) : Type 0 where
  pub did : DidAll reads writes asks p (Asked began ∷ Sent request ∷ listening_log turns) q
  pub heard : answer ≡ answer_heard node [] turns
  pub soon : AllByRecursion (λ turn. turn.0 - began < limit) turns

-- what came of a request: an answer, or none within so many ticks
abbrev pub WasExchanged : {P : Type 0} → ByteStep P → ByteStep P → ClockStep P → ℕ → ℕ → Message → P → Option Message → P → Type 0
WasExchanged reads writes asks node limit request p (Some answer) q = (began : ℕ) × (turns : List (ℕ × List ℕ)) × Exchanges reads writes asks node limit request began p turns (Some answer) q
WasExchanged {P} reads writes asks node limit request p None q =
    (began : ℕ) × (turns : List (ℕ × List ℕ)) × (m : P) × (until : ℕ) × Exchanges reads writes asks node limit request began p turns None m × asks m until q × (limit ≤ until - began)

-- a request gave out: the look at the clock, the request, or the turns in which its answer was awaited
abbrev pub ExchangeFails : {P : Type 0} → ByteStep P → ByteStep P → ClockStep P → ByteStep P → Message → P → P → Type 0
ExchangeFails reads writes asks fails request p q = (began : ℕ) × (turns : List (ℕ × List ℕ)) × GaveUp reads writes asks fails turns p (Asked began ∷ Sent request ∷ listening_log turns) q
