-- Devices are asked over a port, question after question.
use Rattle.std.specs.Prelude.{◌≡◌, ◌<◌, ◌≤◌, ℕ, ◌-◌, Bool, true, false, List, [], ◌∷◌, ◌++◌, map, ◌==◌, Option, Some, None}
use Rattle.std.specs.Option.{option_or, option_map_or}
use Rattle.std.specs.List.{AllByRecursion, list_any}
use Rattle.cop_slcan.specs.Meaning.{Told, Heard, Done, Refused, Other}
use Rattle.cop_slcan.specs.Reading.{said_from, left_from}
use Rattle.cop_live.specs.Log as log
use Rattle.cop_live.specs.Log.{ByteStep, ClockStep, DidAll, GaveUp}
use Rattle.cop_live.specs.Listening.{listening_log}
use Rattle.cop_identity.specs.declared.questions.Question.{Question}
use Rattle.cop_identity.specs.declared.questions.Answer.{Answer}
use Rattle.cop_identity.specs.declared.questions.Answer.TheVariants as answers
use Rattle.cop_identity.specs.declared.asking.Outcome.{Outcome}
use Rattle.cop_identity.specs.declared.asking.Outcome.TheVariants.{Answered, Silent, Unasked}
use Rattle.cop_identity.specs.declared.asking.Exchange.{Exchange}
use Rattle.cop_identity.specs.Questions.{request_of, limit_of, answer_in}

-- what a line answers to a question
abbrev pub answer_told : Question → Told → Option Answer
answer_told question (Heard frame) = answer_in question frame
answer_told question Done = None
answer_told question Refused = None
answer_told question Other = None

-- the first answer in lines
abbrev pub first_answer : Question → List Told → Option Answer
first_answer question [] = None
first_answer question (line ∷ rest) = option_or (answer_told question line) (first_answer question rest)

-- the first answer in the lines of turns, each with its moment and its bytes, where bytes of a line had come before
abbrev pub answer_heard : Question → List ℕ → List (ℕ × List ℕ) → Option Answer
answer_heard question pending [] = None
answer_heard question pending ((now, bytes) ∷ turns) = option_or (first_answer question (said_from pending bytes)) (answer_heard question (left_from pending bytes) turns)

-- a question leads a port from one state to another: the clock is asked, the request is sent, and turns are taken, each sooner after
-- that than the limit; this is the first answer in what is read then, or there is none
pub record Asks {P : Type 0} (reads writes : ByteStep P) (asks : ClockStep P) (question : Question) (began : ℕ) (p : P) (turns : List (ℕ × List ℕ)) (answer : Option Answer) (q : P) : Type 0 where
  pub did : DidAll reads writes asks p (log.Asked began ∷ log.Sent (request_of question) ∷ listening_log turns) q
  pub heard : answer ≡ answer_heard question [] turns
  pub soon : AllByRecursion (λ turn. turn.0 - began < limit_of question.demand) turns

-- what came of a question: an answer, or none within the limit
abbrev pub WasAsked : {P : Type 0} → ByteStep P → ByteStep P → ClockStep P → Question → P → Outcome → P → Type 0
WasAsked reads writes asks question p (Answered answer) q = (began : ℕ) × (turns : List (ℕ × List ℕ)) × Asks reads writes asks question began p turns (Some answer) q
WasAsked {P} reads writes asks question p Silent q =
    (began : ℕ) × (turns : List (ℕ × List ℕ)) × (m : P) × (until : ℕ) × Asks reads writes asks question began p turns None m × asks m until q × (limit_of question.demand ≤ until - began)
WasAsked reads writes asks question p Unasked q = ⊥

-- whether a node is the one that was silent
abbrev pub is_silent : Option ℕ → ℕ → Bool
is_silent silent node = option_map_or (λ number. number == node) silent false

-- the node that was silent last
abbrev pub silent_after : Option ℕ → ℕ → Outcome → Option ℕ
silent_after silent node Silent = Some node
silent_after silent node (Answered answer) = silent
silent_after silent node Unasked = silent

-- a question to the node that was silent is left out, and any other one is asked
abbrev pub WasNext : {P : Type 0} → ByteStep P → ByteStep P → ClockStep P → Bool → Question → P → Outcome → P → Type 0
WasNext reads writes asks true question p outcome q = (outcome ≡ Unasked) × (p ≡ q)
WasNext reads writes asks false question p outcome q = WasAsked reads writes asks question p outcome q

-- questions in their order, and what came of each: nothing else is done at the port
abbrev pub WereAsked : {P : Type 0} → ByteStep P → ByteStep P → ClockStep P → Option ℕ → P → List Exchange → P → Type 0
WereAsked reads writes asks silent p [] q = p ≡ q
WereAsked {P} reads writes asks silent p (asked ∷ rest) q =
    (m : P) × WasNext reads writes asks (is_silent silent asked.question.node) asked.question p asked.outcome m
    × WereAsked reads writes asks (silent_after silent asked.question.node asked.outcome) m rest q

-- these questions were asked, each once
pub record AskedAll {P : Type 0} (reads writes : ByteStep P) (asks : ClockStep P) (questions : List Question) (p : P) (all : List Exchange) (q : P) : Type 0 where
  pub each : map (λ asked. asked.question) all ≡ questions
  pub were : WereAsked reads writes asks None p all q

-- a question gave out: the look at the clock, the request, or the turns in which its answer was awaited
abbrev pub AskFails : {P : Type 0} → ByteStep P → ByteStep P → ClockStep P → ByteStep P → Question → P → P → Type 0
AskFails reads writes asks fails question p q =
    (began : ℕ) × (turns : List (ℕ × List ℕ)) × GaveUp reads writes asks fails turns p (log.Asked began ∷ log.Sent (request_of question) ∷ listening_log turns) q

-- and so did the next one, which is not left out
abbrev pub NextFails : {P : Type 0} → ByteStep P → ByteStep P → ClockStep P → ByteStep P → Bool → Question → P → P → Type 0
NextFails reads writes asks fails true question p q = ⊥
NextFails reads writes asks fails false question p q = AskFails reads writes asks fails question p q

-- the node that was silent last, after some questions
abbrev pub silent_by : Option ℕ → List Exchange → Option ℕ
silent_by silent [] = silent
silent_by silent (asked ∷ rest) = silent_by (silent_after silent asked.question.node asked.outcome) rest

-- the first ones of these questions were asked, each once, and the next one gave out
pub record AskingFails {P : Type 0} (reads writes : ByteStep P) (asks : ClockStep P) (fails : ByteStep P) (questions : List Question) (p q : P) : Type 0 where
  pub all : List Exchange
  pub next : Question
  pub rest : List Question
  pub between : P
  pub each : map (λ asked. asked.question) all ++ next ∷ rest ≡ questions
  pub were : WereAsked reads writes asks None p all between
  pub failed : NextFails reads writes asks fails (is_silent (silent_by None all) next.node) next between q

-- the first ones of these questions were asked, each once
pub record AskedSome {P : Type 0} (reads writes : ByteStep P) (asks : ClockStep P) (questions : List Question) (p q : P) : Type 0 where
  pub all : List Exchange
  pub rest : List Question
  pub each : map (λ asked. asked.question) all ++ rest ≡ questions
  pub were : WereAsked reads writes asks None p all q

-- a device answered with another value
abbrev pub is_other_answer : Answer → Bool
is_other_answer answers.Wanted = false
is_other_answer (answers.Other found) = true
is_other_answer (answers.Aborted code) = false

abbrev pub is_other : Outcome → Bool
is_other (Answered answer) = is_other_answer answer
is_other Silent = false
is_other Unasked = false

-- some device is another one than is wanted
abbrev pub has_other : List Exchange → Bool
has_other all = list_any (λ asked. is_other asked.outcome) all
