-- Settings are read back, question after question, while the manager goes on to meet all that comes.
use Rattle.std.specs.Prelude.{◌≡◌, ◌<◌, ◌≤◌, ℕ, ◌-◌, Bool, true, false, not, ◌&&◌, ◌||◌, List, [], ◌∷◌, ◌++◌, map, ◌==◌, Option, Some, None}
use Rattle.std.specs.List.{AllByRecursion, list_all}
use Rattle.cop_boot.specs.declared.«end».End.{End}
use Rattle.cop_boot.specs.declared.«end».End.TheVariants as ends
use Rattle.cop_boot.specs.Node.{Node}
use Rattle.cop_boot.specs.Manager.{Managing, end_at}
use Rattle.cop_slcan.specs.Reading.{said_from, left_from}
use Rattle.cop_live.specs.Log.{ByteStep, ClockStep, DidAll, GaveUp}
use Rattle.cop_live.specs.Session.{State, Step, Turn, Request, turns, steps_log, steps_state, noted}
use Rattle.cop_identity.specs.declared.questions.Question.{Question}
use Rattle.cop_identity.specs.declared.questions.Answer.{Answer}
use Rattle.cop_identity.specs.declared.questions.Answer.TheVariants.{Wanted, Other, Aborted}
use Rattle.cop_identity.specs.declared.asking.Outcome.{Outcome}
use Rattle.cop_identity.specs.declared.asking.Outcome.TheVariants.{Answered, Silent, Unasked}
use Rattle.cop_identity.specs.declared.asking.Exchange.{Exchange}
use Rattle.cop_identity.specs.Questions.{request_of, limit_of}
use Rattle.cop_identity.specs.Asking.{answer_heard}

-- a question, what came of it, and the turns in which an answer was awaited
pub record Round : Type 0 where
  pub exchange : Exchange
  pub taken : List (ℕ × List ℕ)

-- the request is sent, and turns are taken; for a question that is left out nothing is done
abbrev pub steps_for : Question → List (ℕ × List ℕ) → Outcome → List Step
steps_for question taken Unasked = []
steps_for question taken Silent = Request (request_of question) ∷ turns taken
steps_for question taken (Answered answer) = Request (request_of question) ∷ turns taken

abbrev pub round_steps : Round → List Step
round_steps round = steps_for round.exchange.question round.taken round.exchange.outcome

-- rounds in their order
abbrev pub rounds_steps : List Round → List Step
rounds_steps [] = []
rounds_steps (round ∷ rest) = round_steps round ++ rounds_steps rest

abbrev pub exchanges_of : List Round → List Exchange
exchanges_of rounds = map (λ round. round.exchange) rounds

-- the moment of the first turn
abbrev pub since : List (ℕ × List ℕ) → ℕ
since [] = 0
since ((now, bytes) ∷ rest) = now

-- turns in which an answer to a question is awaited: no answer comes before the last, which alone may be as long after the first as the
-- limit is; and this is the first answer in what is read in all of them, if there is one
pub record Awaits (question : Question) (taken : List (ℕ × List ℕ)) (answer : Option Answer) : Type 0 where
  pub early : List (ℕ × List ℕ)
  pub last : ℕ × List ℕ
  pub split : taken ≡ early ++ last ∷ []
  pub none_early : answer_heard question [] early ≡ None
  pub soon : AllByRecursion (λ turn. turn.0 - since taken < limit_of question.demand) early
  pub heard : answer ≡ answer_heard question [] taken

-- what came of a question that was asked: an answer, or none within the limit
abbrev pub IsOutcome : Question → List (ℕ × List ℕ) → Outcome → Type 0
IsOutcome question taken (Answered answer) = Awaits question taken (Some answer)
IsOutcome question taken Silent = (awaits : Awaits question taken None) × (limit_of question.demand ≤ awaits.last.0 - since taken)
IsOutcome question taken Unasked = ⊥

-- the answer is the one that is wanted
abbrev pub is_wanted_answer : Answer → Bool
is_wanted_answer Wanted = true
is_wanted_answer (Other found) = false
is_wanted_answer (Aborted code) = false

abbrev pub is_wanted : Outcome → Bool
is_wanted (Answered answer) = is_wanted_answer answer
is_wanted Silent = false
is_wanted Unasked = false

-- each question was answered as it should be
abbrev pub all_wanted : List Exchange → Bool
all_wanted all = list_all (λ asked. is_wanted asked.outcome) all

-- each question to a node was
abbrev pub are_right_at : ℕ → List Exchange → Bool
are_right_at node all = list_all (λ asked. not (asked.question.node == node) || is_wanted asked.outcome) all

abbrev pub is_ready_end : Option End → Bool
is_ready_end None = false
is_ready_end (Some ends.Ready) = true
is_ready_end (Some (ends.Aborted node index sub code)) = false
is_ready_end (Some (ends.Silent node)) = false
is_ready_end (Some (ends.Restarting node)) = false

-- a node is ready, and each of some nodes is
abbrev pub is_ready_at : List Node → ℕ → Bool
is_ready_at nodes number = is_ready_end (end_at nodes number)

abbrev pub are_ready : List Node → List ℕ → Bool
are_ready nodes numbers = list_all (is_ready_at nodes) numbers

-- a question is asked where its node is ready, and each question to that node before was answered as it should be
abbrev pub is_asked : Managing → List Exchange → Question → Bool
is_asked m before question = is_ready_at m.nodes question.node && are_right_at question.node before

abbrev pub IsRoundBy : Bool → Question → List (ℕ × List ℕ) → Outcome → Type 0
IsRoundBy true question taken outcome = IsOutcome question taken outcome
IsRoundBy false question taken outcome = outcome ≡ Unasked

-- a question is asked where it should be, and what is said to have come of it came of it
abbrev pub IsRound : Managing → List Exchange → Round → Type 0
IsRound m before round = IsRoundBy (is_asked m before round.exchange.question) round.exchange.question round.taken round.exchange.outcome

-- rounds, each behind others
abbrev pub AreRounds : ℕ → State → List Exchange → List Round → Type 0
AreRounds began s before [] = Unit {0}
AreRounds began s before (round ∷ rest) = IsRound s.manager before round × AreRounds began (steps_state began s (round_steps round)) (before ++ round.exchange ∷ []) rest

-- the nodes that boot up in steps are put into a set of nodes, where bytes of a line had come before
abbrev pub booted_in : List Bool → List ℕ → List Step → List Bool
booted_in booted pending [] = booted
booted_in booted pending (Turn now bytes ∷ steps) = booted_in (noted booted (said_from pending bytes)) (left_from pending bytes) steps
booted_in booted pending (Request frame ∷ steps) = booted_in booted pending steps

-- steps lead a manager's state, the nodes that booted up, and a port to others
pub record Steps {P : Type 0} (reads writes : ByteStep P) (asks : ClockStep P) (began : ℕ) (s : State) (booted : List Bool) (p : P) (steps : List Step) (t : State) (after : List Bool) (q : P) : Type 0 where
  pub did : DidAll reads writes asks p (steps_log began s steps) q
  pub state : t ≡ steps_state began s steps
  pub booted_up : after ≡ booted_in booted s.pending steps

-- turns gave out in which an answer was awaited
abbrev pub AwaitingFails : {P : Type 0} → ByteStep P → ByteStep P → ClockStep P → ByteStep P → ℕ → State → P → P → Type 0
AwaitingFails reads writes asks fails began s p q = (taken : List (ℕ × List ℕ)) × GaveUp reads writes asks fails taken p (steps_log began s (turns taken)) q

-- a question gave out: its request, or the turns
abbrev pub RequestFails : {P : Type 0} → ByteStep P → ByteStep P → ClockStep P → ByteStep P → ℕ → State → Question → P → P → Type 0
RequestFails reads writes asks fails began s question p q = (taken : List (ℕ × List ℕ)) × GaveUp reads writes asks fails taken p (steps_log began s (Request (request_of question) ∷ turns taken)) q

-- and so did one behind others, which is not left out
abbrev pub RoundFails : {P : Type 0} → ByteStep P → ByteStep P → ClockStep P → ByteStep P → ℕ → State → List Exchange → Question → P → P → Type 0
RoundFails reads writes asks fails began s before question p q = (is_asked s.manager before question ≡ true) × RequestFails reads writes asks fails began s question p q

-- rounds for the first ones of these questions were done, and the next question gave out
pub record RoundsFail {P : Type 0} (reads writes : ByteStep P) (asks : ClockStep P) (fails : ByteStep P) (questions : List Question) (began : ℕ) (s : State) (p q : P) : Type 0 where
  pub rounds : List Round
  pub next : Question
  pub rest : List Question
  pub between : P
  pub each : map (λ one. one.question) (exchanges_of rounds) ++ next ∷ rest ≡ questions
  pub right : AreRounds began s [] rounds
  pub did : DidAll reads writes asks p (steps_log began s (rounds_steps rounds)) between
  pub failed : RoundFails reads writes asks fails began (steps_state began s (rounds_steps rounds)) (exchanges_of rounds) next between q

-- rounds for the first ones of these questions were done
pub record RoundsStop {P : Type 0} (reads writes : ByteStep P) (asks : ClockStep P) (questions : List Question) (began : ℕ) (s : State) (p q : P) : Type 0 where
  pub rounds : List Round
  pub rest : List Question
  pub each : map (λ one. one.question) (exchanges_of rounds) ++ rest ≡ questions
  pub right : AreRounds began s [] rounds
  pub did : DidAll reads writes asks p (steps_log began s (rounds_steps rounds)) q
