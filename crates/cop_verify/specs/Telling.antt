-- What is said of nodes by what came of the questions to them.
use Rattle.std.specs.Prelude.{ℕ, Bool, true, false, not, ◌&&◌, ◌||◌, List, [], map, find, ◌==◌, if◌then◌else◌, Option, Some, None}
use Rattle.std.specs.List.{list_any, list_all}
use Rattle.cop_sdo.specs.declared.address.Address.{Address}
use Rattle.cop_identity.specs.declared.questions.Answer.{Answer}
use Rattle.cop_identity.specs.declared.questions.Answer.TheVariants as answers
use Rattle.cop_identity.specs.declared.asking.Outcome.{Outcome}
use Rattle.cop_identity.specs.declared.asking.Outcome.TheVariants as outcomes
use Rattle.cop_identity.specs.declared.asking.Exchange.{Exchange}
use Rattle.cop_readback.specs.Reading.{is_wanted}
use Rattle.cop_boot_answer.specs.declared.states.State.{State}
use Rattle.cop_boot_answer.specs.declared.states.State.TheVariants as states
use Rattle.cop_boot_answer.specs.declared.answers.NodeLine.{NodeLine}
use Rattle.cop_boot_answer.specs.Answers.{Told}

-- an object that tells which device it is: its type (1000h), or its vendor and product (1018h)
abbrev pub is_identity : Address → Bool
is_identity at = (at.index == 0x1000) || (at.index == 0x1018)

-- another value there says that it is another device
abbrev pub found_at : Address → ℕ → State
found_at at found = if is_identity at then states.Other at found else states.Differs at found

-- what an answer shows, and what the outcome of a question does
abbrev pub answer_shows : Address → Answer → State
answer_shows at answers.Wanted = states.AsPlanned
answer_shows at (answers.Other found) = found_at at found
answer_shows at (answers.Aborted code) = states.Aborted at code

abbrev pub outcome_shows : Address → Outcome → State
outcome_shows at (outcomes.Answered answer) = answer_shows at answer
outcome_shows at outcomes.Silent = states.Silent
outcome_shows at outcomes.Unasked = states.Unasked

abbrev pub shown_by : Exchange → State
shown_by asked = outcome_shows asked.question.at asked.outcome

-- a question to a node, whether there is some, and one that was not answered as it should be
abbrev pub is_to : ℕ → Exchange → Bool
is_to node asked = asked.question.node == node

abbrev pub is_asked : ℕ → List Exchange → Bool
is_asked node all = list_any (is_to node) all

abbrev pub is_wrong_at : ℕ → Exchange → Bool
is_wrong_at node asked = is_to node asked && not (is_wanted asked.outcome)

-- a node of which no question was answered otherwise: it was asked some, or none
abbrev pub unfaulted : Bool → State
unfaulted true = states.AsPlanned
unfaulted false = states.Unasked

abbrev pub state_by : Option Exchange → State → State
state_by None otherwise = otherwise
state_by (Some asked) otherwise = shown_by asked

-- the first question to a node that was not answered as it should be tells of it; it is as planned where there is none, and some question was asked
abbrev pub state_of : ℕ → List Exchange → State
state_of node all = state_by (find (is_wrong_at node) all) (unfaulted (is_asked node all))

abbrev pub verify_line : List Exchange → ℕ → NodeLine
verify_line all node = record { node = node; state = state_of node all }

-- the line of each node
abbrev pub verify_answer : List ℕ → List Exchange → Told
verify_answer nodes all = record { nodes = map (verify_line all) nodes; started = None; heartbeats = [] }

-- a node is as planned
abbrev pub is_as_planned : State → Bool
is_as_planned states.AsPlanned = true
is_as_planned states.Ready = false
is_as_planned states.Undecided = false
is_as_planned states.Unfinished = false
is_as_planned states.Silent = false
is_as_planned states.Restarting = false
is_as_planned (states.Aborted at code) = false
is_as_planned (states.Differs at found) = false
is_as_planned states.Restored = false
is_as_planned states.Unasked = false
is_as_planned (states.Other at found) = false
is_as_planned states.Operational = false
is_as_planned states.Unheard = false
is_as_planned states.Late = false

-- each node of some lines is
abbrev pub are_planned : List NodeLine → Bool
are_planned lines = list_all (λ line. is_as_planned line.state) lines
