-- What the devices of a network are asked about themselves, and what is said of their answers.
use Rattle.std.specs.Prelude.{ℕ, List, [], ◌∷◌, ◌++◌, map, false, ◌==◌, nat_le, if◌then◌else◌, Option, Some, None, option_map, option_and_then, option_to_list}
use Rattle.std.specs.List.{flat_map}
use Rattle.cop_dict.specs.Find.{Entry, entry_at, unsigned32_of}
use Rattle.cop_sdo.specs.declared.address.Address.{Address}
use Rattle.cop_net.specs.Network.{Net}
use Rattle.cop_dcf.specs.Settings.{dictionary_of}
use Rattle.cop_boot_answer.specs.declared.states.State.{State}
use Rattle.cop_boot_answer.specs.declared.states.State.TheVariants as states
use Rattle.cop_boot_answer.specs.declared.answers.NodeLine.{NodeLine}
use Rattle.cop_boot_answer.specs.Answers.{Told}
use Rattle.cop_identity.specs.declared.questions.Demand.TheVariants.{Tell}
use Rattle.cop_identity.specs.declared.questions.Question.{Question}
use Rattle.cop_identity.specs.declared.questions.Answer.{Answer}
use Rattle.cop_identity.specs.declared.questions.Answer.TheVariants as answers
use Rattle.cop_identity.specs.declared.asking.Outcome.{Outcome}
use Rattle.cop_identity.specs.declared.asking.Outcome.TheVariants as outcomes
use Rattle.cop_identity.specs.declared.asking.Exchange.{Exchange}
use Rattle.cop_commission.specs.declared.identities.Finding.{Finding}
use Rattle.cop_commission.specs.declared.identities.Finding.TheVariants.{Unasked, AsPlanned, Aborted, Silent, Other}

-- 0 says nothing
abbrev pub unless_zero : ℕ → Option ℕ
unless_zero value = if value == 0 then None else Some value

-- the UNSIGNED32 that a dictionary has at an address
abbrev pub identity_at : List Entry → Address → Option ℕ
identity_at dict at = option_and_then unless_zero (option_and_then unsigned32_of (entry_at dict at.index at.sub))

-- the question to a node about an object, where its dictionary says what is wanted
abbrev pub question_at : ℕ → List Entry → Address → Option Question
question_at node dict at = option_map (λ wanted. record { node = node; demand = Tell; at = at; wanted = wanted }) (identity_at dict at)

-- a device is known by its type (1000h), its vendor and its product (1018h sub 1 and 2)
abbrev pub device_type : Address
device_type = record { index = 0x1000; sub = 0 }

abbrev pub vendor : Address
vendor = record { index = 0x1018; sub = 1 }

abbrev pub product : Address
product = record { index = 0x1018; sub = 2 }

abbrev pub questions_at : ℕ → List Entry → List Question
questions_at node dict =
    option_to_list (question_at node dict device_type) ++ (option_to_list (question_at node dict vendor) ++ option_to_list (question_at node dict product))

abbrev pub questions_by : ℕ → Option (List Entry) → List Question
questions_by node None = []
questions_by node (Some dict) = questions_at node dict

-- the questions to a node of a network, and to some
abbrev pub questions_to : Net → ℕ → List Question
questions_to net node = questions_by node (dictionary_of net node)

abbrev pub questions_of : Net → List ℕ → List Question
questions_of net nodes = flat_map (questions_to net) nodes

-- what an answer says of a device, and what the outcome of a question does
abbrev pub answer_says : Address → Answer → Finding
answer_says at answers.Wanted = AsPlanned
answer_says at (answers.Other found) = Other at found
answer_says at (answers.Aborted code) = Aborted at code

abbrev pub outcome_says : Address → Outcome → Finding
outcome_says at (outcomes.Answered answer) = answer_says at answer
outcome_says at outcomes.Silent = Silent
outcome_says at outcomes.Unasked = Unasked

abbrev pub finding_by : Exchange → Finding
finding_by asked = outcome_says asked.question.at asked.outcome

-- how much is said against a device
abbrev pub weight : Finding → ℕ
weight Unasked = 0
weight AsPlanned = 1
weight (Aborted at code) = 2
weight Silent = 3
weight (Other at found) = 4

-- of two findings the one that says more, and the first of two that say as much
abbrev pub worse : Finding → Finding → Finding
worse first second = if nat_le (weight second) (weight first) then first else second

-- the worst of what the outcomes of a node's questions say
abbrev pub finding_of : ℕ → List Exchange → Finding
finding_of node [] = Unasked
finding_of node (asked ∷ rest) = if asked.question.node == node then worse (finding_by asked) (finding_of node rest) else finding_of node rest

-- what is said of a node's device
abbrev pub finding_said : Finding → State
finding_said Unasked = states.Unasked
finding_said AsPlanned = states.AsPlanned
finding_said (Aborted at code) = states.Aborted at code
finding_said Silent = states.Silent
finding_said (Other at found) = states.Other at found

-- the line of a node
abbrev pub identity_line : List Exchange → ℕ → NodeLine
identity_line all node = record { node = node; state = finding_said (finding_of node all) }

-- the line of each, and that they were not started
abbrev pub identity_answer : List ℕ → List Exchange → Told
identity_answer nodes all = record { nodes = map (identity_line all) nodes; started = Some false; heartbeats = [] }
