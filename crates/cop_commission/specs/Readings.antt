-- What is read back of the settings of nodes, and what is said of it.
use Rattle.std.specs.Prelude.{ℕ, Bool, not, ◌&&◌, List, [], ◌∷◌, ◌++◌, map, ◌==◌, is_some, option_and_then, if◌then◌else◌, Option, Some, None}
use Rattle.std.specs.List.{flat_map, list_any}
use Rattle.cop_dict.specs.Find.{Entry, entry_at}
use Rattle.cop_sdo.specs.declared.address.Address.{Address}
use Rattle.cop_net.specs.Network.{Net}
use Rattle.cop_setup.specs.declared.setting.Setting.{Setting}
use Rattle.cop_dcf.specs.Settings.{node_settings, dictionary_of}
use Rattle.cop_boot.specs.declared.«end».End.{End}
use Rattle.cop_boot.specs.declared.«end».End.TheVariants as ends
use Rattle.cop_boot.specs.Manager.{Managing, end_at}
use Rattle.cop_live.specs.Nodes.{has_node}
use Rattle.cop_identity.specs.declared.questions.Demand.TheVariants.{Take}
use Rattle.cop_identity.specs.declared.questions.Question.{Question}
use Rattle.cop_identity.specs.declared.questions.Answer.{Answer}
use Rattle.cop_identity.specs.declared.questions.Answer.TheVariants as answers
use Rattle.cop_identity.specs.declared.asking.Outcome.{Outcome}
use Rattle.cop_identity.specs.declared.asking.Outcome.TheVariants as outcomes
use Rattle.cop_identity.specs.declared.asking.Exchange.{Exchange}
use Rattle.cop_readback.specs.declared.session.ReadBack.{ReadBack}
use Rattle.cop_readback.specs.Reading.{is_wanted}
use Rattle.cop_commission.specs.Relied.{relied_questions}
use Rattle.cop_commission.specs.Told.{question_about, told_settings}
use Rattle.cop_boot_answer.specs.declared.states.State.{State}
use Rattle.cop_boot_answer.specs.declared.states.State.TheVariants.{Ready, Differs, Aborted, Silent, Restarting}
use Rattle.cop_boot_answer.specs.declared.answers.NodeLine.{NodeLine}

-- a setting is at the address of another, and a later one is
abbrev pub is_at : Setting → Setting → Bool
is_at s other = (other.index == s.index) && (other.sub == s.sub)

abbrev pub is_set_again : Setting → List Setting → Bool
is_set_again s rest = list_any (is_at s) rest

-- of settings in their order the last at each address is asked for
abbrev pub questions_about : ℕ → List Setting → List Question
questions_about node [] = []
questions_about node (s ∷ rest) = if is_set_again s rest then questions_about node rest else question_about node s ∷ questions_about node rest

-- the questions whether a node has what a plan relies on that sets this in it, and then whether it has these settings
abbrev pub relied_by : ℕ → Option (List Entry) → List Setting → List Question
relied_by node None settings = []
relied_by node (Some dict) settings = relied_questions node dict settings

abbrev pub node_questions : ℕ → Option (List Entry) → List Setting → List Question
node_questions node dict settings = relied_by node dict settings ++ questions_about node settings

-- the questions whether nodes have what a plan with these identifiers relies on, and its settings, by what they told of their COB-IDs
abbrev pub settings_questions : Net → List ℕ → List Exchange → List ℕ → List Question
settings_questions net ids told nodes = flat_map (λ node. node_questions node (dictionary_of net node) (told_settings told node (node_settings net ids node))) nodes

-- a device can store what it has, where its EDS file has sub 1 of 1010h (CiA 301, "Store parameters")
abbrev pub can_store : Net → ℕ → Bool
can_store net node = is_some (option_and_then (λ dict. entry_at dict 0x1010 1) (dictionary_of net node))

-- a node is to store what it has: the bytes of "save" are written
abbrev pub storing : ℕ → Question
storing node = record { node = node; demand = Take; at = record { index = 0x1010; sub = 1 }; wanted = 0x65766173 }

-- each of some nodes is, where its device can
abbrev pub storing_at : Net → ℕ → List Question
storing_at net node = if can_store net node then storing node ∷ [] else []

abbrev pub storing_questions : Net → List ℕ → List Question
storing_questions net nodes = flat_map (storing_at net) nodes

-- where an answer leaves a node, and where the outcome of a question does: it is not asked only where it has booted up since
abbrev pub answer_leaves : Address → Answer → State
answer_leaves at answers.Wanted = Ready
answer_leaves at (answers.Other found) = Differs at found
answer_leaves at (answers.Aborted code) = Aborted at code

abbrev pub outcome_leaves : Address → Outcome → State
outcome_leaves at (outcomes.Answered answer) = answer_leaves at answer
outcome_leaves at outcomes.Silent = Silent
outcome_leaves at outcomes.Unasked = Restarting

abbrev pub standing_by : Exchange → State
standing_by asked = outcome_leaves asked.question.at asked.outcome

-- the first question to a node that was not answered as it should be tells where it stands
abbrev pub standing_read : ℕ → List Exchange → State
standing_read node [] = Ready
standing_read node (asked ∷ rest) = if (asked.question.node == node) && not (is_wanted asked.outcome) then standing_by asked else standing_read node rest

-- where a node stands by the end of its boot, and by what was read back; the boot of a node had ended, and it booted up since if it has
-- no end
abbrev pub standing_after : Option End → State → State
standing_after None told = Restarting
standing_after (Some ends.Ready) told = told
standing_after (Some (ends.Silent node)) told = Silent
standing_after (Some (ends.Restarting node)) told = Restarting
standing_after (Some (ends.Aborted node index sub code)) told = Aborted (record { index = index; sub = sub }) code

-- where a node stands: one that booted up since is restarting
abbrev pub standing_of : Managing → ReadBack → ℕ → State
standing_of m back node =
    if has_node back.booted node then Restarting else standing_after (end_at m.nodes node) (standing_read node back.exchanges.items)

-- the line of each node
abbrev pub standing_line : Managing → ReadBack → ℕ → NodeLine
standing_line m back node = record { node = node; state = standing_of m back node }

abbrev pub standing_lines : Managing → List ℕ → ReadBack → List NodeLine
standing_lines m nodes back = map (standing_line m back) nodes
