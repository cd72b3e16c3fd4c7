-- Devices that take the values that they left the factory with (CiA 301, object 1011h, "restore default parameters"), and what is said of them.
use Rattle.std.specs.Prelude.{ℕ, Bool, true, false, List, [], ◌∷◌, map, is_some, if◌then◌else◌, Some}
use Rattle.std.specs.List.{flat_map, list_any}
use Rattle.std.specs.Option.{option_map_or}
use Rattle.cop_dict.specs.Find.{entry_at}
use Rattle.cop_net.specs.Network.{Net}
use Rattle.cop_dcf.specs.Settings.{dictionary_of}
use Rattle.cop_boot_answer.specs.declared.states.State.{State}
use Rattle.cop_boot_answer.specs.declared.states.State.TheVariants as states
use Rattle.cop_boot_answer.specs.declared.answers.NodeLine.{NodeLine}
use Rattle.cop_boot_answer.specs.Answers.{Told}
use Rattle.cop_identity.specs.declared.questions.Demand.TheVariants.{Take}
use Rattle.cop_identity.specs.declared.questions.Question.{Question}
use Rattle.cop_identity.specs.declared.questions.Answer.{Answer}
use Rattle.cop_identity.specs.declared.questions.Answer.TheVariants as answers
use Rattle.cop_identity.specs.declared.asking.Outcome.{Outcome}
use Rattle.cop_identity.specs.declared.asking.Outcome.TheVariants as outcomes
use Rattle.cop_identity.specs.declared.asking.Exchange.{Exchange}
use Rattle.cop_commission.specs.Identities.{finding_of, finding_said}

-- the device of a node can take them: it has 1011h sub 1
abbrev pub can_restore : Net → ℕ → Bool
can_restore net node = option_map_or (λ dict. is_some (entry_at dict 0x1011 1)) (dictionary_of net node) false

-- a node is told so: the bytes of "load" are written
abbrev pub restoring : ℕ → Question
restoring node = record { node = node; demand = Take; at = record { index = 0x1011; sub = 1 }; wanted = 0x64616F6C }

abbrev pub restoring_at : Net → ℕ → List Question
restoring_at net node = if can_restore net node then restoring node ∷ [] else []

-- each of some nodes is, where its device can
abbrev pub restoring_questions : Net → List ℕ → List Question
restoring_questions net nodes = flat_map (restoring_at net) nodes

-- the same where it is asked for
abbrev pub restores_for : Bool → Net → List ℕ → List Question
restores_for true net nodes = restoring_questions net nodes
restores_for false net nodes = []

-- a device has not taken what it was to take
abbrev pub is_untaken_answer : Answer → Bool
is_untaken_answer answers.Wanted = false
is_untaken_answer (answers.Other found) = true
is_untaken_answer (answers.Aborted code) = true

abbrev pub is_untaken : Outcome → Bool
is_untaken (outcomes.Answered answer) = is_untaken_answer answer
is_untaken outcomes.Silent = true
is_untaken outcomes.Unasked = true

-- some device has not
abbrev pub has_untaken : List Exchange → Bool
has_untaken all = list_any (λ exchange. is_untaken exchange.outcome) all

-- what is said of a node that was told so; `restored` where it has taken them
abbrev pub restoring_said : State → State
restoring_said states.AsPlanned = states.Restored
restoring_said state = state

abbrev pub restoring_line : List Exchange → ℕ → NodeLine
restoring_line all node = record { node = node; state = restoring_said (finding_said (finding_of node all)) }

-- the line of each, and that they were not started
abbrev pub restoring_answer : List ℕ → List Exchange → Told
restoring_answer nodes all = record { nodes = map (restoring_line all) nodes; started = Some false; heartbeats = [] }
