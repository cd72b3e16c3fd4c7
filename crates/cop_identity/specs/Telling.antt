-- What devices tell once they have been reset.
use Rattle.std.specs.Prelude.{◌≡◌, ◌⊎◌, ℕ, Bool, ◌&&◌, List, [], ◌∷◌, filter, ◌==◌, Option, Some, None, if◌then◌else◌}
use Rattle.std.specs.Option.{option_or}
use Rattle.cop_sdo.specs.declared.address.Address.{Address}
use Rattle.cop_live.specs.Log.{ByteStep, ClockStep}
use Rattle.cop_live.specs.Nodes.{has_node}
use Rattle.cop_live.specs.Awaiting.{Awoke, AwaitFails}
use Rattle.cop_identity.specs.declared.questions.Question.{Question}
use Rattle.cop_identity.specs.declared.questions.Answer.{Answer}
use Rattle.cop_identity.specs.declared.questions.Answer.TheVariants.{Wanted, Other, Aborted}
use Rattle.cop_identity.specs.declared.asking.Outcome.{Outcome}
use Rattle.cop_identity.specs.declared.asking.Outcome.TheVariants.{Answered, Silent, Unasked}
use Rattle.cop_identity.specs.declared.asking.Exchange.{Exchange}
use Rattle.cop_identity.specs.Asking.{AskedAll, AskingFails, AskedSome}

-- of questions those to nodes that booted up
abbrev pub of_booted : List Bool → List Question → List Question
of_booted booted questions = filter (λ question. has_node booted question.node) questions

-- the communication of one node alone or of all is reset, the boot-ups of some nodes are awaited for so many ticks at most, and those that
-- booted up are asked
pub record AreTold {P : Type 0} (reads writes : ByteStep P) (asks : ClockStep P) (only : Option ℕ) (nodes : List ℕ) (limit : ℕ) (questions : List Question) (p : P) (all : List Exchange) (q : P) : Type 0 where
  pub booted : List Bool
  pub awake : P
  pub awakes : Awoke reads writes asks only nodes limit p booted awake
  pub asked : AskedAll reads writes asks (of_booted booted questions) awake all q

-- and where there is no question nothing is done
abbrev pub WereTold : {P : Type 0} → ByteStep P → ByteStep P → ClockStep P → Option ℕ → List ℕ → ℕ → List Question → P → List Exchange → P → Type 0
WereTold reads writes asks only nodes limit [] p all q = (all ≡ []) × (p ≡ q)
WereTold reads writes asks only nodes limit (question ∷ rest) p all q = AreTold reads writes asks only nodes limit (question ∷ rest) p all q

-- the reset gave out, or the boot-ups that were awaited; or a question to those that booted up
abbrev pub TellFails : {P : Type 0} → ByteStep P → ByteStep P → ClockStep P → ByteStep P → Option ℕ → List ℕ → ℕ → List Question → P → P → Type 0
TellFails reads writes asks fails only nodes limit [] p q = ⊥
TellFails {P} reads writes asks fails only nodes limit (question ∷ rest) p q =
    AwaitFails reads writes asks fails only p q ⊎ ((booted : List Bool) × (awake : P) × Awoke reads writes asks only nodes limit p booted awake × AskingFails reads writes asks fails (of_booted booted (question ∷ rest)) awake q)

-- the boot-ups were awaited, and the first ones of the questions to those that booted up were asked
abbrev pub ToldSome : {P : Type 0} → ByteStep P → ByteStep P → ClockStep P → Option ℕ → List ℕ → ℕ → List Question → P → P → Type 0
ToldSome reads writes asks only nodes limit [] p q = ⊥
ToldSome {P} reads writes asks only nodes limit (question ∷ rest) p q =
    (booted : List Bool) × (awake : P) × Awoke reads writes asks only nodes limit p booted awake × AskedSome reads writes asks (of_booted booted (question ∷ rest)) awake q

-- the value that an answer tells
abbrev pub answer_tells : ℕ → Answer → Option ℕ
answer_tells wanted Wanted = Some wanted
answer_tells wanted (Other found) = Some found
answer_tells wanted (Aborted code) = None

abbrev pub outcome_tells : ℕ → Outcome → Option ℕ
outcome_tells wanted (Answered answer) = answer_tells wanted answer
outcome_tells wanted Silent = None
outcome_tells wanted Unasked = None

abbrev pub told_by : Exchange → Option ℕ
told_by asked = outcome_tells asked.question.wanted asked.outcome

-- the value that a node told of an object at a question
abbrev pub told_of : ℕ → Address → Exchange → Option ℕ
told_of node at asked = if (asked.question.node == node) && ((asked.question.at.index == at.index) && (asked.question.at.sub == at.sub)) then told_by asked else None

-- and the last time that it did
abbrev pub told_at : ℕ → Address → List Exchange → Option ℕ
told_at node at [] = None
told_at node at (asked ∷ rest) = option_or (told_at node at rest) (told_of node at asked)
