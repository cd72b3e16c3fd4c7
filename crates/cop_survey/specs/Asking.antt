-- Devices are asked over a port, with a pause before each question.
use Rattle.std.specs.Prelude.{◌≡◌, ◌<◌, ◌≤◌, ◌⊎◌, ℕ, ◌-◌, Bool, true, false, List, [], ◌∷◌, ◌++◌, map, Option, None}
use Rattle.std.specs.List.{AllByRecursion}
use Rattle.cop_live.specs.Log as log
use Rattle.cop_live.specs.Log.{ByteStep, ClockStep, DidAll, GaveUp}
use Rattle.cop_live.specs.Listening.{listening_log}
use Rattle.cop_identity.specs.declared.questions.Question.{Question}
use Rattle.cop_identity.specs.declared.asking.Outcome.{Outcome}
use Rattle.cop_identity.specs.declared.asking.Outcome.TheVariants.{Unasked}
use Rattle.cop_identity.specs.declared.asking.Exchange.{Exchange}
use Rattle.cop_identity.specs.Asking.{WasAsked, AskFails, is_silent, silent_after, silent_by}

-- nothing is written for so many ticks: the clock is asked, and turns are taken, each sooner after that than they have passed; then the clock
-- says that they have
pub record Pauses {P : Type 0} (reads writes : ByteStep P) (asks : ClockStep P) (ticks : ℕ) (p q : P) : Type 0 where
  pub began : ℕ
  pub turns : List (ℕ × List ℕ)
  pub waited : P
  pub until : ℕ
  pub did : DidAll reads writes asks p (log.Asked began ∷ listening_log turns) waited
  pub soon : AllByRecursion (λ turn. turn.0 - began < ticks) turns
  pub looks : asks waited until q
  pub long : ticks ≤ until - began

-- a pause gave out: the look at the clock, or the turns
abbrev pub PauseFails : {P : Type 0} → ByteStep P → ByteStep P → ClockStep P → ByteStep P → P → P → Type 0
PauseFails reads writes asks fails p q = (began : ℕ) × (turns : List (ℕ × List ℕ)) × GaveUp reads writes asks fails turns p (log.Asked began ∷ listening_log turns) q

-- a question is asked behind a pause
pub record AsksLater {P : Type 0} (reads writes : ByteStep P) (asks : ClockStep P) (ticks : ℕ) (question : Question) (p : P) (outcome : Outcome) (q : P) : Type 0 where
  pub paused : P
  pub pauses : Pauses reads writes asks ticks p paused
  pub asked : WasAsked reads writes asks question paused outcome q

-- a question to the node that was silent is left out, and any other one is asked
abbrev pub WasNext : {P : Type 0} → ByteStep P → ByteStep P → ClockStep P → ℕ → Bool → Question → P → Outcome → P → Type 0
WasNext reads writes asks ticks true question p outcome q = (outcome ≡ Unasked) × (p ≡ q)
WasNext reads writes asks ticks false question p outcome q = AsksLater reads writes asks ticks question p outcome q

-- questions in their order, and what came of each: nothing else is done at the port
abbrev pub WereAsked : {P : Type 0} → ByteStep P → ByteStep P → ClockStep P → ℕ → Option ℕ → P → List Exchange → P → Type 0
WereAsked reads writes asks ticks silent p [] q = p ≡ q
WereAsked {P} reads writes asks ticks silent p (asked ∷ rest) q =
    (m : P) × WasNext reads writes asks ticks (is_silent silent asked.question.node) asked.question p asked.outcome m
    × WereAsked reads writes asks ticks (silent_after silent asked.question.node asked.outcome) m rest q

-- these questions were asked, each once
pub record AskedAll {P : Type 0} (reads writes : ByteStep P) (asks : ClockStep P) (ticks : ℕ) (questions : List Question) (p : P) (all : List Exchange) (q : P) : Type 0 where
  pub each : map (λ asked. asked.question) all ≡ questions
  pub were : WereAsked reads writes asks ticks None p all q

-- a question gave out, which is not left out: the pause before it, or what it is asked by
abbrev pub NextFails : {P : Type 0} → ByteStep P → ByteStep P → ClockStep P → ByteStep P → ℕ → Bool → Question → P → P → Type 0
NextFails reads writes asks fails ticks true question p q = ⊥
NextFails {P} reads writes asks fails ticks false question p q =
    PauseFails reads writes asks fails p q ⊎ ((paused : P) × Pauses reads writes asks ticks p paused × AskFails reads writes asks fails question paused q)

-- the first ones of these questions were asked, each once, and the next one gave out
pub record AskingFails {P : Type 0} (reads writes : ByteStep P) (asks : ClockStep P) (fails : ByteStep P) (ticks : ℕ) (questions : List Question) (p q : P) : Type 0 where
  pub all : List Exchange
  pub next : Question
  pub rest : List Question
  pub between : P
  pub each : map (λ asked. asked.question) all ++ next ∷ rest ≡ questions
  pub were : WereAsked reads writes asks ticks None p all between
  pub failed : NextFails reads writes asks fails ticks (is_silent (silent_by None all) next.node) next between q

-- the first ones of these questions were asked, each once
pub record AskedSome {P : Type 0} (reads writes : ByteStep P) (asks : ClockStep P) (ticks : ℕ) (questions : List Question) (p q : P) : Type 0 where
  pub all : List Exchange
  pub rest : List Question
  pub each : map (λ asked. asked.question) all ++ rest ≡ questions
  pub were : WereAsked reads writes asks ticks None p all q
