-- The devices of a planned network are asked over a port whether they are as planned, and nothing is written to them.
use Rattle.std.specs.Prelude.{◌≡◌, ◌⊎◌, ℕ, List, [], ◌∷◌, Bool}
use Rattle.cop_frame.specs.declared.rates.Rate.{Rate}
use Rattle.cop_net.specs.Devices.{File}
use Rattle.cop_net.specs.Network.{Net}
use Rattle.cop_plan.specs.declared.assigning.Outcome.{Outcome}
use Rattle.cop_plan.specs.declared.assigning.Outcome.TheVariants.{Planned, Refused}
use Rattle.cop_plan.specs.declared.choices.Asked as choices
use Rattle.cop_live.specs.Log.{ByteStep, ClockStep}
use Rattle.cop_identity.specs.declared.asking.Exchange.{Exchange}
use Rattle.cop_boot_answer.specs.Answers.{Told}
use Rattle.cop_engine.specs.Networks.{IsPlannedNetwork}
use Rattle.cop_commission.specs.Commissioning.{meant_nodes}
use Rattle.cop_survey.specs.Reaching.{IsLeft}
use Rattle.cop_survey.specs.Surveying.{IsAnswered, SurveyFails, SurveyStops}
use Rattle.cop_verify.specs.declared.verifying.Way.{Way}
use Rattle.cop_verify.specs.declared.verifying.Verified.{Verified}
use Rattle.cop_verify.specs.declared.verifying.Verified.TheVariants.{Asked, Left, Absent, NonePasses, Failed}
use Rattle.cop_verify.specs.Checks.{checks_of}
use Rattle.cop_verify.specs.Telling.{verify_answer, are_planned}

-- these nodes were asked all that a plan with these identifiers and a rate has them asked; this is said of each, and whether each is as planned
pub record HasAsked {P : Type 0} (reads writes : ByteStep P) (asks : ClockStep P) (net : Net) (rate : Rate) (ids nodes : List ℕ) (ticks : ℕ) (p q : P) (answer : Told) (all : List Exchange) (planned : Bool) (at : Rate) : Type 0 where
  pub surveyed : IsAnswered reads writes asks rate ticks (checks_of net ids nodes) p all q
  pub says : answer ≡ verify_answer nodes all
  pub are : planned ≡ are_planned answer.nodes
  pub rated : at ≡ rate

-- what came of it, with so many ticks before each question
abbrev pub IsVerified : {P : Type 0} → ByteStep P → ByteStep P → ClockStep P → ByteStep P → Net → Rate → List ℕ → List ℕ → ℕ → P → P → Verified → Type 0
IsVerified reads writes asks fails net rate ids nodes ticks p q (Asked answer all planned at) = HasAsked reads writes asks net rate ids nodes ticks p q answer all.items planned at
IsVerified reads writes asks fails net rate ids nodes ticks p q (Left reason at) = IsLeft reads writes asks rate reason p q × (at ≡ rate)
IsVerified reads writes asks fails net rate ids nodes ticks p q Absent = ⊥
IsVerified reads writes asks fails net rate ids nodes ticks p q NonePasses = ⊥
IsVerified reads writes asks fails net rate ids nodes ticks p q Failed = SurveyFails reads writes asks fails rate ticks (checks_of net ids nodes) p q

-- where there is no such node nothing is done at the port
abbrev pub IsVerifiedOrAbsent : {P : Type 0} → ByteStep P → ByteStep P → ClockStep P → ByteStep P → Net → Rate → List ℕ → List ℕ → ℕ → P → P → Verified → Type 0
IsVerifiedOrAbsent reads writes asks fails net rate ids [] ticks p q verified = (verified ≡ Absent) × (p ≡ q)
IsVerifiedOrAbsent reads writes asks fails net rate ids (node ∷ nodes) ticks p q verified = IsVerified reads writes asks fails net rate ids (node ∷ nodes) ticks p q verified

-- what came of it for the nodes that are meant, by what the planner answers: where no rate passes nothing is done at the port
abbrev pub IsVerifiedFor : {P : Type 0} → ByteStep P → ByteStep P → ClockStep P → ByteStep P → Net → Outcome → Way → P → P → Verified → Type 0
IsVerifiedFor reads writes asks fails net (Planned plan) way p q verified = IsVerifiedOrAbsent reads writes asks fails net plan.rate plan.ids (meant_nodes net way.only) way.pause p q verified
IsVerifiedFor reads writes asks fails net (Refused refusals) way p q verified = (verified ≡ NonePasses) × (p ≡ q)

-- what came of it for the network that the tables and the EDS files say, by what is asked of its plan
pub record IsVerifying {P : Type 0} (reads writes : ByteStep P) (asks : ClockStep P) (fails : ByteStep P) (asked : choices.Asked) (nodes pdos : List ℕ) (eds : List File) (way : Way) (p q : P) (verified : Verified) : Type 0 where
  pub outcome : Outcome
  pub network : IsPlannedNetwork asked nodes pdos eds outcome
  pub met : IsVerifiedFor reads writes asks fails network.net outcome way p q verified

-- there was no memory for more: nothing was done yet; or some questions were asked; or all were
abbrev pub VerifyStops : {P : Type 0} → ByteStep P → ByteStep P → ClockStep P → Net → Rate → List ℕ → List ℕ → ℕ → P → P → Type 0
VerifyStops {P} reads writes asks net rate ids nodes ticks p q =
    (p ≡ q) ⊎ (SurveyStops reads writes asks rate ticks (checks_of net ids nodes) p q ⊎ ((all : List Exchange) × IsAnswered reads writes asks rate ticks (checks_of net ids nodes) p all q))

abbrev pub StopsFor : {P : Type 0} → ByteStep P → ByteStep P → ClockStep P → Net → Outcome → Way → P → P → Type 0
StopsFor reads writes asks net (Planned plan) way p q = VerifyStops reads writes asks net plan.rate plan.ids (meant_nodes net way.only) way.pause p q
StopsFor reads writes asks net (Refused refusals) way p q = ⊥

-- a rule was broken, or there was no memory: nothing was done at the port, or so much of that network's questions
pub record VerifyingStops {P : Type 0} (reads writes : ByteStep P) (asks : ClockStep P) (asked : choices.Asked) (nodes pdos : List ℕ) (eds : List File) (way : Way) (p q : P) : Type 0 where
  pub outcome : Outcome
  pub network : IsPlannedNetwork asked nodes pdos eds outcome
  pub stops : StopsFor reads writes asks network.net outcome way p q
