-- What came of a verification of the nodes that are meant, where there are some, and where memory was wanting.
use Rattle.std.proofs.Common.{◌≡◌, ℕ, ◌≤◌, List, [], ◌∷◌, Bool, length, subst, arith, inl, inr}
use Rattle.std.specs.Prelude.{Result, Ok, Err, IfOk, OnErr}
use Rattle.cop_frame.specs.declared.rates.Rate.{Rate}
use Rattle.cop_net.specs.Network.{Net}
use Rattle.cop_live.specs.Log.{ByteStep, ClockStep}
use Rattle.cop_identity.specs.declared.questions.Question.{Question}
use Rattle.cop_identity.specs.declared.asking.Exchange.{Exchange}
use Rattle.cop_boot_answer.specs.Answers.{Told}
use Rattle.cop_survey.specs.Surveying.{IsAnswered, SurveyFails, SurveyStops}
use Rattle.cop_verify.specs.declared.verifying.Verified.{Verified}
use Rattle.cop_verify.specs.Checks.{checks_of}
use Rattle.cop_verify.specs.Telling.{verify_answer, are_planned}
use Rattle.cop_verify.specs.Verifying.{HasAsked, IsVerified, IsVerifiedOrAbsent, VerifyStops}

module _ {P : Type 0} (reads writes : ByteStep P) (asks : ClockStep P) (fails : ByteStep P) (net : Net) (rate : Rate) (ids : List ℕ) (ticks : ℕ) (p q : P) where
  met_so : (nodes : List ℕ) (verified : Verified) → 1 ≤ length nodes → IsVerified reads writes asks fails net rate ids nodes ticks p q verified → IsVerifiedOrAbsent reads writes asks fails net rate ids nodes ticks p q verified
  met_so [] verified some met = absurd (omega arith)
  met_so (node ∷ nodes) verified some met = met

  pub verified_so : {E : Type 0} (nodes meant : List ℕ) (result : Result Verified E) → nodes ≡ meant → 1 ≤ length nodes → IfOk result (λ verified. IsVerified reads writes asks fails net rate ids nodes ticks p q verified)
      → IfOk result (λ verified. IsVerifiedOrAbsent reads writes asks fails net rate ids meant ticks p q verified)
  verified_so nodes meant (Ok verified) e some met = subst (λ (ns : List ℕ). IsVerifiedOrAbsent reads writes asks fails net rate ids ns ticks p q verified) e (met_so nodes verified some met)
  verified_so nodes meant (Err fault) e some met = tt

  pub stopped_so : {E : Type 0} (nodes meant : List ℕ) (result : Result Verified E) → nodes ≡ meant → OnErr result (VerifyStops reads writes asks net rate ids nodes ticks p q) → OnErr result (VerifyStops reads writes asks net rate ids meant ticks p q)
  stopped_so nodes meant result e h = subst (λ (ns : List ℕ). OnErr result (VerifyStops reads writes asks net rate ids ns ticks p q)) e h

-- the rate and the questions are those of the plan
module _ {P : Type 0} (reads writes : ByteStep P) (asks : ClockStep P) (net : Net) (rate at : Rate) (ids nodes : List ℕ) (ticks : ℕ) (questions : List Question) (er : at ≡ rate) (eq : questions ≡ checks_of net ids nodes) (p q : P) where
  answered_so : (all : List Exchange) → IsAnswered reads writes asks at ticks questions p all q → IsAnswered reads writes asks rate ticks (checks_of net ids nodes) p all q
  answered_so all h = subst (λ (qs : List Question). IsAnswered reads writes asks rate ticks qs p all q) eq (subst (λ (r : Rate). IsAnswered reads writes asks r ticks questions p all q) er h)

  pub asked_so : (answer : Told) (all : List Exchange) (planned : Bool) → IsAnswered reads writes asks at ticks questions p all q → answer ≡ verify_answer nodes all → planned ≡ are_planned answer.nodes
      → HasAsked reads writes asks net rate ids nodes ticks p q answer all planned at
  asked_so answer all planned h says are = record { surveyed = answered_so all h; says = says; are = are; rated = er }

  pub fails_so : (fails : ByteStep P) → SurveyFails reads writes asks fails at ticks questions p q → SurveyFails reads writes asks fails rate ticks (checks_of net ids nodes) p q
  fails_so fails h =
      subst (λ (qs : List Question). SurveyFails reads writes asks fails rate ticks qs p q) eq (subst (λ (r : Rate). SurveyFails reads writes asks fails r ticks questions p q) er h)

  pub stops_so : SurveyStops reads writes asks at ticks questions p q → VerifyStops reads writes asks net rate ids nodes ticks p q
  stops_so h =
      inr (inl (subst (λ (qs : List Question). SurveyStops reads writes asks rate ticks qs p q) eq (subst (λ (r : Rate). SurveyStops reads writes asks r ticks questions p q) er h)))

  pub untold_so : (all : List Exchange) → IsAnswered reads writes asks at ticks questions p all q → VerifyStops reads writes asks net rate ids nodes ticks p q
  untold_so all h = inr (inr (all, answered_so all h))
