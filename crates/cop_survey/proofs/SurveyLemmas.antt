-- What came of a survey over a bus that was reached.
use Rattle.std.proofs.Common.{ℕ, List, inr}
use Rattle.std.specs.Prelude.{Result, Ok, Err, IfOk, OnErr}
use Rattle.cop_frame.specs.declared.rates.Rate.{Rate}
use Rattle.cop_identity.specs.declared.questions.Question.{Question}
use Rattle.cop_live.specs.Log.{ByteStep, ClockStep}
use Rattle.cop_survey.specs.declared.surveying.Surveyed.{Surveyed}
use Rattle.cop_survey.specs.declared.surveying.Surveyed.TheVariants.{Asked, Left, Failed}
use Rattle.cop_survey.specs.Asking.{AskedSome}
use Rattle.cop_survey.specs.Reaching.{IsOpened}
use Rattle.cop_survey.specs.Surveying.{IsSurvey, Asks, if_failed, AsksFail, SurveyFails, SurveyStops}

module _ {P : Type 0} (reads writes : ByteStep P) (asks : ClockStep P) (rate : Rate) (ticks : ℕ) (questions : List Question) (p reached q : P) (opens : IsOpened reads writes asks rate p reached) where
  asked_by : (survey : Surveyed) → Asks reads writes asks ticks questions reached q survey → IsSurvey reads writes asks rate ticks questions p q survey
  asked_by (Asked all) h = record { reached = reached; opens = opens; asked = h }
  asked_by (Left reason) h = absurd h
  asked_by Failed h = tt

  pub asked_so : {E : Type 0} (result : Result Surveyed E) → IfOk result (λ survey. Asks reads writes asks ticks questions reached q survey) → IfOk result (λ survey. IsSurvey reads writes asks rate ticks questions p q survey)
  asked_so (Ok survey) h = asked_by survey h
  asked_so (Err e) h = tt

  failed_by : (fails : ByteStep P) (survey : Surveyed) → if_failed survey (AsksFail reads writes asks fails ticks questions reached q) → if_failed survey (SurveyFails reads writes asks fails rate ticks questions p q)
  failed_by fails (Asked all) h = tt
  failed_by fails (Left reason) h = tt
  failed_by fails Failed h = inr (reached, opens, h)

  pub failed_so : {E : Type 0} (fails : ByteStep P) (result : Result Surveyed E) → IfOk result (λ survey. if_failed survey (AsksFail reads writes asks fails ticks questions reached q))
      → IfOk result (λ survey. if_failed survey (SurveyFails reads writes asks fails rate ticks questions p q))
  failed_so fails (Ok survey) h = failed_by fails survey h
  failed_so fails (Err e) h = tt

  pub stopped_so : {E : Type 0} (result : Result Surveyed E) → OnErr result (AskedSome reads writes asks ticks questions reached q) → OnErr result (SurveyStops reads writes asks rate ticks questions p q)
  stopped_so (Ok survey) h = tt
  stopped_so (Err e) h = (reached, opens, h)
