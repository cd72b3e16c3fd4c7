-- A survey of devices over a port, from the opening of the adapter to its closing.
use Rattle.std.specs.Prelude.{◌⊎◌, ℕ, List}
use Rattle.cop_frame.specs.declared.rates.Rate.{Rate}
use Rattle.cop_live.specs.Log.{ByteStep, ClockStep}
use Rattle.cop_live.specs.Session.{Closed, CloseFails}
use Rattle.cop_identity.specs.declared.questions.Question.{Question}
use Rattle.cop_identity.specs.declared.asking.Exchange.{Exchange}
use Rattle.cop_survey.specs.declared.surveying.Surveyed.{Surveyed}
use Rattle.cop_survey.specs.declared.surveying.Surveyed.TheVariants.{Asked, Left, Failed}
use Rattle.cop_survey.specs.Asking.{AskedAll, AskingFails, AskedSome}
use Rattle.cop_survey.specs.Reaching.{IsOpened, IsLeft, ReachFails}

-- questions were asked over an open adapter, which was closed then
pub record AskedAndClosed {P : Type 0} (reads writes : ByteStep P) (asks : ClockStep P) (ticks : ℕ) (questions : List Question) (p : P) (all : List Exchange) (q : P) : Type 0 where
  pub known : P
  pub asked : AskedAll reads writes asks ticks questions p all known
  pub closes : Closed reads writes known q

-- the bus was reached, and these questions were asked, with so many ticks before each: nothing else was sent
pub record IsAnswered {P : Type 0} (reads writes : ByteStep P) (asks : ClockStep P) (rate : Rate) (ticks : ℕ) (questions : List Question) (p : P) (all : List Exchange) (q : P) : Type 0 where
  pub reached : P
  pub opens : IsOpened reads writes asks rate p reached
  pub asked : AskedAndClosed reads writes asks ticks questions reached all q

-- what came of a survey
abbrev pub IsSurvey : {P : Type 0} → ByteStep P → ByteStep P → ClockStep P → Rate → ℕ → List Question → P → P → Surveyed → Type 0
IsSurvey reads writes asks rate ticks questions p q (Asked all) = IsAnswered reads writes asks rate ticks questions p all.items q
IsSurvey reads writes asks rate ticks questions p q (Left reason) = IsLeft reads writes asks rate reason p q
IsSurvey reads writes asks rate ticks questions p q Failed = Unit {0}

-- what came of the questions over an open adapter
abbrev pub Asks : {P : Type 0} → ByteStep P → ByteStep P → ClockStep P → ℕ → List Question → P → P → Surveyed → Type 0
Asks reads writes asks ticks questions p q (Asked all) = AskedAndClosed reads writes asks ticks questions p all.items q
Asks reads writes asks ticks questions p q (Left reason) = ⊥
Asks reads writes asks ticks questions p q Failed = Unit {0}

-- what holds where the port failed
abbrev pub if_failed : Surveyed → Type 0 → Type 0
if_failed (Asked all) claim = Unit {0}
if_failed (Left reason) claim = Unit {0}
if_failed Failed claim = claim

-- the questions over an open adapter gave out, or it was not closed behind them
abbrev pub AsksFail : {P : Type 0} → ByteStep P → ByteStep P → ClockStep P → ByteStep P → ℕ → List Question → P → P → Type 0
AsksFail {P} reads writes asks fails ticks questions p q =
    AskingFails reads writes asks fails ticks questions p q
    ⊎ ((all : List Exchange) × (known : P) × AskedAll reads writes asks ticks questions p all known × CloseFails reads writes fails known q)

-- the survey gave out: the bus was not reached; or the questions gave out
abbrev pub SurveyFails : {P : Type 0} → ByteStep P → ByteStep P → ClockStep P → ByteStep P → Rate → ℕ → List Question → P → P → Type 0
SurveyFails {P} reads writes asks fails rate ticks questions p q =
    ReachFails reads writes asks fails rate p q ⊎ ((reached : P) × IsOpened reads writes asks rate p reached × AsksFail reads writes asks fails ticks questions reached q)

-- there was no memory for what came of a question
abbrev pub SurveyStops : {P : Type 0} → ByteStep P → ByteStep P → ClockStep P → Rate → ℕ → List Question → P → P → Type 0
SurveyStops {P} reads writes asks rate ticks questions p q = (reached : P) × IsOpened reads writes asks rate p reached × AskedSome reads writes asks ticks questions reached q
