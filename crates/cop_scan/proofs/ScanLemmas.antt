-- What came of a scan, where it gave out, and that each of its questions reads.
use Rattle.std.proofs.Common.{◌≡◌, ℕ, List, [], ◌∷◌, refl, subst, inl, inr}
use Rattle.std.specs.List.{AllByRecursion}
use Rattle.cop_frame.specs.declared.rates.Rate.{Rate}
use Rattle.cop_sdo.specs.declared.address.Address.{Address}
use Rattle.cop_live.specs.Log.{ByteStep, ClockStep}
use Rattle.cop_identity.specs.declared.questions.Question.{Question}
use Rattle.cop_identity.specs.declared.asking.Exchange.{Exchange}
use Rattle.cop_survey.specs.Surveying.{IsAnswered, SurveyFails, SurveyStops}
use Rattle.cop_scan.specs.declared.scanning.Found.{Found}
use Rattle.cop_scan.specs.Scanning.{device_type, vendor, product, revision, question, questions_of, found_in, HasSeen, ScanStops}
use Rattle.cop_scan.specs.Laws.{IsRead}

-- ---- each question reads

read : (node : ℕ) (at : Address) → IsRead (question node at)
read node at = record { to_it = refl; reads = refl; whole = refl }

pub all_read : (nodes : List ℕ) → AllByRecursion IsRead (questions_of nodes)
all_read [] = tt
all_read (n ∷ ns) = (read n device_type, (read n vendor, (read n product, (read n revision, all_read ns))))

-- ---- the questions are those of the nodes

module _ {P : Type 0} (reads writes : ByteStep P) (asks : ClockStep P) (rate : Rate) (ticks : ℕ) (nodes : List ℕ) (questions : List Question) (eq : questions ≡ questions_of nodes) (p q : P) where
  answered_so : (all : List Exchange) → IsAnswered reads writes asks rate ticks questions p all q → IsAnswered reads writes asks rate ticks (questions_of nodes) p all q
  answered_so all h = subst (λ (qs : List Question). IsAnswered reads writes asks rate ticks qs p all q) eq h

  pub seen_so : (all : List Exchange) (found : List Found) → IsAnswered reads writes asks rate ticks questions p all q → found ≡ found_in nodes all → HasSeen reads writes asks rate ticks nodes p q found
  seen_so all found h is = record { all = all; answered = answered_so all h; is = is }

  pub fails_so : (fails : ByteStep P) → SurveyFails reads writes asks fails rate ticks questions p q → SurveyFails reads writes asks fails rate ticks (questions_of nodes) p q
  fails_so fails h = subst (λ (qs : List Question). SurveyFails reads writes asks fails rate ticks qs p q) eq h

  pub stops_so : SurveyStops reads writes asks rate ticks questions p q → ScanStops reads writes asks rate ticks nodes p q
  stops_so h = inr (inl (subst (λ (qs : List Question). SurveyStops reads writes asks rate ticks qs p q) eq h))

  pub untold_so : (all : List Exchange) → IsAnswered reads writes asks rate ticks questions p all q → ScanStops reads writes asks rate ticks nodes p q
  untold_so all h = inr (inr (all, answered_so all h))
