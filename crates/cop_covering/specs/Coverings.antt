-- Refusals of each rate that a plan refuses.
use Rattle.std.specs.Prelude.{◌≡◌, ◌↔◌, Bool, List, length, All, Any, IsTrue}
use Rattle.cop_frame.specs.declared.rates.Rate.{Rate}
use Rattle.cop_cert.specs.declared.refusals.Refusal.{Refusal}
use Rattle.cop_net.specs.Network.{Net}
use Rattle.cop_plan.specs.declared.assigning.Outcome.{Outcome}
use Rattle.cop_plan.specs.declared.assigning.Outcome.TheVariants.{Planned, Refused}
use Rattle.cop_plan.specs.Plans.{IsOutcome}

-- some refusal is of a rate
unfoldable pub IsCovered : List Refusal → Rate → Type 0
IsCovered refusals rate = Any (λ r. r.rate ≡ rate) refusals

-- of the rate of each that is wanted some refusal is
unfoldable pub AreCovered : List Refusal → List Refusal → Type 0
AreCovered refusals wanted = All (λ r. IsCovered refusals r.rate) wanted

-- some refusal is of each rate that a planner refuses: of each candidate below the rate of a plan, or of each where no rate passes
abbrev pub CoversOutcome : List Refusal → Outcome → Type 0
CoversOutcome refusals (Planned plan) = AreCovered refusals plan.refusals
CoversOutcome refusals (Refused wanted) = AreCovered refusals wanted

-- whether some refusal is of each rate that the plan of a network refuses
pub record CoversNetwork (net : Net) (refusals : List Refusal) (covers : Bool) : Type 0 where
  pub outcome : Outcome
  pub planned : IsOutcome net.equipment.rates net.set (length net.rows) outcome
  pub covers_is : IsTrue covers ↔ CoversOutcome refusals outcome
