-- What a planner answers.
use Rattle.std.specs.Prelude.{◌≡◌, Bool, true, false, is_some, nat_lt, ℕ, ◌+◌, ◌<◌, ◌≤◌, List, [], ◌∷◌, length, All, AllPairs, Any, Contains}
use Rattle.cop_frame.specs.declared.rates.Rate.{Rate}
use Rattle.cop_frame.specs.Rate.{kbits_of}
use Rattle.cop_rta.specs.declared.streams.Stream.{Stream}
use Rattle.cop_cert.specs.declared.refusals.Refusal.{Refusal}
use Rattle.cop_rta.specs.Ranges.{first_range, second_range}
use Rattle.cop_rta.specs.Greatest.{AreSynced}
use Rattle.cop_cert.specs.declared.refusals.Cause.{Cause}
use Rattle.cop_cert.specs.declared.refusals.Cause.TheVariants.{Places, Sync, Sdo}
use Rattle.cop_cert.specs.declared.refusals.Member.{Member}
use Rattle.cop_cert.specs.Assignments.{id_at, AreOutside, IsTested, IsPassing, NoAssignmentPasses}
use Rattle.cop_cert.specs.Causes.{kept, PassesBelow, IsRefusal}
use Rattle.cop_cert.specs.Sets.{IsRefusalSet, IsGreatestRefusalSet, IsGreatestStuckSet}
use Rattle.cop_cert.specs.Evidence.{is_member}
use Rattle.cop_cert.specs.Chains.{IsMade}
use Rattle.cop_plan.specs.Margins.{IsChosenOrder}
use Rattle.cop_plan.specs.Orders.{IsByPriority}
use Rattle.cop_plan.specs.declared.assigning.Outcome.{Outcome}
use Rattle.cop_plan.specs.declared.choices.Choice.{Choice}
use Rattle.cop_plan.specs.declared.choices.Choice.TheVariants as choices
use Rattle.cop_plan.specs.declared.assigning.Outcome.TheVariants.{Planned, Refused}
use Rattle.cop_plan.specs.Values.{PlanValue, id_of, HaveIds, HaveDeadlines, ArePdosHigh}

-- the first streams can be planned as PDOs
pub record CanAssign (streams : List Stream) (pdos : ℕ) : Type 0 where
  pub count : pdos ≤ length streams
  pub few : pdos ≤ 512
  pub deadlines : HaveDeadlines streams pdos
  pub provisional : ArePdosHigh streams pdos
  pub outside_first : AreOutside first_range streams pdos
  pub outside_second : AreOutside second_range streams pdos
  pub synced : AreSynced streams

-- the frames with deadlines that fail below the kept PDOs, of which one has the lowest identifier; the kept ones are the greatest set that
-- cannot stand in the second range, and no PDOs are a refusal set of the first
pub record IsGreatestSdo (rate : Rate) (streams : List Stream) (pdos : ℕ) (up : List Member) (id : ℕ) : Type 0 where
  pub none : (members : ℕ → Bool) → IsRefusalSet first_range.least rate streams pdos members → ⊥
  pub greatest : pdos ≤ second_range.count → IsGreatestStuckSet second_range.least rate streams pdos (λ k. nat_lt k pdos) (is_member up)
  pub lowest : (f : ℕ) → IsTested streams pdos f → (PassesBelow rate streams pdos (kept pdos (is_member up)) f → ⊥) → id ≤ id_at streams f

-- the greatest refusal set, or the frame with the lowest identifier
abbrev pub IsGreatestCause : Rate → List Stream → ℕ → Cause → Type 0
IsGreatestCause rate streams pdos (Places members) = IsGreatestRefusalSet first_range.least rate streams pdos (is_member members)
IsGreatestCause rate streams pdos (Sync busy) = Unit {0}
IsGreatestCause rate streams pdos (Sdo up id evidence) = IsGreatestSdo rate streams pdos up id

-- the greatest refusal of a rate, with the whole chains, which the check accepts
pub record IsGreatestRefusal (streams : List Stream) (pdos : ℕ) (r : Refusal) : Type 0 where
  pub greatest : IsGreatestCause r.rate streams pdos r.cause
  pub made : IsMade streams pdos r
  pub holds : IsRefusal streams pdos r

-- such refusals by rising rate, one for each of some rates and for no other
pub record AreRefusals (streams : List Stream) (pdos : ℕ) (Are : Rate → Type 0) (refusals : List Refusal) : Type 0 where
  pub rise : AllPairs (λ r s. kbits_of r.rate < kbits_of s.rate) refusals
  pub only : All (λ r. Are r.rate) refusals
  pub every : (rate : Rate) → Are rate → Any (λ r. r.rate ≡ rate) refusals
  pub each : All (IsGreatestRefusal streams pdos) refusals

-- a candidate below a rate
abbrev pub IsSlower : List Rate → Rate → Rate → Type 0
IsSlower rates than rate = Contains rates rate × (kbits_of rate < kbits_of than)

-- a plan at the slowest candidate at which some assignment passes, with a refusal for each slower one
pub record IsPlan (rates : List Rate) (streams : List Stream) (pdos : ℕ) (plan : PlanValue) : Type 0 where
  pub candidate : Contains rates plan.rate
  pub count : length plan.ids ≡ pdos
  pub passing : IsPassing plan.rate streams pdos (id_of plan.ids)
  pub order : IsChosenOrder plan.margin plan.rate streams pdos (id_of plan.ids)
  pub by_priority : IsByPriority pdos (id_of plan.ids) plan.order
  pub slowest : (rate : Rate) → IsSlower rates plan.rate rate → NoAssignmentPasses rate streams pdos
  pub refused : AreRefusals streams pdos (IsSlower rates plan.rate) plan.refusals
  pub renamed : HaveIds streams pdos (id_of plan.ids) plan.streams

-- no candidate has a passing assignment, and there is a refusal for each
pub record AreAllRefused (rates : List Rate) (streams : List Stream) (pdos : ℕ) (refusals : List Refusal) : Type 0 where
  pub none : (rate : Rate) → Contains rates rate → NoAssignmentPasses rate streams pdos
  pub refused : AreRefusals streams pdos (Contains rates) refusals

abbrev pub IsOutcome : List Rate → List Stream → ℕ → Outcome → Type 0
IsOutcome rates streams pdos (Planned plan) = IsPlan rates streams pdos plan
IsOutcome rates streams pdos (Refused refusals) = AreAllRefused rates streams pdos refusals

-- a plan by the greatest margin has one
abbrev pub is_by_margin : Choice → Bool
is_by_margin choices.Order = false
is_by_margin choices.Margin = true

abbrev pub IsChosenBy : Choice → Outcome → Type 0
IsChosenBy choice (Planned plan) = is_some plan.margin ≡ is_by_margin choice
IsChosenBy choice (Refused refusals) = Unit {0}

-- at how many rates it was tried
abbrev pub rates_tried : Outcome → ℕ
rates_tried (Planned plan) = length plan.refusals + 1
rates_tried (Refused refusals) = length refusals

-- how many members a cause has of which each was tried, and at how many rates places were filled
abbrev pub members_of : Cause → ℕ
members_of (Places members) = length members
members_of (Sync busy) = 0
members_of (Sdo up id evidence) = 0

abbrev pub members_in : List Refusal → ℕ
members_in [] = 0
members_in (r ∷ rs) = members_of r.cause + members_in rs

abbrev pub is_filled : Cause → ℕ
is_filled (Places members) = 1
is_filled (Sync busy) = 0
is_filled (Sdo up id evidence) = 1

abbrev pub filled_in : List Refusal → ℕ
filled_in [] = 0
filled_in (r ∷ rs) = is_filled r.cause + filled_in rs

-- how many trials it takes at least: one for each member of a refusal by places, and one for each PDO that got its place
abbrev pub least_trials : ℕ → Outcome → ℕ
least_trials pdos (Planned plan) = members_in plan.refusals + pdos
least_trials pdos (Refused refusals) = members_in refusals

-- how many busy times it takes at least, where there is a PDO: one for each rate at which places were filled
abbrev pub least_busy : Outcome → ℕ
least_busy (Planned plan) = filled_in plan.refusals + 1
least_busy (Refused refusals) = filled_in refusals
