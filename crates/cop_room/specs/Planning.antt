-- Plans that are made in trials.
use Rattle.std.specs.Prelude.{ℕ, ◌≡◌, ◌-◌, List, length, get_or, unwrap_or}
use Rattle.cop_frame.specs.declared.rates.Rate.{Rate}
use Rattle.cop_rta.specs.declared.streams.Stream.{Stream}
use Rattle.cop_rta.specs.declared.verdicts.Verdict.{Verdict}
use Rattle.cop_rta.specs.declared.verdicts.Verdict.TheVariants.{Long}
use Rattle.cop_rta.specs.Verdict.{response_of}
use Rattle.cop_cert.specs.Assignments.{IsPassing}
use Rattle.cop_plan.specs.Caps.{deadline_of}
use Rattle.cop_plan.specs.Orders.{IsPlanOrder}
use Rattle.cop_plan.specs.Values.{PlanValue, HaveIds, id_of}
use Rattle.cop_room.specs.Changes.{AreChanged, with_deadlines}

-- a plan by the order of plans, at a rate
pub record IsPlannedAt (rate : Rate) (streams : List Stream) (pdos : ℕ) (plan : PlanValue) : Type 0 where
  pub rate_is : plan.rate ≡ rate
  pub count : length plan.ids ≡ pdos
  pub passing : IsPassing rate streams pdos (id_of plan.ids)
  pub order : IsPlanOrder rate streams pdos (id_of plan.ids)
  pub renamed : HaveIds streams pdos (id_of plan.ids) plan.streams

-- the same with all deadlines in so many thousandths
pub record IsPlannedWith (part : ℕ) (rate : Rate) (streams : List Stream) (pdos : ℕ) (plan : PlanValue) : Type 0 where
  pub longer : List Stream
  pub are_longer : AreChanged (with_deadlines part) streams longer
  pub planned : IsPlannedAt rate longer pdos plan

-- what is left of the deadline of stream k, by what the test says
abbrev pub left_in : List Stream → List Verdict → ℕ → ℕ
left_in streams verdicts k = unwrap_or (deadline_of streams k) 0 - response_of (get_or verdicts k Long)
