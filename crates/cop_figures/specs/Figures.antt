-- The numbers of a report.
use Rattle.std.specs.Prelude.{ℕ, ◌≡◌, ◌-◌, List, [], map, slice_get, Option, Some, None, unwrap_or, All}
use Rattle.cop_rta.specs.Test.{place_by_id}
use Rattle.cop_rta.specs.Verdict.{PassesBy}
use Rattle.cop_net.specs.Network.{Net}
use Rattle.cop_plan.specs.Values.{PlanValue, id_of}
use Rattle.cop_plan.specs.declared.assigning.Outcome.{Outcome}
use Rattle.cop_plan.specs.declared.assigning.Outcome.TheVariants.{Planned, Refused}
use Rattle.cop_figures.specs.declared.times.PdoTimes.{PdoTimes}
use Rattle.cop_figures.specs.declared.figures.Figures.{Figures}
use Rattle.cop_figures.specs.Loads.{AreLoads}
use Rattle.cop_figures.specs.Frames.{sync_times, AreFrames, TellsWhy}
use Rattle.cop_figures.specs.Reasons.{AreReasons}

-- what a deadline leaves behind the greatest response
abbrev pub left_of : Option ℕ → ℕ → ℕ
left_of deadline response = unwrap_or deadline 0 - response

-- a PDO of a plan: its stream under the plan's identifier, and its greatest response by the response-time test
pub record IsTimed (plan : PlanValue) (t : PdoTimes) : Type 0 where
  pub stream : slice_get plan.streams t.pdo ≡ Some t.stream
  pub id : t.stream.id ≡ id_of plan.ids t.pdo
  pub response : PassesBy (place_by_id plan.streams t.pdo plan.rate) t.response

-- the PDOs of a plan, that with the lowest identifier first
pub record AreTimes (plan : PlanValue) (times : List PdoTimes) : Type 0 where
  pub pdos : map (λ t. t.pdo) times ≡ plan.order
  pub each : All (IsTimed plan) times

-- the numbers of what a planner answers for a network
abbrev pub AreFigures : Net → Outcome → Figures → Type 0
AreFigures net (Planned plan) figures =
    (figures.rate ≡ Some plan.rate)
    × (figures.sync ≡ sync_times plan)
    × AreTimes plan figures.pdos.items
    × AreFrames net.set plan figures.frames.items
    × TellsWhy plan figures.frames.items
    × AreLoads net figures.loads.items
    × AreReasons net plan.refusals figures.refused.items
AreFigures net (Refused refusals) figures =
    (figures.rate ≡ None)
    × (figures.sync ≡ None)
    × (figures.pdos.items ≡ [])
    × (figures.frames.items ≡ [])
    × AreLoads net figures.loads.items
    × AreReasons net refusals figures.refused.items
