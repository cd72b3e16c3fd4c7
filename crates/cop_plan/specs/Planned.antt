-- What holds of each plan.
use Rattle.std.specs.Prelude.{◌≡◌, ℕ, ◌<◌, ◌≤◌, length}
use Rattle.cop_rta.specs.Ranges.{first_range, second_range}
use Rattle.cop_rta.specs.Greatest.{AreSynced}
use Rattle.cop_rta.specs.Test.{of_stream}
use Rattle.cop_cert.specs.Assignments.{IsAssignment, AreOutside}
use Rattle.cop_plan.specs.Orders.{IsByPriority}
use Rattle.cop_plan.specs.Values.{PlanValue, id_of, AreOnTime, HasTested}

-- The first streams are the PDOs, each under its identifier, of a range where no fixed frame has one; the second range is used where some SDO
-- frame has a deadline. The order has 181h first, then 182h and so on, then 680h and so on. Each PDO has a deadline and passes the
-- test, each SDO frame with a deadline passes it, and synchronous streams keep pace with SYNC.
pub record IsPlanned (plan : PlanValue) : Type 0 where
  pub count : length plan.ids ≤ length plan.streams
  pub few : length plan.ids ≤ 512
  pub its : (p : ℕ) → p < length plan.ids → of_stream (λ s. s.id) plan.streams p ≡ id_of plan.ids p
  pub assigned : IsAssignment (length plan.ids) (id_of plan.ids)
  pub lower : (p : ℕ) → p < length plan.ids → second_range.least ≤ id_of plan.ids p → HasTested plan.streams (length plan.ids)
  pub outside_first : AreOutside first_range plan.streams (length plan.ids)
  pub outside_second : AreOutside second_range plan.streams (length plan.ids)
  pub by_priority : IsByPriority (length plan.ids) (id_of plan.ids) plan.order
  pub on_time : AreOnTime plan.rate plan.streams (length plan.ids)
  pub synced : AreSynced plan.streams
