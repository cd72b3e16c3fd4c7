use Rattle.std.proofs.Common.{ℕ, ◌≡◌, ◌<◌, ◌≤◌, length, get_or, All}
use Rattle.cop_cert.specs.Assignments.{least_id}
use Rattle.cop_plan.specs.Orders.{id_at_place}
use Rattle.cop_plan.specs.Values.{id_of}
use Rattle.cop_plan.proofs.plans.identifiers.Given as goal

abbrev pub invariant-loop-place : goal.invariant-loop-place
invariant-loop-place l = record {
  count : length l.ids.items ≡ length l.order;
  range : All (λ id. id < 2048) l.ids.items;
  permitted : All (λ id. least_id ≤ id) l.ids.items;
  places : (i : ℕ) → i < l.place → id_of l.ids.items (get_or l.order i 0) ≡ id_at_place l.first i;
}
