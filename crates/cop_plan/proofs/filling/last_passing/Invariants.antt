use Rattle.std.proofs.Common.{ℕ, ◌≡◌, ◌<◌, ◌≤◌, ◌+◌, ◌-◌, true}
use Rattle.cop_rta.specs.Test.{Passes, is_flagged}
use Rattle.cop_rta.specs.Placing.{place_in}
use Rattle.cop_rta.specs.Sums.{sum_where}
use Rattle.cop_plan.proofs.filling.last_passing.Given as goal

abbrev pub invariant-loop-done : goal.invariant-loop-done
invariant-loop-done l = record {
  failed : (r : ℕ) → r < l.pdos → l.pdos ≤ r + l.done → is_flagged l.place.flags r ≡ true → Passes (place_in l.place r) → ⊥;
  busy : l.count.busy ≡ l.fn.count.busy;
  rises : l.fn.count.trials ≤ l.count.trials;
  few : l.count.trials ≤ l.fn.count.trials + l.done;
  trials : l.count.trials + sum_where (is_flagged l.place.flags) (λ _. 1) (l.pdos - l.done) ≤ l.fn.count.trials + sum_where (is_flagged l.place.flags) (λ _. 1) l.pdos;
  each : l.fn.count.trials + sum_where (is_flagged l.place.flags) (λ _. 1) l.pdos ≤ l.count.trials + sum_where (is_flagged l.place.flags) (λ _. 1) (l.pdos - l.done);
}
