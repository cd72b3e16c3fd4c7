use Rattle.std.proofs.Common.{◌≡◌, ◌+◌, ◌-◌, ◌*◌, ◌<◌, ◌≤◌, ℕ, MatchOption}
use Rattle.cop_plan.specs.Found.{ArePlannedWith, NoneFrom}
use Rattle.cop_plan.specs.Caps.{CanHave}
use Rattle.cop_plan.proofs.MarginSteps.{HasHalvings}
use Rattle.cop_plan.proofs.margins.greatest_margin.Given as goal

-- some assignment reaches the margin, some stream can have each below what is above, and no assignment reaches that
abbrev pub invariant-loop-above : goal.invariant-loop-above
invariant-loop-above l = record {
  apart : l.margin < l.above;
  most : l.above ≤ 240000001;
  within : (margin : ℕ) → margin < l.above → 1 ≤ margin → CanHave l.rate l.set l.pdos margin;
  fails : NoneFrom l.rate l.set l.pdos l.above;
  kept : MatchOption l.placing (l.margin ≡ 0) (λ placing. ArePlannedWith l.margin l.rate l.set l.pdos placing.lower.items placing.upper.items);
  rises : l.fn.count.trials ≤ l.count.trials;
  trials : HasHalvings (l.above - l.margin) (2 * l.count.trials) (2 * l.fn.count.trials + 28 * (3 * (l.pdos * (l.pdos + 1)))) (3 * (l.pdos * (l.pdos + 1)));
  busy_rises : l.fn.count.busy ≤ l.count.busy;
  busy : HasHalvings (l.above - l.margin) l.count.busy (l.fn.count.busy + 28 * (3 * l.pdos)) (3 * l.pdos);
}

abbrev pub decreases-loop-above : goal.decreases-loop-above
decreases-loop-above l = l.above - l.margin
