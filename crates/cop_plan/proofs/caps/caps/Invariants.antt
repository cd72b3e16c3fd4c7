use Rattle.std.proofs.Common.{◌≡◌, ℕ, ◌<◌, get_or, length}
use Rattle.cop_plan.specs.Caps.{cap_of}
use Rattle.cop_plan.proofs.caps.caps.Given as goal

abbrev pub invariant-loop-k : goal.invariant-loop-k
invariant-loop-k l = record {
  count : length l.caps.items ≡ l.k;
  each : (k : ℕ) → k < l.k → get_or l.caps.items k 0 ≡ cap_of l.rate l.set l.pdos k;
}
