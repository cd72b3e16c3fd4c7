use Rattle.std.proofs.Common.{ℕ, ◌<◌, ◌≤◌}
use Rattle.cop_rta.specs.Ranges.{IsOutside}
use Rattle.cop_cert.specs.Assignments.{id_at}
use Rattle.cop_plan.proofs.assigning.are_outside.Given as goal

abbrev pub invariant-loop-k : goal.invariant-loop-k
invariant-loop-k l = (k : ℕ) → l.pdos ≤ k → k < l.k → IsOutside l.range (id_at l.streams k)
