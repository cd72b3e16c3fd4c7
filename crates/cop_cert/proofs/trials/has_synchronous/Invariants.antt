use Rattle.std.proofs.Common.{ℕ, ◌<◌, ◌≤◌}
use Rattle.cop_rta.specs.Test.{of_stream}
use Rattle.cop_cert.proofs.trials.has_synchronous.Given as goal

abbrev pub invariant-loop-k : goal.invariant-loop-k
invariant-loop-k l = (p : ℕ) → p < l.k → p < l.pdos → 1 ≤ of_stream (λ s. s.every) l.streams p → ⊥
