use Rattle.std.proofs.Common.{◌≡◌, ℕ, ◌<◌, false, length}
use Rattle.cop_rta.specs.Test.{is_flagged}
use Rattle.cop_cert.specs.Sets.{is_in_trial}
use Rattle.cop_plan.proofs.caps.flag_fixed.Given as goal

abbrev pub invariant-loop-k : goal.invariant-loop-k
invariant-loop-k l = record {
  size : length l.out ≡ length l.streams;
  flagged : (k : ℕ) → k < l.k → is_flagged l.out k ≡ is_in_trial l.bound l.streams l.pdos (λ _. false) k;
}
