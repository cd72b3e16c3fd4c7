use Rattle.std.proofs.Common.{◌≡◌, ℕ, ◌<◌, ◌||◌, drop, length}
use Rattle.cop_rta.specs.Test.{is_flagged}
use Rattle.cop_cert.specs.Evidence.{is_listed}
use Rattle.cop_plan.proofs.assigning.flag_kept.Given as goal

-- what is flagged, and what is left to flag
abbrev pub invariant-loop-pdo : goal.invariant-loop-pdo
invariant-loop-pdo l = record {
  size : length l.out ≡ l.pdos;
  flagged : (k : ℕ) → k < l.pdos → (is_flagged l.out k || is_listed (drop l.pdo-index l.listed) k) ≡ (l.many || is_listed l.listed k);
}
