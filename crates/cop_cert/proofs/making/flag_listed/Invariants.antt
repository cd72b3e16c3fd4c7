use Rattle.std.proofs.Common.{◌≡◌, ℕ, ◌||◌, drop}
use Rattle.cop_rta.specs.Test.{is_flagged}
use Rattle.cop_cert.specs.Evidence.{is_listed}
use Rattle.cop_cert.proofs.making.flag_listed.Given as goal

-- what is flagged, and what is left to flag
abbrev pub invariant-loop-pdo : goal.invariant-loop-pdo
invariant-loop-pdo l = record {
  flagged : (k : ℕ) → (is_flagged l.out k || is_listed (drop l.pdo-index l.pdos) k) ≡ (is_flagged l.fn.out k || is_listed l.pdos k);
}
