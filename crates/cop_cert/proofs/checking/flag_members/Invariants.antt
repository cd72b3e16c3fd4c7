use Rattle.std.proofs.Common.{◌≡◌, ℕ, ◌||◌, drop}
use Rattle.cop_rta.specs.Test.{is_flagged}
use Rattle.cop_cert.specs.Evidence.{is_member}
use Rattle.cop_cert.proofs.checking.flag_members.Given as goal

-- what is flagged, and what is left to flag
abbrev pub invariant-loop-member : goal.invariant-loop-member
invariant-loop-member l = record {
  flagged : (k : ℕ) → (is_flagged l.out k || is_member (drop l.member-index l.members) k) ≡ (is_flagged l.fn.out k || is_member l.members k);
}
