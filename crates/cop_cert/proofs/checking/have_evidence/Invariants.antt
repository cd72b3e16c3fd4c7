use Rattle.std.proofs.Common.{◌≡◌, ℕ, ◌<◌, true, length, take, All}
use Rattle.cop_rta.specs.Test.{flagged_place, is_flagged}
use Rattle.cop_cert.specs.Evidence.{IsBusyEnd, IsEvidence}
use Rattle.cop_cert.proofs.checking.have_evidence.Given as goal

-- the list of the member before, and the members so far
abbrev pub invariant-loop-member : goal.invariant-loop-member
invariant-loop-member l = record {
  known : (k : ℕ) → k < length l.at.streams → is_flagged l.above k ≡ true → IsBusyEnd (flagged_place l.at.streams l.above k l.at.rate) l.before l.end;
  shown : All (λ m. IsEvidence (flagged_place l.at.streams l.above m.pdo l.at.rate) m.evidence) (take l.member-index l.members);
}
