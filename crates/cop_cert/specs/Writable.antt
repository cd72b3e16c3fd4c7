-- Refusals that a file holds.
use Rattle.std.specs.Prelude.{ℕ, ◌<◌, ◌≤◌, ◌^◌, List, length, All, AllPairs}
use Rattle.cop_frame.specs.Rate.{kbits_of}
use Rattle.cop_cert.specs.declared.refusals.Evidence.{Evidence}
use Rattle.cop_cert.specs.declared.refusals.Evidence.TheVariants.{Long, Late}
use Rattle.cop_cert.specs.declared.refusals.Cause.{Cause}
use Rattle.cop_cert.specs.declared.refusals.Cause.TheVariants.{Places, Sync, Sdo}
use Rattle.cop_cert.specs.declared.refusals.Member.{Member}
use Rattle.cop_cert.specs.declared.refusals.Refusal.{Refusal}
use Rattle.cop_cert.specs.Assignments.{IsSdo}

-- a list of 1 to 200,000 numbers of 64 bits
pub record IsWritableList (numbers : List ℕ) : Type 0 where
  pub some : 0 < length numbers
  pub count : length numbers ≤ 200000
  pub fit : All (λ n. n < 2 ^ 64) numbers

abbrev pub IsWritableEvidence : Evidence → Type 0
IsWritableEvidence (Long busy) = IsWritableList busy
IsWritableEvidence (Late q busy queue) = (q < 2 ^ 64) × IsWritableList busy × IsWritableList queue

-- members, of the first 512 PDOs, that rise
pub record AreWritableMembers (members : List Member) : Type 0 where
  pub rise : AllPairs (λ m n. m.pdo < n.pdo) members
  pub inside : All (λ m. m.pdo < 512) members
  pub evidence : All (λ m. IsWritableEvidence m.evidence) members

abbrev pub IsWritableCause : Cause → Type 0
IsWritableCause (Places members) = (0 < length members) × AreWritableMembers members
IsWritableCause (Sync busy) = IsWritableList busy
IsWritableCause (Sdo up id evidence) = AreWritableMembers up × IsSdo id × IsWritableEvidence evidence

abbrev pub IsWritableRefusal : Refusal → Type 0
IsWritableRefusal refusal = IsWritableCause refusal.cause

-- refusals whose rates rise
pub record AreWritable (refusals : List Refusal) : Type 0 where
  pub rise : AllPairs (λ r s. kbits_of r.rate < kbits_of s.rate) refusals
  pub each : All IsWritableRefusal refusals
