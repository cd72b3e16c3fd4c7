-- The numbers of evidence that a planner makes are small.
use Rattle.std.specs.Prelude.{ℕ, ◌^◌, ◌<◌, ◌≤◌, List, All}
use Rattle.cop_rta.specs.Test.{horizon}
use Rattle.cop_cert.specs.declared.refusals.Cause.{Cause}
use Rattle.cop_cert.specs.declared.refusals.Cause.TheVariants.{Places, Sync, Sdo}
use Rattle.cop_cert.specs.declared.refusals.Evidence.{Evidence}
use Rattle.cop_cert.specs.declared.refusals.Evidence.TheVariants.{Long, Late}
use Rattle.cop_cert.specs.declared.refusals.Member.{Member}
use Rattle.cop_cert.specs.declared.refusals.Refusal.{Refusal}
use Rattle.cop_cert.specs.Evidence.{last_of}

-- no instance that is queued within the horizon has a greater number
abbrev pub most_instances : ℕ
most_instances = 2 ^ 21

-- the queue list ends within the horizon, and the instance's number is small
abbrev pub IsMeasured : Evidence → Type 0
IsMeasured (Long busy) = Unit {0}
IsMeasured (Late q busy queue) = (q ≤ most_instances) × (last_of queue ≤ horizon)

-- the same of members, which are some of so many streams
abbrev pub AreMeasured : ℕ → List Member → Type 0
AreMeasured count members = All (λ m. (m.pdo < count) × IsMeasured m.evidence) members

-- the same of all evidence of a cause that is shown
abbrev pub IsMeasuredCause : ℕ → Cause → Type 0
IsMeasuredCause count (Places members) = AreMeasured count members
IsMeasuredCause count (Sync busy) = Unit {0}
IsMeasuredCause count (Sdo up id evidence) = AreMeasured count up × IsMeasured evidence

abbrev pub IsMeasuredRefusal : ℕ → Refusal → Type 0
IsMeasuredRefusal count r = IsMeasuredCause count r.cause
