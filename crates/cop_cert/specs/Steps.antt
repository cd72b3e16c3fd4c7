-- Faults of a step of the reading.
use Rattle.std.specs.Prelude.{ℕ, Option, Some, None}
use Rattle.cop_cert.specs.declared.faults.Rule.{Rule}
use Rattle.cop_cert.specs.declared.faults.CertFault.{CertFault}
use Rattle.cop_cert.specs.declared.faults.CertFault.TheVariants as cert
use Rattle.cop_cert.specs.declared.drafts.StepFault.{StepFault}
use Rattle.cop_cert.specs.declared.drafts.StepFault.TheVariants as faults

-- the rule that is broken, which want of memory has not
abbrev pub rule_of : StepFault → Option Rule
rule_of (faults.Broken rule) = Some rule
rule_of faults.OutOfMemory = None

-- the fault of a step at a record
abbrev pub fault_at : ℕ → StepFault → CertFault
fault_at place (faults.Broken rule) = cert.Refused (record { rule = rule; place = place })
fault_at place faults.OutOfMemory = cert.Memory
