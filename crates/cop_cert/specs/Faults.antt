-- Rules of a refusal file, and the records that break them.
use Rattle.std.specs.Prelude.{ℕ, Option, Some, None, Result, Ok, Err}
use Rattle.cop_cert.specs.declared.faults.Rule.{Rule}
use Rattle.cop_cert.specs.declared.faults.Rule.TheVariants as rules
use Rattle.cop_cert.specs.declared.faults.Breach.{Breach}
use Rattle.cop_cert.specs.declared.faults.CertFault.{CertFault}
use Rattle.cop_cert.specs.declared.faults.CertFault.TheVariants as faults

abbrev pub number_of_rule : Rule → ℕ
number_of_rule rules.Fields = 30
number_of_rule rules.Version = 31
number_of_rule rules.Number = 32
number_of_rule rules.Rates = 33
number_of_rule rules.Members = 34
number_of_rule rules.Misplaced = 35
number_of_rule rules.TooLong = 36

-- a fault's breach, which want of memory has not
abbrev pub breach_of : CertFault → Option Breach
breach_of (faults.Refused b) = Some b
breach_of faults.Memory = None

abbrev pub refuse : {A : Type 0} → Rule → ℕ → Result A Breach
refuse rule place = Err (record { rule = rule; place = place })

abbrev pub placed : {A : Type 0} → ℕ → Result A Rule → Result A Breach
placed place (Ok x) = Ok x
placed place (Err rule) = refuse rule place
