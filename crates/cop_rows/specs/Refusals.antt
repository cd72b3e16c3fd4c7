-- The refusals of a table.
use Rattle.std.specs.Prelude.{ℕ, Option, Some, None, Result, Ok, Err}
use Rattle.cop_rows.specs.declared.refusals.Rule.{Rule}
use Rattle.cop_rows.specs.declared.refusals.Rule.TheVariants as rules
use Rattle.cop_rows.specs.declared.refusals.Refusal.{Refusal}
use Rattle.cop_rows.specs.declared.refusals.RowFault.{RowFault}
use Rattle.cop_rows.specs.declared.refusals.RowFault.TheVariants as faults
use Rattle.cop_rows.specs.declared.refusals.RecordFault.{RecordFault}
use Rattle.cop_rows.specs.declared.refusals.RecordFault.TheVariants as records

abbrev pub number_of_rule : Rule → ℕ
number_of_rule rules.Header = 40
number_of_rule rules.Fields = 40
number_of_rule (rules.Value column) = 41
number_of_rule rules.RowRepeated = 42
number_of_rule rules.NoDevice = 42
number_of_rule rules.PdoRepeated = 44
number_of_rule rules.Full = 49
number_of_rule rules.NotSettable = 57

-- a fault's refusal, which want of memory has not
abbrev pub refusal : RowFault → Option Refusal
refusal (faults.Refused r) = Some r
refusal faults.Memory = None

abbrev pub refuse : {A : Type 0} → Rule → ℕ → Result A Refusal
refuse rule place = Err (record { rule = rule; place = place })

-- what breaks a rule, with its record
abbrev pub placed : {A : Type 0} → ℕ → Result A Rule → Result A Refusal
placed place (Ok x) = Ok x
placed place (Err rule) = refuse rule place

-- the rule of a record's fault, which want of memory has not
abbrev pub broken : RecordFault → Option Rule
broken (records.Broken rule) = Some rule
broken records.Memory = None

abbrev pub fault_at : ℕ → RecordFault → RowFault
fault_at place (records.Broken rule) = faults.Refused (record { rule = rule; place = place })
fault_at place records.Memory = faults.Memory
