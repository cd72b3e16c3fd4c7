-- The refusals of a network.
use Rattle.std.specs.Prelude.{ℕ, Option, Some, None, Result, Err}
use Rattle.cop_rows.specs.Refusals as rows
use Rattle.cop_setup.specs.declared.asking.AskFault.{AskFault}
use Rattle.cop_setup.specs.declared.asking.AskFault.TheVariants as asking
use Rattle.cop_net.specs.declared.faults.Table.TheVariants as tables
use Rattle.cop_net.specs.declared.faults.Rule.{Rule}
use Rattle.cop_net.specs.declared.faults.Rule.TheVariants as rules
use Rattle.cop_net.specs.declared.faults.Refusal.{Refusal}
use Rattle.cop_net.specs.declared.faults.PlanFault.{PlanFault}
use Rattle.cop_net.specs.declared.faults.PlanFault.TheVariants as faults

-- what the device refuses is 54; what its file does not have is 55
abbrev pub number_of_ask : AskFault → ℕ
number_of_ask (asking.Aborted _) = 54
number_of_ask asking.NoObject = 55
number_of_ask asking.NoNumbers = 55
number_of_ask asking.NoSuchNumber = 55

abbrev pub number_of_rule : Rule → ℕ
number_of_rule (rules.Record rule) = rows.number_of_rule rule
number_of_rule (rules.Eds _) = 43
number_of_rule (rules.Transmit _) = 45
number_of_rule (rules.CobId _) = 46
number_of_rule rules.Transmission = 47
number_of_rule (rules.Receive _ _) = 48
number_of_rule (rules.StaysOn _) = 50
number_of_rule rules.Heartbeat = 51
number_of_rule rules.NoRate = 52
number_of_rule (rules.Synchrony _) = 53
number_of_rule (rules.Asked _ _ fault) = number_of_ask fault

-- a fault's refusal, which want of memory has not
abbrev pub refusal : PlanFault → Option Refusal
refusal (faults.Refused r) = Some r
refusal faults.Memory = None

-- refused at a record of the table of nodes, or of PDOs
abbrev pub at_node : {A : Type 0} → Rule → ℕ → Result A Refusal
at_node rule place = Err (record { table = tables.Nodes; rule = rule; place = place })

abbrev pub at_pdo : {A : Type 0} → Rule → ℕ → Result A Refusal
at_pdo rule place = Err (record { table = tables.Pdos; rule = rule; place = place })

-- refused at a record of the table of settings
abbrev pub at_setting : {A : Type 0} → Rule → ℕ → Result A Refusal
at_setting rule place = Err (record { table = tables.Settings; rule = rule; place = place })
