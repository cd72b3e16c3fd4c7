-- The tables, whose refusals stand in them.
use Rattle.std.specs.Prelude.{Result, Ok, Err}
use Rattle.cop_rows.specs.declared.refusals.Refusal as rows
use Rattle.cop_net.specs.declared.faults.Table.{Table}
use Rattle.cop_net.specs.declared.faults.Rule.TheVariants as rules
use Rattle.cop_net.specs.declared.faults.Refusal.{Refusal}

-- what a table says, or its refusal
abbrev pub in_table : {A : Type 0} → Table → Result A rows.Refusal → Result A Refusal
in_table table (Ok x) = Ok x
in_table table (Err refusal) = Err (record { table = table; rule = rules.Record refusal.rule; place = refusal.place })
