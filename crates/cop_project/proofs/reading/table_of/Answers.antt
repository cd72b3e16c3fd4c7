use Rattle.cop_project.proofs.Tables.{is_table, no_table}
use Rattle.cop_project.proofs.reading.table_of.Goals as goal

pub no_toml-requires : goal.no_toml-requires
no_toml-requires c = λ m. no_table _ (c.in-Err.ensures.refused m)

pub returns-in-Ok-clause-ok : goal.returns-in-Ok-clause-ok
returns-in-Ok-clause-ok c = is_table _ _ c.in-Ok.ensures.ok.0 c.in-Ok.ensures.ok.1
