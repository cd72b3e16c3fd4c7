use Rattle.cop_table.specs.Records.{are_same}
use Rattle.cop_table.proofs.RecordLemmas.{position_mapped}
use Rattle.cop_table.proofs.records.header_of.Goals as goal

pub returns-clause-place : goal.returns-clause-place
returns-clause-place c = position_mapped (are_same c.args.row.now) _ c.args.headers.now c.place_of.result c.place_of.ensures.place
