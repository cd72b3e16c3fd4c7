use Rattle.cop_boot.proofs.PdoLemmas.{network_as_planned, records_as_planned}
use Rattle.cop_boot.proofs.laws.planned_pdos_exist.Goals as goal

pub returns-clause-entries : goal.returns-clause-entries
returns-clause-entries c = network_as_planned

pub returns-clause-records : goal.returns-clause-records
returns-clause-records c = records_as_planned
