use Rattle.cop_dict.proofs.ExistingLemmas.{mapping_stays, identifier_stays}
use Rattle.cop_dict.proofs.laws.existing_pdos_stay.Goals as goal

pub returns-clause-mapping : goal.returns-clause-mapping
returns-clause-mapping c = mapping_stays

pub returns-clause-identifier : goal.returns-clause-identifier
returns-clause-identifier c = identifier_stays
