use Rattle.cop_dict.proofs.AloneLemmas.{written_alone}
use Rattle.cop_dict.proofs.laws.accepted_by_the_entry.Goals as goal

pub returns : goal.returns
returns c dict index sub bytes e at free = written_alone dict index sub bytes e at free
