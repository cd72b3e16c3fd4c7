use Rattle.cop_cert.proofs.FileLemmas.{file_read, filed_hold, filed_rates}
use Rattle.cop_cert.proofs.laws.files_hold.Goals as goal

pub returns-clause-read : goal.returns-clause-read
returns-clause-read c = file_read

pub returns-clause-hold : goal.returns-clause-hold
returns-clause-hold c = filed_hold

pub returns-clause-rates : goal.returns-clause-rates
returns-clause-rates c = filed_rates
