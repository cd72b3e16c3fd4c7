use Rattle.std.proofs.Common.{rules}
use Rattle.cop_sdo.proofs.client.Client.download.Goals as goal

-- written here so that a body that breaks it is refused at once
pub returns-in-Ok-clause-exact : goal.returns-in-Ok-clause-exact
returns-in-Ok-clause-exact c = search rules

pub returns-in-Ok-clause-in_place : goal.returns-in-Ok-clause-in_place
returns-in-Ok-clause-in_place c = search rules

pub returns-in-Err-clause-in_place : goal.returns-in-Err-clause-in_place
returns-in-Err-clause-in_place c = search rules
