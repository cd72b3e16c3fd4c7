use Rattle.std.proofs.Common.{rules}
use Rattle.cop_sdo.proofs.session.Session.give.Goals as goal

-- written here so that a body that breaks it is refused at once
pub returns-clause-exact : goal.returns-clause-exact
returns-clause-exact c = search rules

pub returns-clause-in_place : goal.returns-clause-in_place
returns-clause-in_place c = search rules
