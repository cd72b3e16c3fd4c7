use Rattle.std.proofs.Common.{arith, rules}
use Rattle.std.proofs.lemmas.Grind.{common_steps}
use Rattle.cop_rta.proofs.place.Place.among.Goals as goal

-- written here so that a body that breaks it is refused at once
pub shared_time-busy-requires-clause-blocking : goal.shared_time-busy-requires-clause-blocking
shared_time-busy-requires-clause-blocking c = search rules

pub invariant_of-result : goal.invariant_of-result
invariant_of-result c = grind (arith, common_steps)
