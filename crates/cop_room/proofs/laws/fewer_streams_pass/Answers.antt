use Rattle.cop_room.proofs.ByIdentifier.{fewer_passes}
use Rattle.cop_room.proofs.OneMore.{one_fewer}
use Rattle.cop_room.proofs.laws.fewer_streams_pass.Goals as goal

pub returns-clause-some : goal.returns-clause-some
returns-clause-some c = fewer_passes

pub returns-clause-one : goal.returns-clause-one
returns-clause-one c = one_fewer
