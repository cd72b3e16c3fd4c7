use Rattle.cop_room.proofs.ByIdentifier.{harder_passes}
use Rattle.cop_room.proofs.laws.harder_streams_pass_less.Goals as goal

pub returns : goal.returns
returns c = harder_passes
