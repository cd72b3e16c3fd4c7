use Rattle.cop_room.proofs.ByIdentifier.{harder_place_passes}
use Rattle.cop_room.proofs.laws.harder_places_pass_less.Goals as goal

pub returns : goal.returns
returns c = harder_place_passes
