use Rattle.cop_room.proofs.ByIdentifier.{harder_place_responds}
use Rattle.cop_room.proofs.laws.harder_places_respond_later.Goals as goal

pub returns : goal.returns
returns c = harder_place_responds
