use Rattle.cop_room.proofs.ByIdentifier.{greatest_decides}
use Rattle.cop_room.proofs.laws.greatest_response_decides.Goals as goal

pub returns : goal.returns
returns c = greatest_decides
