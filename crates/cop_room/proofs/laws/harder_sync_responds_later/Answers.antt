use Rattle.cop_room.proofs.ByIdentifier.{harder_sync}
use Rattle.cop_room.proofs.laws.harder_sync_responds_later.Goals as goal

pub returns : goal.returns
returns c = harder_sync
