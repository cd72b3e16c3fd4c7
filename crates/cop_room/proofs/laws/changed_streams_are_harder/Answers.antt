use Rattle.cop_room.proofs.ChangeLemmas.{changed_harder}
use Rattle.cop_room.proofs.laws.changed_streams_are_harder.Goals as goal

pub returns : goal.returns
returns c = changed_harder
