use Rattle.cop_net.proofs.FixedLemmas.{knows_none}
use Rattle.cop_net.proofs.frames.by_place.Goals as goal

pub loop-number-init : goal.loop-number-init
loop-number-init c = knows_none _
