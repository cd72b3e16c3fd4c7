use Rattle.cop_dcf.proofs.DeviceLemmas.{node_round}
use Rattle.cop_dcf.proofs.laws.node_round_trip.Goals as goal

pub returns : goal.returns
returns c = node_round
