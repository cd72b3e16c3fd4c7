use Rattle.cop_dcf.proofs.RoundLemmas.{round}
use Rattle.cop_dcf.proofs.laws.round_trip.Goals as goal

pub returns : goal.returns
returns c = round
