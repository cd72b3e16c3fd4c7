use Rattle.cop_engine.proofs.RoundLemmas.{are_read_again}
use Rattle.cop_engine.proofs.guarantee.dcf_round_trip.Goals as goal

pub returns : goal.returns
returns c = λ asked nodes pdos eds files f. are_read_again asked.rates nodes pdos eds f.network.net f.network.said f.outcome f.network.planned
