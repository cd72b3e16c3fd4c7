use Rattle.cop_signals.proofs.DecodingLemmas.{decoded_value}
use Rattle.cop_signals.proofs.laws.decoded_is_unpacked.Goals as goal

pub returns : goal.returns
returns c = decoded_value
