use Rattle.cop_dict.proofs.PatternLemmas.{own_number}
use Rattle.cop_dict.proofs.laws.bytes_are_their_number.Goals as goal

pub returns : goal.returns
returns c = own_number
