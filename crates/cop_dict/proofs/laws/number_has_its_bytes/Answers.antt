use Rattle.cop_dict.proofs.PatternLemmas.{own_bytes}
use Rattle.cop_dict.proofs.laws.number_has_its_bytes.Goals as goal

pub returns : goal.returns
returns c = own_bytes
