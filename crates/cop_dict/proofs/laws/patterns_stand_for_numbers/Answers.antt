use Rattle.cop_dict.proofs.PatternLemmas.{stands_for}
use Rattle.cop_dict.proofs.laws.patterns_stand_for_numbers.Goals as goal

pub returns : goal.returns
returns c = stands_for
