use Rattle.cop_setup.proofs.NumberLemmas.{all_numbers}
use Rattle.cop_setup.proofs.laws.taken_are_numbers.Goals as goal

pub returns : goal.returns
returns c = all_numbers
