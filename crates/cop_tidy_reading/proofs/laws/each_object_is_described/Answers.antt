use Rattle.cop_tidy_reading.proofs.DescribedLemmas.{all_described}
use Rattle.cop_tidy_reading.proofs.laws.each_object_is_described.Goals as goal

pub returns : goal.returns
returns c = all_described
