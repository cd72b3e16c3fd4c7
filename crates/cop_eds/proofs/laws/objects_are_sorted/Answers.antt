use Rattle.cop_eds.proofs.OrderLemmas.{objects_sorted}
use Rattle.cop_eds.proofs.laws.objects_are_sorted.Goals as goal

pub returns : goal.returns
returns c = objects_sorted
