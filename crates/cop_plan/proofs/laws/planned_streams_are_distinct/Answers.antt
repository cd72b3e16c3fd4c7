use Rattle.cop_plan.proofs.RenameLemmas.{distinct_renamed}
use Rattle.cop_plan.specs.Values.{id_of}
use Rattle.cop_plan.proofs.laws.planned_streams_are_distinct.Goals as goal

pub returns : goal.returns
returns c = λ rates streams pdos plan has its. distinct_renamed streams plan.streams pdos (id_of plan.ids) its.passing.0 has its.renamed
