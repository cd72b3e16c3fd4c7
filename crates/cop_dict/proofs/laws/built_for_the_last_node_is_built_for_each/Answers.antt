use Rattle.cop_dict.proofs.NodeLemmas.{built_before, type_of_built}
use Rattle.cop_dict.proofs.laws.built_for_the_last_node_is_built_for_each.Goals as goal

pub returns-clause-all : goal.returns-clause-all
returns-clause-all c = built_before

pub returns-clause-types : goal.returns-clause-types
returns-clause-types c = type_of_built
