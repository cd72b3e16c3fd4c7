use Rattle.cop_dict.proofs.PointwiseLemmas.{each_object, only_objects}
use Rattle.cop_dict.proofs.laws.built_is_pointwise.Goals as goal

pub returns-clause-each : goal.returns-clause-each
returns-clause-each c = each_object

pub returns-clause-only : goal.returns-clause-only
returns-clause-only c = only_objects
