use Rattle.cop_dict.proofs.BuiltLemmas.{built_stays}
use Rattle.cop_net.proofs.devices.dictionary_of.Goals as goal

pub returns-in-Ok-clause-stays : goal.returns-in-Ok-clause-stays
returns-in-Ok-clause-stays c = (built_stays c.args.blueprint.now c.args.row.now.node c.in-Ok.dictionary c.in-Ok.ensures).0
