use Rattle.cop_bus.proofs.IdSetLemmas.{set_here, set_others}
use Rattle.cop_bus.proofs.id_sets.set_bit.Goals as goal

pub returns-clause-here : goal.returns-clause-here
returns-clause-here c = set_here c.args.words.now.items c.args.number c.index_mut.result.now c.requires c.index_mut.ensures.value

pub returns-clause-others : goal.returns-clause-others
returns-clause-others c = set_others c.args.words.now.items c.args.number c.index_mut.result.now c.requires c.index_mut.ensures.value
