use Rattle.cop_bus.proofs.IdSetLemmas.{clear_here, clear_others, clear_fewer}
use Rattle.cop_bus.proofs.id_sets.clear_bit.Goals as goal

pub returns-clause-here : goal.returns-clause-here
returns-clause-here c = clear_here c.args.words.now.items c.args.number c.index_mut.result.now c.requires c.index_mut.ensures.value

pub returns-clause-others : goal.returns-clause-others
returns-clause-others c = clear_others c.args.words.now.items c.args.number c.index_mut.result.now c.requires c.index_mut.ensures.value

pub returns-clause-fewer : goal.returns-clause-fewer
returns-clause-fewer c = clear_fewer c.args.words.now.items c.args.number c.index_mut.result.now c.requires c.index_mut.ensures.value
