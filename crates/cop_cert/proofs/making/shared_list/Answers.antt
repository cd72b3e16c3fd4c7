use Rattle.cop_cert.proofs.TrialLemmas.{chain_for_each}
use Rattle.cop_cert.proofs.making.shared_list.Goals as goal

pub returns : goal.returns
returns c = chain_for_each c.args.place.now c.args.index c.requires.index c.requires.above c.busy_list.result (rw c.equations.ensures at c.busy_list.ensures)
