use Rattle.cop_rta.specs.Test.{place_of, busy_at}
use Rattle.cop_rta.proofs.QueueLemmas.{busy_demand_pos}
use Rattle.cop_rta.proofs.BoundLemmas.{busy_small}
use Rattle.cop_cert.proofs.ChainLemmas.{whole_all}
use Rattle.cop_cert.proofs.making.busy_list.Goals as goal

pub chain-requires : goal.chain-requires
chain-requires c = busy_demand_pos (place_of c.args.busy.now) c.requires.index

pub returns : goal.returns
returns c = whole_all (busy_at (place_of c.args.busy.now)) 1 c.chain.result (busy_small (place_of c.args.busy.now) c.requires.few c.requires.ahead) c.chain.ensures
