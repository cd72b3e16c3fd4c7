use Rattle.cop_eds.proofs.BitLemmas.{bit_set}
use Rattle.cop_eds.proofs.bits.Bits.insert.Goals as goal

pub returns : goal.returns
returns c other = bit_set c.args.self.now.words.items c.widen.new.words.items c.args.number c.index_mut.result.now other c.in_ok-widen.ensures.same c.in_ok-widen.ensures.reached c.index_mut.ensures.value
