use Rattle.cop_eds.proofs.MixLemmas.{low_bits_is}
use Rattle.cop_eds.proofs.tickets.low_bits.Goals as goal

pub returns : goal.returns
returns c = low_bits_is c.args.bytes.now _ c.told-bytes c.fits-bytes c.from_le_bytes.ensures
