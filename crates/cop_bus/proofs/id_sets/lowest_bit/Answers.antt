use Rattle.std.proofs.Common.{arith}
use Rattle.std.specs.Int.{w64}
use Rattle.std.proofs.lemmas.Nat.Bits.{bit_at-trailing_zeros}
use Rattle.cop_bus.proofs.id_sets.lowest_bit.Goals as goal

pub returns-else-word-eq0 : goal.returns-else-word-eq0
returns-else-word-eq0 c = (let some = c.if-word-eq0.false in bit_at-trailing_zeros w64 c.args.word (omega (arith, some)) c.ranges.word.fits)
