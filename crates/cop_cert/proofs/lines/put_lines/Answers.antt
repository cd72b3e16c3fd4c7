use Rattle.std.proofs.Common.{arith, map}
use Rattle.cop_cert.specs.Format.{lines}
use Rattle.cop_cert.proofs.BlockLemmas.{none_made}
use Rattle.cop_cert.proofs.lines.put_lines.Goals as goal

pub loop-last-init : goal.loop-last-init
loop-last-init c = record {
  room = omega (arith, c.requires.few);
  within = omega arith;
  lines = λ row is. none_made (lines (map row c.args.numbers.now)) c.args.block.now c.told-block;
}
