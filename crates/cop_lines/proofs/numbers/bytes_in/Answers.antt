use Rattle.std.proofs.Common.{◌≡◌, ◌<◌, length, arith}
use Rattle.std.specs.Prelude.{Ok}
use Rattle.cop_lines.specs.Words.{word}
use Rattle.cop_lines.specs.Numbers.{byte_in}
use Rattle.cop_lines.proofs.Parts.{goes_on}
use Rattle.cop_lines.proofs.numbers.bytes_in.Goals as goal

pub loop-i-preserved : goal.loop-i-preserved
loop-i-preserved c =
    let more : c.loop-i.i < length c.args.body.now = omega arith in
    let same : length c.loop-i.body ≡ length c.args.body.now = omega arith in
    let read : byte_in c.args.base (word c.loop-i.rest.now) ≡ Ok c.in_ok-byte.byte = cc (c.in_ok-byte.ensures, c.word.ensures) in
    goes_on c.args.base (length c.args.body.now) c.loop-i.i c.args.text.now c.loop-i.rest.now c.after_word-rest.result.now c.loop-i.body c.in_ok-byte.byte more same read c.after_word-rest.ensures c.loop-i.invariant
