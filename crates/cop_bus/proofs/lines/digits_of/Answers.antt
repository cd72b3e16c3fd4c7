use Rattle.std.proofs.Common.{◌+◌, ◌∙◌, refl, arith, slice_set, slice_index}
use Rattle.std.proofs.lemmas.List.{length-set}
use Rattle.hex.specs.Hex.{encode_with}
use Rattle.cop_bus.proofs.HexLemmas.{digits_one}
use Rattle.cop_bus.proofs.lines.digits_of.Goals as goal

pub loop-i-init : goal.loop-i-init
unfolding encode_with
loop-i-init c = record { long = refl; done = refl }

pub loop-i-preserved : goal.loop-i-preserved
loop-i-preserved c =
    let i = c.loop-i.i in
    let h = c.loop-i.invariant in
    let long = h.long in
    let many = c.requires in
    let a = c.digit_of.result in
    let b = c.digit_of-in-loop-i.result in
    record {
      long = length-set (slice_set c.loop-i.digits (i + i) a) (i + i + 1) b ∙ length-set c.loop-i.digits (i + i) a ∙ h.long;
      done = digits_one c.args.bytes.now c.loop-i.digits i a b (slice_index c.args.bytes.now i) c.loop-i-test.true (omega (arith, long, many, c.loop-i-test.true)) refl c.digit_of.ensures c.digit_of-in-loop-i.ensures h.done;
    }
