use Rattle.std.proofs.Common.{refl, arith, sym, ap, Ok}
use Rattle.cop_net.specs.Fixed.{fixed_streams}
use Rattle.cop_net.proofs.FixedLemmas.{one_more, no_more}
use Rattle.cop_net.proofs.ApartLemmas.{one_set_row}
use Rattle.cop_net.proofs.fixed.put_fixed.Goals as goal

pub loop-place-init : goal.loop-place-init
unfolding fixed_streams
loop-place-init c = refl

pub put_sent-requires-clause-one_set : goal.put_sent-requires-clause-one_set
put_sent-requires-clause-one_set c =
    one_set_row c.args.frames.now _ c.loop-place.place _ _ (omega arith) c.at.ensures.row c.loop-place.invariant c.requires

pub loop-place-preserved : goal.loop-place-preserved
loop-place-preserved c =
    one_more c.args.frames.now _ _ c.loop-place.place _ _ (omega arith) c.at.ensures.row c.in_ok-put_sent.ensures c.loop-place.invariant

pub returns : goal.returns
returns c = let e = no_more c.args.frames.now _ c.loop-place.place _ (omega arith) c.loop-place.invariant in ap Ok (sym e)
