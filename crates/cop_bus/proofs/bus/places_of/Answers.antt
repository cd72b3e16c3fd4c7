use Rattle.std.proofs.Common.{◌≡◌, arith}
use Rattle.std.specs.Prelude.{Some, get_or, slice_get}
use Rattle.std.proofs.lemmas.Option.{slice_get-get_or}
use Rattle.cop_bus.proofs.AtPlace.{one-place}
use Rattle.cop_bus.proofs.PlacedLemmas.{placed-more, all-placed}
use Rattle.cop_bus.proofs.bus.places_of.Goals as goal

pub loop-i-preserved : goal.loop-i-preserved
loop-i-preserved c =
    let k = get_or c.args.streams.now c.loop-i.i c.index-streams-i.result in
    let here : slice_get c.args.streams.now c.loop-i.i ≡ Some k = slice_get-get_or c.args.streams.now c.loop-i.i c.index-streams-i.result c.loop-i-test.true in
    placed-more c.args.streams.now c.loop-i.i k c.loop-i.places c.insert.new.self (λ j l e s. one-place c.args.streams.now c.requires c.loop-i.i j k l here e s) here c.in-Ok.ensures.updates.1 c.in-Ok.ensures.updates.2 c.loop-i.invariant

pub returns : goal.returns
returns c = all-placed c.args.streams.now c.loop-i.i c.loop-i.places (omega (arith, c.loop-i-test.false)) (omega (arith, c.loop-i.auto.i-end)) c.loop-i.invariant
