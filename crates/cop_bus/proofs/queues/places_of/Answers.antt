use Rattle.std.proofs.Common.{◌≡◌}
use Rattle.std.specs.Prelude.{Some, get_or, slice_get}
use Rattle.std.proofs.lemmas.Option.{slice_get-get_or}
use Rattle.cop_bus.proofs.AtPlace.{one-place}
use Rattle.cop_bus.proofs.QueueLemmas.{listed-more}
use Rattle.cop_bus.proofs.queues.places_of.Goals as goal

pub loop-i-preserved : goal.loop-i-preserved
loop-i-preserved c =
    let k = get_or c.args.streams.now c.loop-i.i c.index-streams-i.result in
    let here : slice_get c.args.streams.now c.loop-i.i ≡ Some k = slice_get-get_or c.args.streams.now c.loop-i.i c.index-streams-i.result c.loop-i-test.true in
    record {
      listed = listed-more c.args.streams.now c.loop-i.i k c.loop-i.places.items c.put_place.new.places.items (λ i l e s. one-place c.args.streams.now c.requires c.loop-i.i i k l here e s) here
          c.in_ok-put_place.ensures.here c.in_ok-put_place.ensures.others c.loop-i.invariant.listed;
      few = c.in_ok-put_place.ensures.few c.loop-i.invariant.few;
    }
