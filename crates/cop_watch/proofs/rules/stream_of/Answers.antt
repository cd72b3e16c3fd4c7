use Rattle.std.proofs.Common.{◌≡◌, sym, subst, get_or}
use Rattle.cop_bus.proofs.StreamOf.{stream_there, stream_nowhere}
use Rattle.cop_watch.proofs.rules.stream_of.Goals as goal

pub returns-in-Some : goal.returns-in-Some
returns-in-Some c =
    let x = c.index-streams-place.result in
    stream_there c.args.streams.now c.args.id c.in-Some.place x (sym c.in-Some.ensures.place) c.in-Some.ensures.within
    (subst (λ s. x ≡ get_or s c.in-Some.place x) c.streams.ensures.items c.index-streams-place.is)

pub returns-in-None : goal.returns-in-None
returns-in-None c = stream_nowhere c.args.streams.now c.args.id (sym c.in-None.ensures.place)
