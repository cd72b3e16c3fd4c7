use Rattle.std.proofs.Common.{refl}
use Rattle.cop_frame.specs.Rate.{ticks_of}
use Rattle.cop_watch.proofs.PieceLemmas.{seen_of_all}
use Rattle.cop_watch.proofs.pieces.seen_in_pieces.Goals as goal

pub returns-then-feed_all : goal.returns-then-feed_all
returns-then-feed_all g c =
    let streams = c.args.streams.now in
    let fed = c.if-feed_all.ensures in
    seen_of_all (g.R.Read.remaining c.args.reader) _ c.in-Ok.watch c.feed_all.new.watch c.finish.result (ticks_of c.args.rate) streams (fed.fed refl) (fed.all refl) c.in-Ok.ensures (λ text h. c.finish.ensures (ticks_of c.args.rate) streams text h)
