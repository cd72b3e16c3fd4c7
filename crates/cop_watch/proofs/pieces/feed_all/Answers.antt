use Rattle.std.proofs.Common.{◌<◌, length, take, refl, rules}
use Rattle.cop_watch.proofs.PieceLemmas.{feeds_more}
use Rattle.cop_watch.proofs.pieces.feed_all.Goals as goal

pub pieces-preserved : goal.pieces-preserved
pieces-preserved g c =
    let room : 0 < length c.read.new.buf = search rules in
    record {
      fed = feeds_more _ (g.R.Read.remaining c.pieces.reader) _ _ c.pieces.watch _ (take c.in-Ok.len c.read.new.buf) c.pieces.invariant.fed c.in-Ok.ensures.bytes.0 (c.if-not-feed.ensures refl);
      room = room;
    }
