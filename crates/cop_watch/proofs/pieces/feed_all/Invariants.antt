use Rattle.std.proofs.Common.{◌<◌, length}
use Rattle.cop_watch.specs.Pieces.{Feeds}
use Rattle.cop_watch.proofs.pieces.feed_all.Given as goal

abbrev pub invariant-pieces : goal.invariant-pieces
invariant-pieces g l = record {
  fed : Feeds (g.R.Read.remaining l.fn.reader) (g.R.Read.remaining l.reader) l.fn.watch l.watch;
  room : 0 < length l.piece;
}
