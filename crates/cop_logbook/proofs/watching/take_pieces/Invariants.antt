use Rattle.std.proofs.Common.{◌<◌, length}
use Rattle.cop_logbook.specs.Pieces.{TakesAlong}
use Rattle.cop_logbook.proofs.watching.take_pieces.Given as goal

abbrev pub invariant-pieces : goal.invariant-pieces
invariant-pieces g l = record {
  taken : TakesAlong (g.R.Read.remaining l.fn.reader) (g.R.Read.remaining l.reader) l.fn.book l.book;
  room : 0 < length l.piece;
}
