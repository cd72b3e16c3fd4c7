use Rattle.std.proofs.Common.{◌<◌, length, take, rules}
use Rattle.cop_logbook.proofs.PieceLemmas.{none_along, taken_more, piece_refused, err_fails}
use Rattle.cop_logbook.specs.declared.watching.WatchFault.TheVariants.{Book}
use Rattle.cop_logbook.proofs.watching.take_pieces.Goals as goal

pub pieces-init : goal.pieces-init
pieces-init g c = record {
  taken = none_along (g.R.Read.remaining c.args.reader.now) c.args.book.now;
  room = c.requires;
}

pub pieces-preserved : goal.pieces-preserved
pieces-preserved g c =
    let room : 0 < length c.read.new.buf = search rules in
    record {
      taken = taken_more _ (g.R.Read.remaining c.pieces.reader) _ _ c.pieces.book _ (take c.in-Ok.len c.read.new.buf) c.pieces.invariant.taken c.in-Ok.ensures.bytes.0 c.in_ok-take_piece-in-Ok.ensures;
      room = room;
    }

pub returns-in_err-take_piece-in-Ok-clause-wrong : goal.returns-in_err-take_piece-in-Ok-clause-wrong
returns-in_err-take_piece-in-Ok-clause-wrong g c =
    let left = g.R.Read.remaining c.args.reader.now in
    let fault = c.in_err-take_piece-in-Ok.field-0.0 in
    err_fails left c.args.book.now c.from_residual.result (Book fault) c.from_residual.ensures.1
    (piece_refused left (g.R.Read.remaining c.pieces.reader) _ c.args.book.now c.pieces.book (take c.in-Ok.len c.read.new.buf) fault c.pieces.invariant.taken c.in-Ok.ensures.bytes.0 c.in_err-take_piece-in-Ok.ensures)
