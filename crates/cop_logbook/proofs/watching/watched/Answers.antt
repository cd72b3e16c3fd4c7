use Rattle.std.proofs.Common.{◌≡◌, subst}
use Rattle.std.specs.Prelude.{IsErrAnd}
use Rattle.std.specs.Option.{option_copied}
use Rattle.cop_log.specs.Reading.{Wanted}
use Rattle.cop_logbook.specs.declared.logbook.BookFault.TheVariants.{Memory, Refused}
use Rattle.cop_logbook.specs.declared.watching.WatchFault.TheVariants.{Book}
use Rattle.cop_logbook.proofs.PieceLemmas.{all_watched, why_not, why_memory, why_none, err_why, none_of}
use Rattle.cop_logbook.proofs.watching.watched.Goals as goal

pub returns-clause-watched : goal.returns-clause-watched
returns-clause-watched g c =
    let taken = c.in_ok-take_pieces.ensures in
    all_watched c.args.plan.now c.args.clock _ (g.R.Read.remaining c.args.reader) _ c.in_ok-book.book c.take_pieces.new.book
    c.in_ok-book.ensures taken.taken taken.all c.end.ensures.whole

pub returns-in_err-book-clause-refused : goal.returns-in_err-book-clause-refused
returns-in_err-book-clause-refused g c =
    let w : Wanted = record { channel = option_copied c.args.channel; are_distances = c.args.are_distances } in
    let left = g.R.Read.remaining c.args.reader in
    err_why w left c.from_residual.result (Book Memory) c.from_residual.ensures.1 (why_memory w left)

pub returns-in_err-piece-clause-refused : goal.returns-in_err-piece-clause-refused
returns-in_err-piece-clause-refused g c =
    let w : Wanted = record { channel = option_copied c.args.channel; are_distances = c.args.are_distances } in
    let left = g.R.Read.remaining c.args.reader in
    err_why w left c.from_residual-in_err-piece.result (Book Memory) c.from_residual-in_err-piece.ensures.1 (why_memory w left)

pub returns-in_err-take_pieces-clause-refused : goal.returns-in_err-take_pieces-clause-refused
returns-in_err-take_pieces-clause-refused g c =
    let w : Wanted = record { channel = option_copied c.args.channel; are_distances = c.args.are_distances } in
    let left = g.R.Read.remaining c.args.reader in
    let fault = c.in_err-take_pieces.field-0.0 in
    err_why w left c.from_residual-in_err-take_pieces.result fault c.from_residual-in_err-take_pieces.ensures.1
    (why_not c.args.plan.now c.args.clock w left c.in_ok-book.book fault c.in_ok-book.ensures c.in_err-take_pieces.ensures.wrong)

pub returns-in_err-end-clause-refused : goal.returns-in_err-end-clause-refused
returns-in_err-end-clause-refused g c =
    let w : Wanted = record { channel = option_copied c.args.channel; are_distances = c.args.are_distances } in
    let left = g.R.Read.remaining c.args.reader in
    let book = c.take_pieces.new.book in
    let taken = c.in_ok-take_pieces.ensures in
    let r = c.from_residual-in_err-end.result in
    err_why w left r (Book (Refused 94 0))
    (subst (λ x. IsErrAnd r (λ f. f ≡ Book x)) c.in_err-end.ensures.none c.from_residual-in_err-end.ensures.1)
    (why_none c.args.plan.now c.args.clock w left _ c.in_ok-book.book book c.in_ok-book.ensures taken.taken taken.all c.end.ensures.whole (none_of book.all.frames c.in_err-end.ensures.frames.1))
