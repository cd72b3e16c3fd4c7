use Rattle.std.proofs.Common.{refl}
use Rattle.cop_logbook.specs.Books.{book_fault}
use Rattle.cop_logbook.proofs.BookLemmas.{one_taken, none_taken, takes_on, refused_with, err_gives, memory_gives}
use Rattle.cop_logbook.proofs.logbook.Logbook.take_piece.Goals as goal

pub frames-preserved : goal.frames-preserved
frames-preserved c =
    let before = c.frames.self in
    let read = rw c.in-Some.is at c.in_ok-found.ensures in
    takes_on _ before _ _ c.frames.rest.now _ c.frames.invariant
    (one_taken before (record before { log = c.next.new.self }) c.take_message.new.self c.next.new.self c.frames.rest.now c.in-Some.found.rest.now c.in-Some.found.message read.0 (refl, refl, refl, refl) c.in_ok-take_message.ensures)

pub returns : goal.returns
returns c =
    let before = c.frames.self in
    let read = rw c.in_default.is at c.in_ok-found.ensures in
    takes_on _ before _ _ c.frames.rest.now _ c.frames.invariant (none_taken before _ c.next.new.self c.frames.rest.now read (refl, refl, refl, refl))

pub returns-in_err-found : goal.returns-in_err-found
returns-in_err-found c =
    let e = c.in_err-found.field-0.0 in
    err_gives c.args.self.now _ c.args.piece.now c.from_residual.result (book_fault e) c.from_residual.ensures.1
    (refused_with c.args.self.now c.frames.self c.args.piece.now c.frames.rest.now e c.frames.invariant c.in_err-found.ensures)

pub returns-in_err-take_message : goal.returns-in_err-take_message
returns-in_err-take_message c = memory_gives c.args.self.now _ c.args.piece.now c.from_residual-in_err-take_message.result c.from_residual-in_err-take_message.ensures.1
