use Rattle.std.proofs.Common.{◌≡◌, ◌<◌, ◌^◌, ◌++◌, ◌∷◌, [], List, length, subst, arith}
use Rattle.cop_lines.specs.declared.entries.Entry.{Entry}
use Rattle.cop_log.specs.Reading.{Wanted, log_in, HasRead, name_of}
use Rattle.cop_log.proofs.ReadLemmas.{err_is, refused_text, whole}
use Rattle.cop_log.proofs.reading.read_log.Goals as goal

pub returns-in_err-found : goal.returns-in_err-found
returns-in_err-found c =
    let w : Wanted = record { channel = name_of c.args.channel; are_distances = c.args.are_distances } in
    let text = c.args.text.now in
    let e = c.in_err-found.field-0.0 in
    let small : length text < 2 ^ 64 = omega arith in
    err_is (λ log. log.items) c.from_residual.result e (log_in w text) c.from_residual.ensures.1
    (refused_text w text c.frames.rest.now c.frames.reader c.frames.log.items e small c.frames.invariant c.in_err-found.ensures)

pub frames-preserved : goal.frames-preserved
frames-preserved c =
    let w : Wanted = record { channel = name_of c.args.channel; are_distances = c.args.are_distances } in
    let text = c.args.text.now in
    let small : length text < 2 ^ 64 = omega arith in
    let read = rw c.in-Some.is at c.in_ok-found.ensures in
    let more : c.frames.log.items ++ c.in-Some.found.message.entry ∷ [] ≡ c.note.new.log.items = cc (c.in_ok-note.ensures) in
    subst (λ (log : List Entry). HasRead w text c.in-Some.found.rest.now c.next.new.self log) more (read.0 w text c.frames.log.items small c.frames.invariant)

pub returns : goal.returns
returns c =
    let w : Wanted = record { channel = name_of c.args.channel; are_distances = c.args.are_distances } in
    let text = c.args.text.now in
    let small : length text < 2 ^ 64 = omega arith in
    let read = rw c.in_default.is at c.in_ok-found.ensures in
    (whole c.next.new.self w text c.frames.log.items (read w text c.frames.log.items small c.frames.invariant)).0
