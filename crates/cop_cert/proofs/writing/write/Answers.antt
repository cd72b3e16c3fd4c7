use Rattle.cop_cert.specs.Format.{version_of}
use Rattle.cop_cert.proofs.LineLemmas.{first_are_lines, text_is_lines}
use Rattle.cop_cert.proofs.writing.write.Goals as goal

pub returns : goal.returns
returns c =
    let first = first_are_lines (version_of c.args.refusals.now) in
    let number = c.in_ok-extend_from_slice.ensures.items in
    let feed = c.in_ok-push.ensures.items in
    text_is_lines c.args.refusals.now c.push.new.self.items c.write_refusals.new.text.items
    (rw (feed, number, c.in_ok-text.ensures.items, c.version_number.ensures) first)
    c.in_ok-write_refusals.ensures
