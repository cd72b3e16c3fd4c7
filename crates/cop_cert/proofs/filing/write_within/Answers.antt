use Rattle.std.proofs.Common.{◌≡◌, ap, length, arith}
use Rattle.std.specs.List.{flat_map}
use Rattle.cop_cert.specs.Format.{version_of, refusal_rows, text_of}
use Rattle.cop_cert.proofs.LineLemmas.{first_are_lines}
use Rattle.cop_cert.proofs.WithinLemmas.{was_whole, was_stopped, whole_text, too_long}
use Rattle.cop_cert.proofs.filing.write_within.Goals as goal

pub returns-then-not-branch : goal.returns-then-not-branch
returns-then-not-branch c =
    let first = first_are_lines (version_of c.args.refusals.now) in
    too_long c.args.refusals.now c.push.new.self.items c.write_refusals_within.new.text.items
    (rw (c.in_ok-push.ensures.items, c.in_ok-extend_from_slice.ensures.items, c.in_ok-text.ensures.items, c.version_number.ensures) first)
    (was_stopped c.push.new.self.items c.write_refusals_within.new.text.items (flat_map refusal_rows c.args.refusals.now) c.in_ok-write_refusals_within.field-0 c.if-not-branch.true c.in_ok-write_refusals_within.ensures)

pub returns-then-len-gt-MOST_BYTES : goal.returns-then-len-gt-MOST_BYTES
returns-then-len-gt-MOST_BYTES c =
    let first = first_are_lines (version_of c.args.refusals.now) in
    let written : c.write_refusals_within.new.text.items ≡ text_of c.args.refusals.now =
    whole_text c.args.refusals.now c.push.new.self.items c.write_refusals_within.new.text.items
    (rw (c.in_ok-push.ensures.items, c.in_ok-extend_from_slice.ensures.items, c.in_ok-text.ensures.items, c.version_number.ensures) first)
    (was_whole c.push.new.self.items c.write_refusals_within.new.text.items (flat_map refusal_rows c.args.refusals.now) c.in_ok-write_refusals_within.field-0 c.if-not-branch.false c.in_ok-write_refusals_within.ensures) in
    omega (arith, c.if-len-gt-MOST_BYTES.true, c.len.ensures, ap length written)

pub returns : goal.returns
returns c =
    let first = first_are_lines (version_of c.args.refusals.now) in
    let written : c.write_refusals_within.new.text.items ≡ text_of c.args.refusals.now =
    whole_text c.args.refusals.now c.push.new.self.items c.write_refusals_within.new.text.items
    (rw (c.in_ok-push.ensures.items, c.in_ok-extend_from_slice.ensures.items, c.in_ok-text.ensures.items, c.version_number.ensures) first)
    (was_whole c.push.new.self.items c.write_refusals_within.new.text.items (flat_map refusal_rows c.args.refusals.now) c.in_ok-write_refusals_within.field-0 c.if-not-branch.false c.in_ok-write_refusals_within.ensures) in
    (written, omega (arith, c.if-len-gt-MOST_BYTES.false, c.len.ensures))
