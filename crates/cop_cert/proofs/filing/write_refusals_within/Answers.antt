use Rattle.std.proofs.Common.{arith}
use Rattle.cop_cert.specs.Format.{refusal_rows}
use Rattle.cop_cert.proofs.WithinLemmas.{was_stopped, each_stopped}
use Rattle.cop_cert.proofs.filing.write_refusals_within.Goals as goal

pub returns-then-not-branch : goal.returns-then-not-branch
returns-then-not-branch c =
    each_stopped c.args.text.now.items c.loop-refusal.text.items c.args.refusals.now c.loop-refusal.refusal-index c.refusal-item.result refusal_rows
    (omega (arith, c.loop-refusal-test.true)) c.refusal-item.is c.loop-refusal.invariant
    (was_stopped c.loop-refusal.text.items c.write_refusal_within.new.text.items (refusal_rows c.refusal-item.result) c.in_ok-write_refusal_within.field-0 c.if-not-branch.true c.in_ok-write_refusal_within.ensures)
