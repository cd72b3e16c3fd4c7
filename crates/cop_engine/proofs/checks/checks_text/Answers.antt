use Rattle.std.proofs.Common.{sym, ◌∙◌}
use Rattle.cop_engine.specs.Checks.{check_line_at}
use Rattle.cop_engine.proofs.ReportsLemmas.{lines_none}
use Rattle.cop_engine.proofs.CheckLemmas.{check_found, checks_more}
use Rattle.cop_engine.proofs.checks.checks_text.Goals as goal

pub loop-k-init : goal.loop-k-init
loop-k-init c = c.new-text.ensures.items ∙ sym (lines_none (check_line_at c.args.refusals.now c.args.answers.now))

pub loop-k-preserved : goal.loop-k-preserved
loop-k-preserved c =
    c.in_ok-push_check.ensures
    ∙ checks_more c.loop-k.text.items c.args.refusals.now c.args.answers.now c.loop-k.k _ c.loop-k.invariant
    (check_found c.args.refusals.now c.args.answers.now c.loop-k.k c.index-refusals-k.result _ c.loop-k-test.true c.index-refusals-k.is c.holds_at.ensures)
