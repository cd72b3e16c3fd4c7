use Rattle.std.proofs.Common.{◌≡◌, ◌++◌}
use Rattle.cop_engine.specs.Reports.{lines_below}
use Rattle.cop_engine.specs.PlanTexts.{pdo_line_at}
use Rattle.cop_engine.proofs.plan_texts.push_pdos.Given as goal

abbrev pub invariant-loop-k : goal.invariant-loop-k
invariant-loop-k l = l.text.items ≡ l.fn.text.items ++ lines_below (pdo_line_at l.rows l.ids l.verdicts) l.k
