use Rattle.std.proofs.Common.{◌≡◌}
use Rattle.cop_engine.specs.Reports.{lines_below, line_at}
use Rattle.cop_engine.proofs.reports.report.Given as goal

abbrev pub invariant-loop-id : goal.invariant-loop-id
invariant-loop-id l = l.text.items ≡ lines_below (line_at l.set l.verdicts) l.id
