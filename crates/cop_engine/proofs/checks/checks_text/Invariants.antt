use Rattle.std.proofs.Common.{◌≡◌}
use Rattle.cop_engine.specs.Reports.{lines_below}
use Rattle.cop_engine.specs.Checks.{check_line_at}
use Rattle.cop_engine.proofs.checks.checks_text.Given as goal

abbrev pub invariant-loop-k : goal.invariant-loop-k
invariant-loop-k l = l.text.items ≡ lines_below (check_line_at l.refusals l.answers) l.k
