use Rattle.std.proofs.Common.{length}
use Rattle.cop_boot_answer.proofs.answers.+push_lines.Given as goal

abbrev pub decreases-push_lines : goal.decreases-push_lines
decreases-push_lines l = length l.lines.now
