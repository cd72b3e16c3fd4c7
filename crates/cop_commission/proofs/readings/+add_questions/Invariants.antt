use Rattle.std.proofs.Common.{length}
use Rattle.cop_commission.proofs.readings.+add_questions.Given as goal

abbrev pub decreases-add_questions : goal.decreases-add_questions
decreases-add_questions l = length l.settings.now
