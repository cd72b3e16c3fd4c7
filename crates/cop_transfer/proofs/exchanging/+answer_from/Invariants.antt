use Rattle.std.proofs.Common.{length}
use Rattle.cop_transfer.proofs.exchanging.+answer_from.Given as goal

abbrev pub decreases-answer_from : goal.decreases-answer_from
decreases-answer_from l = length l.bytes.now
