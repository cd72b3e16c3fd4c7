use Rattle.std.proofs.Common.{length}
use Rattle.cop_verify.proofs.telling.+first_wrong.Given as goal

abbrev pub decreases-first_wrong : goal.decreases-first_wrong
decreases-first_wrong l = length l.all.now
