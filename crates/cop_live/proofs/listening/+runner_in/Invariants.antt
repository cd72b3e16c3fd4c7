use Rattle.std.proofs.Common.{length}
use Rattle.cop_live.proofs.listening.+runner_in.Given as goal

abbrev pub decreases-runner_in : goal.decreases-runner_in
decreases-runner_in l = length l.bytes.now
