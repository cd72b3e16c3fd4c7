use Rattle.std.proofs.Common.{length}
use Rattle.cop_start.proofs.start.+last_node.Given as goal

abbrev pub decreases-last_node : goal.decreases-last_node
decreases-last_node l = length l.sources.now
