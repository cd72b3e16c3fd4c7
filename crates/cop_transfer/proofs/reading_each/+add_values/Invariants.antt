use Rattle.std.proofs.Common.{length}
use Rattle.cop_transfer.proofs.reading_each.+add_values.Given as goal

abbrev pub decreases-add_values : goal.decreases-add_values
decreases-add_values g l = length l.nodes.now
