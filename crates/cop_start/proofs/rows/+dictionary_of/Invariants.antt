use Rattle.std.proofs.Common.{length}
use Rattle.cop_start.proofs.rows.+dictionary_of.Given as goal

abbrev pub decreases-dictionary_of : goal.decreases-dictionary_of
decreases-dictionary_of l = length l.sources.now
