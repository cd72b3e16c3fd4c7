use Rattle.std.proofs.Common.{length}
use Rattle.cop_scan.proofs.scanning.+add_found.Given as goal

abbrev pub decreases-add_found : goal.decreases-add_found
decreases-add_found l = length l.nodes.now
