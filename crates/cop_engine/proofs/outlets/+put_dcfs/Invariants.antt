use Rattle.std.proofs.Common.{length}
use Rattle.cop_engine.proofs.outlets.+put_dcfs.Given as goal

abbrev pub decreases-put_dcfs : goal.decreases-put_dcfs
decreases-put_dcfs g l = length l.files.now
