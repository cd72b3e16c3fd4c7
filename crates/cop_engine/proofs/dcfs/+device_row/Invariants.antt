use Rattle.std.proofs.Common.{length}
use Rattle.cop_engine.proofs.dcfs.+device_row.Given as goal

abbrev pub decreases-device_row : goal.decreases-device_row
decreases-device_row l = length l.rows.now
