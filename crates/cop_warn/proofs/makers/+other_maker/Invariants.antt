use Rattle.std.proofs.Common.{length}
use Rattle.cop_warn.proofs.makers.+other_maker.Given as goal

abbrev pub decreases-other_maker : goal.decreases-other_maker
decreases-other_maker l = length l.devices.now
