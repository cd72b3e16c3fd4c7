use Rattle.std.proofs.Common.{◌≡◌, drop}
use Rattle.cop_warn.specs.Warnings.{sync_period}
use Rattle.cop_warn.proofs.devices.sync_period.Given as goal

abbrev pub invariant-loop-row : goal.invariant-loop-row
invariant-loop-row l = sync_period (drop l.row-index l.frames) ≡ sync_period l.fn.frames
