use Rattle.std.proofs.Common.{◌≡◌, ◌++◌, drop}
use Rattle.std.specs.List.{filter_map}
use Rattle.cop_bus.specs.Trace.{instances_from}
use Rattle.cop_bus.specs.Transfers.{transfer_of, transfers_of}
use Rattle.cop_bus.proofs.transfers.transfers_in.Given as goal

abbrev pub invariant-loop-i : goal.invariant-loop-i
invariant-loop-i l = l.transfers.items ++ filter_map (transfer_of l.ticks l.until) (instances_from l.steps l.i (drop l.i l.steps)) ≡ transfers_of l.ticks l.until l.steps
