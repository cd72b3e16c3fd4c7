use Rattle.std.proofs.Common.{All, take}
use Rattle.cop_plan.specs.Found.{IsSynced}
use Rattle.cop_plan.proofs.assigning.are_synced.Given as goal

abbrev pub invariant-loop-stream : goal.invariant-loop-stream
invariant-loop-stream l = All (IsSynced l.set) (take l.stream-index l.stream-items)
