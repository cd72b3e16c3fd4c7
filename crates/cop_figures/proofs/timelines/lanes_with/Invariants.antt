use Rattle.std.proofs.Common.{◌≡◌, ◌++◌, map}
use Rattle.cop_figures.specs.Timelines.{lane_of}
use Rattle.cop_figures.proofs.timelines.lanes_with.Given as goal

abbrev pub invariant-loop-id : goal.invariant-loop-id
invariant-loop-id l = l.lanes.items ++ map (lane_of l.transfers) l.id-iterator ≡ map (lane_of l.transfers) l.ids.keys
