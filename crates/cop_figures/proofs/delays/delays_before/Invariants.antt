use Rattle.std.proofs.Common.{◌≡◌, take}
use Rattle.cop_rta.specs.Test.{ahead_of}
use Rattle.cop_figures.specs.Delays.{delays_before}
use Rattle.cop_figures.proofs.delays.delays_before.Given as goal

abbrev pub invariant-loop-stream : goal.invariant-loop-stream
invariant-loop-stream l = l.delays.items ≡ delays_before (take l.stream-index l.stream-items) l.at.rate (ahead_of l.at.streams l.at.rate) l.id l.wait
