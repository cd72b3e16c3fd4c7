use Rattle.std.proofs.Common.{◌≡◌, take}
use Rattle.cop_bus.specs.Rings.{rings_of}
use Rattle.cop_bus.proofs.rings.rings_of.Given as goal

abbrev pub invariant-loop-stream : goal.invariant-loop-stream
invariant-loop-stream l = l.rings.items ≡ rings_of (take l.stream-index l.streams)
