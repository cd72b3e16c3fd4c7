use Rattle.std.proofs.Common.{◌≡◌, take, All}
use Rattle.cop_bus.proofs.judging.is_any_synchronous.Given as goal

abbrev pub invariant-loop-stream : goal.invariant-loop-stream
invariant-loop-stream l = All (λ k. k.every ≡ 0) (take l.stream-index l.streams)
