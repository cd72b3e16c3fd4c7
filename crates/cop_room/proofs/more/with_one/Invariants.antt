use Rattle.std.proofs.Common.{◌≡◌, ◌∷◌, take}
use Rattle.cop_room.proofs.more.with_one.Given as goal

abbrev pub invariant-loop-stream : goal.invariant-loop-stream
invariant-loop-stream l = l.more ≡ l.fn.one ∷ take l.stream-index l.set
