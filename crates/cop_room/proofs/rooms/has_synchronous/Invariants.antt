use Rattle.std.proofs.Common.{ℕ, ◌<◌, ◌≡◌}
use Rattle.cop_rta.specs.Test.{of_stream}
use Rattle.cop_room.proofs.rooms.has_synchronous.Given as goal

abbrev pub invariant-loop-p : goal.invariant-loop-p
invariant-loop-p l = (k : ℕ) → k < l.p → of_stream (λ s. s.every) l.streams k ≡ 0
