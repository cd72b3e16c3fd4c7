use Rattle.std.proofs.Common.{ℕ, ◌≡◌, ◌<◌, nat_lt, length}
use Rattle.cop_rta.specs.Test.{is_flagged}
use Rattle.cop_cert.specs.Assignments.{id_at}
use Rattle.cop_room.proofs.trials.flag_below.Given as goal

abbrev pub invariant-loop-k : goal.invariant-loop-k
invariant-loop-k l = (length l.out ≡ length l.streams) × ((k : ℕ) → k < l.k → is_flagged l.out k ≡ nat_lt (id_at l.streams l.index) (id_at l.streams k))
