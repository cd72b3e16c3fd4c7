use Rattle.std.proofs.Common.{◌≡◌, ◌<◌, true}
use Rattle.cop_rta.specs.Sums.{max_where}
use Rattle.cop_cert.specs.Assignments.{id_at}
use Rattle.cop_room.proofs.more.next_id.Given as goal

abbrev pub invariant-loop-k : goal.invariant-loop-k
invariant-loop-k l = (l.last ≡ max_where (λ k. true) (id_at l.streams) l.k) × (l.last < 2048)
