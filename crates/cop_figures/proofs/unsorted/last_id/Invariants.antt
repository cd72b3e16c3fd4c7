use Rattle.std.proofs.Common.{◌≡◌}
use Rattle.cop_rta.specs.Sums.{max_where}
use Rattle.cop_cert.specs.Assignments.{id_at}
use Rattle.cop_figures.specs.Unsorted.{sends}
use Rattle.cop_figures.proofs.unsorted.last_id.Given as goal

abbrev pub invariant-loop-number : goal.invariant-loop-number
invariant-loop-number l = l.last ≡ max_where (sends l.rows l.streams l.node) (id_at l.streams) l.number
