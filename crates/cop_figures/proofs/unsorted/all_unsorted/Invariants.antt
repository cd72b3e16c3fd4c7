use Rattle.std.proofs.Common.{◌≡◌, map, take, length, All}
use Rattle.cop_figures.specs.Unsorted.{IsUnsorted}
use Rattle.cop_figures.proofs.unsorted.all_unsorted.Given as goal

abbrev pub invariant-loop-pdo : goal.invariant-loop-pdo
invariant-loop-pdo l = record {
  flags : length l.ahead ≡ length l.plan.streams;
  pdos : map (λ u. u.pdo) l.all.items ≡ take l.pdo-index l.order;
  each : All (IsUnsorted l.rows l.plan) l.all.items;
}
