use Rattle.std.proofs.Common.{◌≡◌, map, take, All}
use Rattle.cop_figures.specs.Figures.{IsTimed}
use Rattle.cop_figures.proofs.times.times_of.Given as goal

abbrev pub invariant-loop-pdo : goal.invariant-loop-pdo
invariant-loop-pdo l = record {
  pdos : map (λ t. t.pdo) l.times.items ≡ take l.pdo-index l.order;
  each : All (IsTimed l.plan) l.times.items;
}
