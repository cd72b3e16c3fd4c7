use Rattle.std.proofs.Common.{◌≡◌, map, take, length, All}
use Rattle.cop_rta.specs.Test.{place_by_id}
use Rattle.cop_figures.specs.Delays.{IsBrokenDown}
use Rattle.cop_figures.proofs.delays.break_down.Given as goal

abbrev pub invariant-loop-time : goal.invariant-loop-time
invariant-loop-time l = record {
  flags : length l.above ≡ length l.at.streams;
  pdos : map (λ b. b.pdo) l.parts.items ≡ map (λ t. t.pdo) (take l.time-index l.times);
  each : All (λ b. IsBrokenDown (place_by_id l.at.streams b.pdo l.at.rate) b) l.parts.items;
}
