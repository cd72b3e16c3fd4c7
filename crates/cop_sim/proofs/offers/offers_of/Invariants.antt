use Rattle.std.proofs.Common.{◌≡◌, ℕ, ◌<◌, map, length}
use Rattle.cop_sim.specs.Seats.{next_at}
use Rattle.cop_sim.proofs.offers.offers_of.Given as goal

abbrev pub invariant-loop-i : goal.invariant-loop-i
invariant-loop-i l = record {
  ids : l.offers.ids ≡ map (λ k. k.id) l.streams;
  count : length l.offers.next ≡ length l.streams;
  done : (j : ℕ) → j < l.i → next_at l.offers.next j ≡ next_at l.next j;
}
