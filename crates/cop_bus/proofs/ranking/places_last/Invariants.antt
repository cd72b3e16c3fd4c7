use Rattle.std.proofs.Common.{◌≡◌, ◌+◌, ◌<◌, ℕ, length}
use Rattle.std.specs.Prelude.{slice_index}
use Rattle.cop_bus.proofs.ranking.places_last.Given as goal

abbrev pub invariant-loop-place : goal.invariant-loop-place
invariant-loop-place l = record {
  many : length l.nodes.items ≡ l.places + l.place;
  leaves : (i : ℕ) → i < l.place → slice_index l.nodes.items (l.places + i) ≡ i;
}
