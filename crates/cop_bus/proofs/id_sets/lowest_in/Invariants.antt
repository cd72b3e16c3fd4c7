use Rattle.std.proofs.Common.{◌≡◌, ℕ, ◌<◌, get_or}
use Rattle.cop_bus.proofs.id_sets.lowest_in.Given as goal

abbrev pub invariant-loop-i : goal.invariant-loop-i
invariant-loop-i l = (w : ℕ) → w < l.i → get_or l.words w 0 ≡ 0
