use Rattle.std.proofs.Common.{◌≡◌, ◌||◌, ℕ, length}
use Rattle.std.specs.Ordering.{nat_cmp}
use Rattle.std.specs.BTreeSet.{contains}
use Rattle.cop_tidy.specs.Meant.{is_among}
use Rattle.cop_tidy.proofs.meaning.set_of.Given as goal

abbrev pub invariant-loop-index : goal.invariant-loop-index
invariant-loop-index l = (index : ℕ) → (contains nat_cmp l.set index || is_among l.rest index) ≡ is_among l.indexes index

abbrev pub decreases-loop-index : goal.decreases-loop-index
decreases-loop-index l = length l.rest
