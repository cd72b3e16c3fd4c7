use Rattle.std.proofs.Common.{◌≡◌, ◌||◌, ℕ}
use Rattle.std.specs.Ordering.{nat_cmp}
use Rattle.std.specs.BTreeSet.{contains}
use Rattle.cop_eds_hazards.specs.Listed.{is_named_by}
use Rattle.cop_eds_hazards.proofs.listed.add_entries.Given as goal

abbrev pub invariant-loop-place : goal.invariant-loop-place
invariant-loop-place l = (index : ℕ) → contains nat_cmp l.indexes index ≡ (contains nat_cmp l.initial.indexes index || is_named_by l.eds l.section index l.place)
