use Rattle.std.proofs.Common.{◌≡◌, ◌-◌, ℕ, List, [], length, fold}
use Rattle.std.specs.Ordering.{nat_cmp}
use Rattle.std.specs.Map.{keys_of}
use Rattle.std.specs.BTreeSet.{insert_key}
use Rattle.cop_eds.specs.Lists.{listed_from}
use Rattle.cop_eds.specs.Objects.{rising}
use Rattle.cop_eds.specs.Found.{AreFound}
use Rattle.cop_eds.proofs.lists.listed_from.Given as goal

abbrev pub invariant-loop-place : goal.invariant-loop-place
invariant-loop-place l = record {
  sound : AreFound l.text l.found.objects.items l.found.parts.items l.found.seen;
  added : (indexes : List ℕ) × (length indexes ≡ l.place) × (listed_from l.text l.list indexes (l.count - l.place) ≡ listed_from l.text l.list [] l.count)
      × (rising (keys_of l.found.parts.items) ≡ fold (insert_key nat_cmp) (rising (keys_of l.initial.found.parts.items)) indexes);
}
