-- The lanes of a trace.
use Rattle.std.proofs.Common.{◌≡◌, ◌↔◌, ℕ, List, map, IsTrue}
use Rattle.std.specs.List.{Contains}
use Rattle.std.specs.BTreeSet.{BTreeSet, contains, IsFromIterResult}
use Rattle.std.specs.Ordering.{nat_cmp}
use Rattle.std.proofs.lemmas.Cmp.{nat_cmp_total}
use Rattle.std.proofs.lemmas.Map.Lookups.{exact_unsigned}
use Rattle.std.proofs.lemmas.Map.Views.{btree_set_contains_iff, btree_set_contains_from_list}
use Rattle.cop_bus.specs.declared.transfers.Transfer.{Transfer}
use Rattle.cop_figures.specs.declared.timelines.Lane.{Lane}
use Rattle.cop_figures.specs.Timelines.{lane_of, AreLanes}

-- a set made of a list has what the list has
same_members : (xs : List ℕ) (s : BTreeSet ℕ) → IsFromIterResult nat_cmp xs s → (id : ℕ) → Contains s.keys id ↔ Contains xs id
same_members xs s made id =
    let has : IsTrue (contains nat_cmp s id) ↔ Contains s.keys id = btree_set_contains_iff nat_cmp_total exact_unsigned s id in
    let from : IsTrue (contains nat_cmp s id) ↔ Contains xs id = btree_set_contains_from_list nat_cmp_total exact_unsigned xs s made id in
    ((λ h. from.0 (has.1 h)), (λ h. has.0 (from.1 h)))

-- the lanes of the identifiers that such a set has
pub lanes_are : (transfers : List Transfer) (s : BTreeSet ℕ) (lanes : List Lane) → IsFromIterResult nat_cmp (map (λ t. t.id) transfers) s → lanes ≡ map (lane_of transfers) s.keys → AreLanes transfers lanes
lanes_are transfers s lanes made are = record {
  ids = s.keys;
  rise = made.1;
  send = same_members (map (λ t. t.id) transfers) s made;
  are = are;
}
