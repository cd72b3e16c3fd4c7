-- Look-ups in entries that rise by index and sub.
use Rattle.std.proofs.Common.{◌≡◌, ◌≤◌, ◌<◌, ◌≢◌, ℕ, zero, suc, Bool, true, false, ◌==◌, nat_lt, List, [], ◌∷◌, length, get_or, slice_index_or, find, Some, None, refl, arith}
use Rattle.std.proofs.lemmas.List.{get_or_default}
use Rattle.std.specs.List.{list_any}
use Rattle.std.specs.List.Sorted.{IsPartitionedBy, IsPartitionPoint}
use Rattle.std.proofs.lemmas.List.Folds.{list_any_at, list_any_none}
use Rattle.std.proofs.lemmas.Bool.Decides.{nat_tests}
use Rattle.cop_dict.specs.Find.{Entry, is_at, is_before, entry_at, IsSorted}

before_trans : (a b : Entry) (index sub : ℕ) → is_before b.index b.sub a ≡ true → is_before index sub b ≡ true → is_before index sub a ≡ true
before_trans a b index sub h k = grind (arith, nat_tests)

-- what stands before an address isn't there
before_apart : (a : Entry) (index sub : ℕ) → is_before index sub a ≡ true → is_at index sub a ≡ false
before_apart a index sub h = grind (arith, nat_tests)

-- nor is what stands after something there, or after something that stands behind it
after_apart : (a b : Entry) (index sub : ℕ) → is_before b.index b.sub a ≡ true → is_before index sub a ≡ false → is_at index sub b ≡ false
after_apart a b index sub h k = grind (arith, nat_tests)

-- entries that stand before an address come first
pub parted : (dict : List Entry) (index sub : ℕ) → IsSorted dict → IsPartitionedBy (is_before index sub) dict
parted dict index sub sorted i j d le inside h = by_order (nat_lt i j) refl
  where
    by_order : (b : Bool) → nat_lt i j ≡ b → is_before index sub (slice_index_or dict i d) ≡ true
    by_order true lt = before_trans (slice_index_or dict i d) (slice_index_or dict j d) index sub (sorted i j d (grind (arith, nat_tests)) inside) h
    by_order false ge = let same : i ≡ j = grind (arith, nat_tests) in rw same h

find_none : {X : Type 0} (p : X → Bool) (xs : List X) → ((k : ℕ) (d : X) → k < length xs → p (get_or xs k d) ≡ false) → find p xs ≡ None
find_none p [] none = refl
find_none p (x ∷ xs) none =
    let no : p x ≡ false = none 0 x (omega arith) in
    rw no (find_none p xs (λ k d lt. none (suc k) d (omega arith)))

find_here : {X : Type 0} (p : X → Bool) (xs : List X) (i : ℕ) (d : X) → i < length xs → p (get_or xs i d) ≡ true → ((k : ℕ) → k < i → p (get_or xs k d) ≡ false) → find p xs ≡ Some (get_or xs i d)
find_here p [] i d lt here before = absurd (omega arith)
find_here p (x ∷ xs) zero d lt here before = rw here refl
find_here p (x ∷ xs) (suc i) d lt here before =
    let no : p x ≡ false = before 0 (omega arith) in
    rw no (find_here p xs i d (omega arith) here (λ k lt. before (suc k) (omega arith)))

-- the entry that stands at an address is the one found there
pub entry_here : (dict : List Entry) (index sub i : ℕ) (d : Entry) → IsSorted dict → i < length dict → is_at index sub (get_or dict i d) ≡ true
    → entry_at dict index sub ≡ Some (get_or dict i d)
entry_here dict index sub i d sorted inside here = find_here (is_at index sub) dict i d inside here (λ k lt. apart_here (get_or dict k d) (get_or dict i d) (sorted k i d lt inside) here)
  where
    apart_here : (a b : Entry) → is_before b.index b.sub a ≡ true → is_at index sub b ≡ true → is_at index sub a ≡ false
    apart_here a b h k = grind (arith, nat_tests)

-- no other entry stands at its address
pub others_apart : (dict : List Entry) (index sub i k : ℕ) (d : Entry) → IsSorted dict → i < length dict → k < length dict → is_at index sub (get_or dict i d) ≡ true → i ≢ k
    → is_at index sub (get_or dict k d) ≡ false
others_apart dict index sub i k d sorted inside within here differ = by_order (nat_lt k i) refl
  where
    earlier : (a b : Entry) → is_before b.index b.sub a ≡ true → is_at index sub b ≡ true → is_at index sub a ≡ false
    earlier a b h k = grind (arith, nat_tests)

    later : (a b : Entry) → is_before b.index b.sub a ≡ true → is_at index sub a ≡ true → is_at index sub b ≡ false
    later a b h k = grind (arith, nat_tests)

    by_order : (b : Bool) → nat_lt k i ≡ b → is_at index sub (get_or dict k d) ≡ false
    by_order true lt = earlier (get_or dict k d) (get_or dict i d) (sorted k i d (grind (arith, nat_tests)) inside) here
    by_order false ge =
        let lt : i < k = grind (arith, nat_tests, differ) in
        later (get_or dict i d) (get_or dict k d) (sorted i k d lt within) here

-- where the first entry that doesn't stand before an address isn't there, nothing is
pub none_at : (dict : List Entry) (index sub i : ℕ) → IsSorted dict
    → IsPartitionPoint (λ entry. is_before index sub entry ≡ true) (λ entry. is_before index sub entry ≡ false) dict i
    → ((d : Entry) → i < length dict → is_at index sub (get_or dict i d) ≡ false) → entry_at dict index sub ≡ None
none_at dict index sub i sorted point here = find_none (is_at index sub) dict (λ k d lt. by_order k d lt (nat_lt k i) refl (nat_lt i k) refl)
  where
    by_order : (k : ℕ) (d : Entry) → k < length dict → (a : Bool) → nat_lt k i ≡ a → (b : Bool) → nat_lt i k ≡ b → is_at index sub (get_or dict k d) ≡ false
    by_order k d lt true less b other = before_apart (get_or dict k d) index sub (point.0 k d (omega arith) (grind (arith, nat_tests)))
    by_order k d lt false ge true more =
        let past : i < k = grind (arith, nat_tests) in
        after_apart (get_or dict i d) (get_or dict k d) index sub (sorted i k d past lt) (point.1 i d (omega arith) (omega arith))
    by_order k d lt false ge false le = let same : i ≡ k = grind (arith, nat_tests) in rw (← same) (here d (rw (← same) at lt))

index_by : (dict : List Entry) (index i : ℕ) → IsSorted dict
    → IsPartitionPoint (λ entry. is_before index 0 entry ≡ true) (λ entry. is_before index 0 entry ≡ false) dict i
    → ((d : Entry) → i < length dict → ((get_or dict i d).index == index) ≡ false) → list_any (λ entry. entry.index == index) dict ≡ false
index_by dict index i sorted point here = list_any_none (λ entry. entry.index == index) dict (λ k d lt. by_order k d lt (nat_lt k i) refl (nat_lt i k) refl)
  where
    less_apart : (a : Entry) → is_before index 0 a ≡ true → (a.index == index) ≡ false
    less_apart a h = grind (arith, nat_tests)

    more_apart : (a b : Entry) → is_before b.index b.sub a ≡ true → is_before index 0 a ≡ false → (a.index == index) ≡ false → (b.index == index) ≡ false
    more_apart a b h k other = grind (arith, nat_tests)

    by_order : (k : ℕ) (d : Entry) → k < length dict → (a : Bool) → nat_lt k i ≡ a → (b : Bool) → nat_lt i k ≡ b → ((get_or dict k d).index == index) ≡ false
    by_order k d lt true less b other = less_apart (get_or dict k d) (point.0 k d (omega arith) (grind (arith, nat_tests)))
    by_order k d lt false ge true more =
        let past : i < k = grind (arith, nat_tests) in
        more_apart (get_or dict i d) (get_or dict k d) (sorted i k d past lt) (point.1 i d (omega arith) (omega arith)) (here d (omega arith))
    by_order k d lt false ge false le = let same : i ≡ k = grind (arith, nat_tests) in rw (← same) (here d (rw (← same) at lt))

-- an index is there exactly where the first entry that doesn't stand before its sub 0 has it
pub any_index : (dict : List Entry) (index i : ℕ) (d : Entry) → IsSorted dict
    → IsPartitionPoint (λ entry. is_before index 0 entry ≡ true) (λ entry. is_before index 0 entry ≡ false) dict i
    → i < length dict → list_any (λ entry. entry.index == index) dict ≡ ((get_or dict i d).index == index)
any_index dict index i d sorted point inside = by_test ((get_or dict i d).index == index) refl
  where
    by_test : (b : Bool) → ((get_or dict i d).index == index) ≡ b → list_any (λ entry. entry.index == index) dict ≡ b
    by_test true here = list_any_at (λ entry. entry.index == index) dict i d inside here
    by_test false apart = index_by dict index i sorted point (λ e lt. rw (get_or_default dict i e d lt) apart)

pub no_index : (dict : List Entry) (index i : ℕ) → IsSorted dict
    → IsPartitionPoint (λ entry. is_before index 0 entry ≡ true) (λ entry. is_before index 0 entry ≡ false) dict i
    → length dict ≤ i → list_any (λ entry. entry.index == index) dict ≡ false
no_index dict index i sorted point outside = index_by dict index i sorted point (λ d lt. absurd (omega arith))
