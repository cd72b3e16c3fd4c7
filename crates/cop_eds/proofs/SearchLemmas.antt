-- Look-ups in objects that are sorted by index and sub.
use Rattle.std.proofs.Common.{◌≡◌, ◌<◌, ℕ, zero, suc, Bool, true, false, nat_lt, List, [], ◌∷◌, length, get_or, find, Some, None, refl, arith}
use Rattle.std.specs.List.Sorted.{IsPartitionedBy, IsPartitionPoint}
use Rattle.std.proofs.lemmas.Bool.Decides.{nat_tests}
use Rattle.cop_eds.specs.declared.description.Object.{Object}
use Rattle.cop_eds.specs.Objects.{is_at, is_before, AreSorted}

before_trans : (a b : Object) (index sub : ℕ) → is_before b.index b.sub a ≡ true → is_before index sub b ≡ true → is_before index sub a ≡ true
before_trans a b index sub h k = grind (arith, nat_tests)

-- what stands before an address isn't there
before_apart : (a : Object) (index sub : ℕ) → is_before index sub a ≡ true → is_at index sub a ≡ false
before_apart a index sub h = grind (arith, nat_tests)

-- nor is what stands after something there, or after something that stands behind it
after_apart : (a b : Object) (index sub : ℕ) → is_before b.index b.sub a ≡ true → is_before index sub a ≡ false → is_at index sub b ≡ false
after_apart a b index sub h k = grind (arith, nat_tests)

-- objects that stand before an address come first
pub parted : (objects : List Object) (index sub : ℕ) → AreSorted objects → IsPartitionedBy (is_before index sub) objects
parted objects index sub sorted i j d le inside h = by_order (nat_lt i j) refl
  where
    by_order : (b : Bool) → nat_lt i j ≡ b → is_before index sub (get_or objects i d) ≡ true
    by_order true lt = before_trans (get_or objects i d) (get_or objects j d) index sub (sorted i j d (grind (arith, nat_tests)) inside) h
    by_order false ge = let same : i ≡ j = grind (arith, nat_tests) in rw same h

find_none : {X : Type 0} (p : X → Bool) (xs : List X) → ((k : ℕ) (d : X) → k < length xs → p (get_or xs k d) ≡ false) → find p xs ≡ None
find_none p [] none = refl
find_none p (x ∷ xs) none =
    let no : p x ≡ false = none 0 x (omega arith) in
    rw no (find_none p xs (λ k d lt. none (suc k) d (omega arith)))

find_here : {X : Type 0} (p : X → Bool) (xs : List X) (i : ℕ) (d : X) → i < length xs → p (get_or xs i d) ≡ true → ((k : ℕ) → k < i → p (get_or xs k d) ≡ false) → find p xs ≡ Some (get_or xs i d)
find_here p [] i d lt here before = absurd (omega arith)
find_here p (x ∷ xs) zero d lt here before = rw here refl
find_here p (x ∷ xs) (suc i) d lt here before =
    let no : p x ≡ false = before 0 (omega arith) in
    rw no (find_here p xs i d (omega arith) here (λ k lt. before (suc k) (omega arith)))

-- the object that stands at an address is the one found there
pub object_here : (objects : List Object) (index sub i : ℕ) (d : Object) → AreSorted objects → i < length objects → is_at index sub (get_or objects i d) ≡ true
    → find (is_at index sub) objects ≡ Some (get_or objects i d)
object_here objects index sub i d sorted inside here = find_here (is_at index sub) objects i d inside here (λ k lt. apart_here (get_or objects k d) (get_or objects i d) (sorted k i d lt inside) here)
  where
    apart_here : (a b : Object) → is_before b.index b.sub a ≡ true → is_at index sub b ≡ true → is_at index sub a ≡ false
    apart_here a b h k = grind (arith, nat_tests)

-- where the first object that doesn't stand before an address isn't there, nothing is
pub none_at : (objects : List Object) (index sub i : ℕ) → AreSorted objects
    → IsPartitionPoint (λ object. is_before index sub object ≡ true) (λ object. is_before index sub object ≡ false) objects i
    → ((d : Object) → i < length objects → is_at index sub (get_or objects i d) ≡ false) → find (is_at index sub) objects ≡ None
none_at objects index sub i sorted point here = find_none (is_at index sub) objects (λ k d lt. by_order k d lt (nat_lt k i) refl (nat_lt i k) refl)
  where
    by_order : (k : ℕ) (d : Object) → k < length objects → (a : Bool) → nat_lt k i ≡ a → (b : Bool) → nat_lt i k ≡ b → is_at index sub (get_or objects k d) ≡ false
    by_order k d lt true less b other = before_apart (get_or objects k d) index sub (point.0 k d (omega arith) (grind (arith, nat_tests)))
    by_order k d lt false ge true more =
        let past : i < k = grind (arith, nat_tests) in
        after_apart (get_or objects i d) (get_or objects k d) index sub (sorted i k d past lt) (point.1 i d (omega arith) (omega arith))
    by_order k d lt false ge false le = let same : i ≡ k = grind (arith, nat_tests) in rw (← same) (here d (rw (← same) at lt))
