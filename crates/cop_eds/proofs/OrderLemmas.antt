-- Objects that are collected by rising index and sub are sorted.
use Rattle.std.proofs.Common.{◌≡◌, ◌≤◌, ◌<◌, ◌+◌, ◌*◌, ℕ, zero, suc, Bool, true, false, cond, nat_lt, ◌==◌, List, [], ◌∷◌, ◌++◌, length, get_or, fold, Option, Some, None, Result, Ok, Err, refl, arith, append_assoc, subst, sym}
use Rattle.std.specs.List.{flat_map}
use Rattle.std.specs.Ordering.{nat_cmp, match_ordering}
use Rattle.std.specs.declared.cmp.Ordering.TheVariants.{Less, Equal, Greater}
use Rattle.std.specs.BTreeSet.{insert_key}
use Rattle.std.proofs.lemmas.List.Kept.{AllPairs-cons}
use Rattle.std.proofs.lemmas.Bool.Decides.{nat_tests}
use Rattle.cop_eds.specs.declared.fault.Refusal.{Refusal}
use Rattle.cop_eds.specs.declared.line.Place.{Place}
use Rattle.cop_eds.specs.declared.description.Access.{Access}
use Rattle.cop_eds.specs.declared.description.Description.{Description}
use Rattle.cop_eds.specs.declared.description.Object.{Object}
use Rattle.cop_eds.specs.Names.{object_code, sub_code}
use Rattle.cop_eds.specs.Sections.{coded_place}
use Rattle.cop_eds.specs.Description.{described, holds_value, holds_subs}
use Rattle.cop_eds.specs.Lists.{sub_found, subs_from, subs_of, listed}
use Rattle.cop_eds.specs.Objects.{with_access, object_in, sub_object, objects_by, objects_from, objects_at, rising, objects_listed, objects_of, is_before, AreSorted}

abbrev code : Object → ℕ
code object = object.index * 256 + object.sub

-- from one code on they rise, each with a sub of 8 bits
abbrev Rises : ℕ → List Object → Type 0
Rises low [] = Unit {0}
Rises low (object ∷ objects) = (low ≤ code object) × (object.sub ≤ 255) × Rises (code object + 1) objects

lower : (low high : ℕ) (xs : List Object) → low ≤ high → Rises high xs → Rises low xs
lower low high [] le h = tt
lower low high (x ∷ xs) le h = (omega (arith, h.0), h.1, h.2)

one : (index sub : ℕ) (place : Place) (d : Description) (access : Option Access) (ys : List Object) → sub ≤ 255
    → Rises (index * 256 + sub + 1) ys → Rises (index * 256 + sub) (with_access index sub place d access ++ ys)
one index sub place d None ys s h = lower (index * 256 + sub) (index * 256 + sub + 1) ys (omega arith) h
one index sub place d (Some access) ys s h = (omega arith, s, h)

object_rises : (index sub : ℕ) (place : Place) (r : Result Description Refusal) (ys : List Object) → sub ≤ 255
    → Rises (index * 256 + sub + 1) ys → Rises (index * 256 + sub) (object_in index sub place r ++ ys)
object_rises index sub place (Err e) ys s h = lower (index * 256 + sub) (index * 256 + sub + 1) ys (omega arith) h
object_rises index sub place (Ok d) ys s h = by_test (holds_value d.object_type)
  where
    by_test : (b : Bool) → Rises (index * 256 + sub) (cond b (with_access index sub place d d.access) [] ++ ys)
    by_test true = one index sub place d d.access ys s h
    by_test false = lower (index * 256 + sub) (index * 256 + sub + 1) ys (omega arith) h

subs_rise : (text : List ℕ) (index sub count : ℕ) (ys : List Object) → sub + count ≤ 256
    → Rises (index * 256 + (sub + count)) ys
    → Rises (index * 256 + sub) (flat_map (sub_object text index) (subs_from text index sub count) ++ ys)
unfolding subs_from
subs_rise text index sub zero ys le h = lower (index * 256 + sub) (index * 256 + (sub + 0)) ys (omega arith) h
subs_rise text index sub (suc count) ys le h =
    by_place (coded_place text (sub_code index sub))
    (subs_rise text index (sub + 1) count ys (omega arith) (lower (index * 256 + (sub + 1 + count)) (index * 256 + (sub + suc count)) ys (omega arith) h))
  where
    by_place : (o : Option Place) → Rises (index * 256 + (sub + 1)) (flat_map (sub_object text index) (subs_from text index (sub + 1) count) ++ ys)
        → Rises (index * 256 + sub) (flat_map (sub_object text index) (sub_found sub o ++ subs_from text index (sub + 1) count) ++ ys)
    by_place None later = lower (index * 256 + sub) (index * 256 + (sub + 1)) (flat_map (sub_object text index) (subs_from text index (sub + 1) count) ++ ys) (omega arith) later
    by_place (Some place) later =
        let rest = flat_map (sub_object text index) (subs_from text index (sub + 1) count) in
        rw append_assoc
        (object_rises index sub place (described text place) (rest ++ ys) (omega arith)
        (lower (index * 256 + sub + 1) (index * 256 + (sub + 1)) (rest ++ ys) (omega arith) later))

objects_at_rise : (text : List ℕ) (index : ℕ) (ys : List Object) → Rises (index * 256 + 256) ys → Rises (index * 256) (objects_at text index ++ ys)
unfolding objects_at
objects_at_rise text index ys h = by_bound (nat_lt 65535 index)
  where
    none : Rises (index * 256) ys
    none = lower (index * 256) (index * 256 + 256) ys (omega arith) h

    by_kind : (d : Description) (place : Place) → (b : Bool)
        → Rises (index * 256) (cond b (flat_map (sub_object text index) (subs_of text index)) (object_in index 0 place (Ok d)) ++ ys)
    by_kind d place true =
        lower (index * 256) (index * 256 + 0) (flat_map (sub_object text index) (subs_of text index) ++ ys) (omega arith)
        (subs_rise text index 0 256 ys (omega arith) (lower (index * 256 + (0 + 256)) (index * 256 + 256) ys (omega arith) h))
    by_kind d place false =
        lower (index * 256) (index * 256 + 0) (object_in index 0 place (Ok d) ++ ys) (omega arith)
        (object_rises index 0 place (Ok d) ys (omega arith) (lower (index * 256 + 0 + 1) (index * 256 + 256) ys (omega arith) h))

    by_described : (place : Place) → (r : Result Description Refusal) → Rises (index * 256) (objects_by text index place r ++ ys)
    by_described place (Err e) = none
    by_described place (Ok d) = by_kind d place (holds_subs d.object_type)

    by_place : (o : Option Place) → Rises (index * 256) (objects_from text index o ++ ys)
    by_place None = none
    by_place (Some place) = by_described place (described text place)

    by_bound : (b : Bool) → Rises (index * 256) (objects_from text index (cond b None (coded_place text (object_code index))) ++ ys)
    by_bound true = none
    by_bound false = by_place (coded_place text (object_code index))

-- numbers that rise from one on
unfoldable pub Increases : ℕ → List ℕ → Type 0
Increases low [] = Unit {0}
Increases low (x ∷ xs) = (low ≤ x) × Increases (x + 1) xs

insert_increases : (low k : ℕ) (xs : List ℕ) → low ≤ k → Increases low xs → Increases low (insert_key nat_cmp xs k)
unfolding Increases
insert_increases low k [] le h = (le, tt)
insert_increases low k (x ∷ xs) le h = by_test (nat_lt k x) refl (k == x) refl (λ past. insert_increases (x + 1) k xs past h.1)
  where
    by_test : (a : Bool) → nat_lt k x ≡ a → (b : Bool) → (k == x) ≡ b → (x + 1 ≤ k → Increases (x + 1) (insert_key nat_cmp xs k))
        → Increases low (match_ordering (cond a Less (cond b Equal Greater)) (k ∷ x ∷ xs) (x ∷ xs) (x ∷ insert_key nat_cmp xs k))
    by_test true less b same later = (le, (grind (arith, nat_tests), h.1))
    by_test false less true same later = h
    by_test false less false same later = (h.0, later (grind (arith, nat_tests)))

pub fold_increases : (found xs : List ℕ) → Increases 0 found → Increases 0 (fold (insert_key nat_cmp) found xs)
fold_increases found [] h = h
fold_increases found (x ∷ xs) h = fold_increases (insert_key nat_cmp found x) xs (insert_increases 0 x found (omega arith) h)

listed_rise : (text : List ℕ) (low : ℕ) (xs : List ℕ) → Increases low xs → Rises (low * 256) (flat_map (objects_at text) xs)
unfolding Increases
listed_rise text low [] h = tt
listed_rise text low (x ∷ xs) h =
    let rest = flat_map (objects_at text) xs in
    lower (low * 256) (x * 256) (objects_at text x ++ rest) (omega arith)
    (objects_at_rise text x rest (lower (x * 256 + 256) ((x + 1) * 256) rest (omega arith) (listed_rise text (x + 1) xs h.1)))

rises_at : (low : ℕ) (xs : List Object) (i : ℕ) (d : Object) → Rises low xs → i < length xs
    → (low ≤ code (get_or xs i d)) × ((get_or xs i d).sub ≤ 255)
rises_at low [] i d h lt = absurd (omega arith)
rises_at low (x ∷ xs) zero d h lt = (h.0, h.1)
rises_at low (x ∷ xs) (suc i) d h lt =
    let later = rises_at (code x + 1) xs i d h.2 (omega arith) in
    (omega (arith, h.0, later.0), later.1)

before : (a b : Object) → code a + 1 ≤ code b → a.sub ≤ 255 → b.sub ≤ 255 → is_before b.index b.sub a ≡ true
before a b le s t = grind (arith, nat_tests)

rises_sorted : (low : ℕ) (xs : List Object) → Rises low xs → AreSorted xs
rises_sorted low [] h = λ i j d lt inside. absurd (omega arith)
rises_sorted low (x ∷ xs) h =
    AllPairs-cons (λ object later. is_before later.index later.sub object ≡ true) x xs
    (λ k d lt. let later = rises_at (code x + 1) xs k d h.2 lt in before x (get_or xs k d) later.0 h.1 later.1)
    (rises_sorted (code x + 1) xs h.2)

-- the objects at the indexes of a list are sorted
collected_sorted : (text : List ℕ) (indexes : List ℕ) → AreSorted (flat_map (objects_at text) (rising indexes))
unfolding rising Increases
collected_sorted text indexes = rises_sorted 0 (flat_map (objects_at text) (rising indexes)) (listed_rise text 0 (rising indexes) (fold_increases [] indexes tt))

pub objects_sorted : (text : List ℕ) → AreSorted (objects_of text)
objects_sorted text = by_listed (listed text)
  where
    by_listed : (r : Result (List ℕ) Refusal) → AreSorted (objects_listed text r)
    by_listed (Err e) = λ i j d lt inside. absurd (omega arith)
    by_listed (Ok indexes) = collected_sorted text indexes

pub held_sorted : (text : List ℕ) (objects : List Object) → objects ≡ objects_of text → AreSorted objects
held_sorted text objects held = subst AreSorted (sym held) (objects_sorted text)
