-- The objects of a text rise by index and sub.
use Rattle.std.proofs.Common.{◌≡◌, ◌≤◌, ◌<◌, ◌+◌, ◌*◌, ℕ, zero, suc, Bool, true, false, cond, nat_lt, ◌==◌, List, [], ◌∷◌, ◌++◌, length, get_or, fold, Option, Some, None, Result, Ok, Err, refl, arith, append_assoc}
use Rattle.std.specs.List.{flat_map}
use Rattle.std.specs.Ordering.{nat_cmp, match_ordering}
use Rattle.std.specs.declared.cmp.Ordering.TheVariants.{Less, Equal, Greater}
use Rattle.std.specs.BTreeSet.{insert_key}
use Rattle.std.proofs.lemmas.List.Kept.{AllPairs-cons}
use Rattle.std.proofs.lemmas.Bool.Decides.{nat_tests}
use Rattle.cop_eds.specs.declared.fault.Refusal.{Refusal}
use Rattle.cop_eds.specs.declared.line.Place.{Place}
use Rattle.cop_eds.specs.declared.description.Access.{Access}
use Rattle.cop_eds.specs.declared.description.Description.{Description}
use Rattle.cop_eds.specs.declared.description.Object.{Object}
use Rattle.cop_eds.specs.Names.{object_code, sub_code}
use Rattle.cop_eds.specs.Sections.{coded_place}
use Rattle.cop_eds.specs.Description.{described, holds_value, holds_subs}
use Rattle.cop_eds.specs.Lists.{listed, sub_found, subs_from, subs_of}
use Rattle.cop_eds.specs.Objects.{with_access, object_in, sub_object, objects_by, objects_from, objects_at, rising, objects_listed, objects_of}
use Rattle.cop_dict.specs.Find.{Entry, is_before, IsSorted}

abbrev pub code : ℕ × ℕ → ℕ
code address = address.0 * 256 + address.1

-- from one code on the addresses rise, each of an index of 16 bits and a sub of 8
abbrev pub Rises : {X : Type 0} → (X → ℕ × ℕ) → ℕ → List X → Type 0
Rises address low [] = Unit {0}
Rises address low (x ∷ xs) =
    (low ≤ code (address x)) × ((address x).0 ≤ 65535) × ((address x).1 ≤ 255) × Rises address (code (address x) + 1) xs

abbrev pub place_of_object : Object → ℕ × ℕ
place_of_object object = (object.index, object.sub)

abbrev pub place_of_entry : Entry → ℕ × ℕ
place_of_entry entry = (entry.index, entry.sub)

lower : {X : Type 0} (address : X → ℕ × ℕ) (low high : ℕ) (xs : List X) → low ≤ high → Rises address high xs → Rises address low xs
lower address low high [] le h = tt
lower address low high (x ∷ xs) le h = (omega (arith, h.0), h.1, h.2, h.3)

one : (index sub : ℕ) (place : Place) (d : Description) (access : Option Access) (ys : List Object) → index ≤ 65535 → sub ≤ 255
    → Rises place_of_object (index * 256 + sub + 1) ys → Rises place_of_object (index * 256 + sub) (with_access index sub place d access ++ ys)
one index sub place d None ys i s h = lower place_of_object (index * 256 + sub) (index * 256 + sub + 1) ys (omega arith) h
one index sub place d (Some access) ys i s h = (omega arith, i, s, h)

object_rises : (index sub : ℕ) (place : Place) (r : Result Description Refusal) (ys : List Object) → index ≤ 65535 → sub ≤ 255
    → Rises place_of_object (index * 256 + sub + 1) ys → Rises place_of_object (index * 256 + sub) (object_in index sub place r ++ ys)
object_rises index sub place (Err e) ys i s h = lower place_of_object (index * 256 + sub) (index * 256 + sub + 1) ys (omega arith) h
object_rises index sub place (Ok d) ys i s h = by_test (holds_value d.object_type)
  where
    by_test : (b : Bool) → Rises place_of_object (index * 256 + sub) (cond b (with_access index sub place d d.access) [] ++ ys)
    by_test true = one index sub place d d.access ys i s h
    by_test false = lower place_of_object (index * 256 + sub) (index * 256 + sub + 1) ys (omega arith) h

subs_rise : (text : List ℕ) (index sub count : ℕ) (ys : List Object) → index ≤ 65535 → sub + count ≤ 256
    → Rises place_of_object (index * 256 + (sub + count)) ys
    → Rises place_of_object (index * 256 + sub) (flat_map (sub_object text index) (subs_from text index sub count) ++ ys)
unfolding subs_from
subs_rise text index sub zero ys i le h = lower place_of_object (index * 256 + sub) (index * 256 + (sub + 0)) ys (omega arith) h
subs_rise text index sub (suc count) ys i le h =
    by_place (coded_place text (sub_code index sub))
    (subs_rise text index (sub + 1) count ys i (omega arith) (lower place_of_object (index * 256 + (sub + 1 + count)) (index * 256 + (sub + suc count)) ys (omega arith) h))
  where
    by_place : (o : Option Place) → Rises place_of_object (index * 256 + (sub + 1)) (flat_map (sub_object text index) (subs_from text index (sub + 1) count) ++ ys)
        → Rises place_of_object (index * 256 + sub) (flat_map (sub_object text index) (sub_found sub o ++ subs_from text index (sub + 1) count) ++ ys)
    by_place None later = lower place_of_object (index * 256 + sub) (index * 256 + (sub + 1)) (flat_map (sub_object text index) (subs_from text index (sub + 1) count) ++ ys) (omega arith) later
    by_place (Some place) later =
        let rest = flat_map (sub_object text index) (subs_from text index (sub + 1) count) in
        rw append_assoc
        (object_rises index sub place (described text place) (rest ++ ys) i (omega arith)
        (lower place_of_object (index * 256 + sub + 1) (index * 256 + (sub + 1)) (rest ++ ys) (omega arith) later))

objects_at_rise : (text : List ℕ) (index : ℕ) (ys : List Object) → Rises place_of_object (index * 256 + 256) ys → Rises place_of_object (index * 256) (objects_at text index ++ ys)
unfolding objects_at
objects_at_rise text index ys h = by_bound (nat_lt 65535 index) refl
  where
    none : Rises place_of_object (index * 256) ys
    none = lower place_of_object (index * 256) (index * 256 + 256) ys (omega arith) h

    by_kind : (d : Description) (place : Place) → index ≤ 65535 → (b : Bool)
        → Rises place_of_object (index * 256) (cond b (flat_map (sub_object text index) (subs_of text index)) (object_in index 0 place (Ok d)) ++ ys)
    by_kind d place i true =
        lower place_of_object (index * 256) (index * 256 + 0) (flat_map (sub_object text index) (subs_of text index) ++ ys) (omega arith)
        (subs_rise text index 0 256 ys i (omega arith) (lower place_of_object (index * 256 + (0 + 256)) (index * 256 + 256) ys (omega arith) h))
    by_kind d place i false =
        lower place_of_object (index * 256) (index * 256 + 0) (object_in index 0 place (Ok d) ++ ys) (omega arith)
        (object_rises index 0 place (Ok d) ys i (omega arith) (lower place_of_object (index * 256 + 0 + 1) (index * 256 + 256) ys (omega arith) h))

    by_described : (place : Place) → index ≤ 65535 → (r : Result Description Refusal) → Rises place_of_object (index * 256) (objects_by text index place r ++ ys)
    by_described place i (Err e) = none
    by_described place i (Ok d) = by_kind d place i (holds_subs d.object_type)

    by_place : index ≤ 65535 → (o : Option Place) → Rises place_of_object (index * 256) (objects_from text index o ++ ys)
    by_place i None = none
    by_place i (Some place) = by_described place i (described text place)

    by_bound : (b : Bool) → nat_lt 65535 index ≡ b → Rises place_of_object (index * 256) (objects_from text index (cond b None (coded_place text (object_code index))) ++ ys)
    by_bound true t = none
    by_bound false t = by_place (grind (arith, nat_tests)) (coded_place text (object_code index))

-- numbers that rise from one on
Increases : ℕ → List ℕ → Type 0
Increases low [] = Unit {0}
Increases low (x ∷ xs) = (low ≤ x) × Increases (x + 1) xs

insert_increases : (low k : ℕ) (xs : List ℕ) → low ≤ k → Increases low xs → Increases low (insert_key nat_cmp xs k)
unfolding Increases
insert_increases low k [] le h = (le, tt)
insert_increases low k (x ∷ xs) le h = by_test (nat_lt k x) refl (k == x) refl (λ past. insert_increases (x + 1) k xs past h.1)
  where
    by_test : (a : Bool) → nat_lt k x ≡ a → (b : Bool) → (k == x) ≡ b → (x + 1 ≤ k → Increases (x + 1) (insert_key nat_cmp xs k))
        → Increases low (match_ordering (cond a Less (cond b Equal Greater)) (k ∷ x ∷ xs) (x ∷ xs) (x ∷ insert_key nat_cmp xs k))
    by_test true less b same later = (le, (grind (arith, nat_tests), h.1))
    by_test false less true same later = h
    by_test false less false same later = (h.0, later (grind (arith, nat_tests)))

fold_increases : (found xs : List ℕ) → Increases 0 found → Increases 0 (fold (insert_key nat_cmp) found xs)
fold_increases found [] h = h
fold_increases found (x ∷ xs) h = fold_increases (insert_key nat_cmp found x) xs (insert_increases 0 x found (omega arith) h)

listed_rise : (text : List ℕ) (low : ℕ) (xs : List ℕ) → Increases low xs → Rises place_of_object (low * 256) (flat_map (objects_at text) xs)
unfolding Increases
listed_rise text low [] h = tt
listed_rise text low (x ∷ xs) h =
    let rest = flat_map (objects_at text) xs in
    lower place_of_object (low * 256) (x * 256) (objects_at text x ++ rest) (omega arith)
    (objects_at_rise text x rest (lower place_of_object (x * 256 + 256) ((x + 1) * 256) rest (omega arith) (listed_rise text (x + 1) xs h.1)))

-- the objects of a text rise by index and sub
pub objects_rise : (text : List ℕ) → Rises place_of_object 0 (objects_of text)
unfolding rising Increases
objects_rise text = by_listed (listed text)
  where
    by_listed : (r : Result (List ℕ) Refusal) → Rises place_of_object 0 (objects_listed text r)
    by_listed (Err e) = tt
    by_listed (Ok indexes) = listed_rise text 0 (rising indexes) (fold_increases [] indexes tt)

pub rises_at : {X : Type 0} (address : X → ℕ × ℕ) (low : ℕ) (xs : List X) (i : ℕ) (d : X) → Rises address low xs → i < length xs
    → (low ≤ code (address (get_or xs i d))) × ((address (get_or xs i d)).0 ≤ 65535) × ((address (get_or xs i d)).1 ≤ 255)
rises_at address low [] i d h lt = absurd (omega arith)
rises_at address low (x ∷ xs) zero d h lt = (h.0, h.1, h.2)
rises_at address low (x ∷ xs) (suc i) d h lt =
    let later = rises_at address (code (address x) + 1) xs i d h.3 (omega arith) in
    (omega (arith, h.0, later.0), later.1, later.2)

before : (a b : Entry) → a.index * 256 + a.sub + 1 ≤ b.index * 256 + b.sub → a.sub ≤ 255 → b.sub ≤ 255 → is_before b.index b.sub a ≡ true
before a b le s t = grind (arith, nat_tests)

-- entries that rise are sorted
pub rises_sorted : (low : ℕ) (dict : List Entry) → Rises place_of_entry low dict → IsSorted dict
rises_sorted low [] h = λ i j d lt inside. absurd (omega arith)
rises_sorted low (e ∷ dict) h =
    AllPairs-cons (λ entry later. is_before later.index later.sub entry ≡ true) e dict
    (λ k d lt. let later = rises_at place_of_entry (code (place_of_entry e) + 1) dict k d h.3 lt in before e (get_or dict k d) later.0 h.2 later.2)
    (rises_sorted (code (place_of_entry e) + 1) dict h.3)
