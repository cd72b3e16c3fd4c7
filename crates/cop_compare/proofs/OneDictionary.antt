-- Two texts whose dictionaries do not differ describe one dictionary.
use Rattle.std.proofs.Common.{◌≡◌, ◌+◌, ◌==◌, ℕ, Bool, true, false, List, [], ◌∷◌, map, option_and_then, Option, Some, None, Ok, refl, sym, ap, ◌∙◌, arith}
use Rattle.std.proofs.lemmas.Bool.{eqb-true, and_parts}
use Rattle.std.proofs.lemmas.Bool.Decides.{nat_tests}
use Rattle.cop_dict.specs.declared.description.Description.{Description}
use Rattle.cop_dict.specs.Find.{Entry, AreAlike, is_at, is_before, entry_at, IsSorted, unsigned32_of}
use Rattle.cop_dict.specs.Dict.{as_built}
use Rattle.cop_dict.specs.Build.{built}
use Rattle.cop_dict.proofs.BuildLemmas.{built_sorted}
use Rattle.cop_dict.proofs.BuiltLemmas.{built_stays}
use Rattle.cop_compare.specs.declared.difference.Difference.{Difference}
use Rattle.cop_compare.specs.Differences.{change_at, AreDifferences}
use Rattle.cop_compare.specs.Identifiers.{identifier_in, identifier_of}
use Rattle.cop_compare.specs.Laws.{AreAlikeThere, AreAlikeEverywhere}
use Rattle.cop_compare.proofs.Walk.{none_until, after_first, before_begins, sorted_rest, at_first, none_there}
use Rattle.cop_compare.proofs.LawLemmas.{unchanged, alike_of_none}

-- ---- of one address

abbrev settled : Entry → Entry
settled entry = record entry { initial = entry.value }

both_there : (a b : Entry) (x y : Option Entry) → x ≡ Some a → y ≡ Some b → AreAlikeThere x y → AreAlike a b
both_there a b x y p q h = rw (p, q) at h

old_alone : (a : Entry) (x y : Option Entry) → x ≡ Some a → y ≡ None → AreAlikeThere x y → ⊥
old_alone a x y p q h = rw (p, q) at h

new_alone : (b : Entry) (x y : Option Entry) → x ≡ None → y ≡ Some b → AreAlikeThere x y → ⊥
new_alone b x y p q h = rw (p, q) at h

none_alike : (x y : Option Entry) → x ≡ None → y ≡ None → AreAlikeThere x y
none_alike x y p q = rw (p, q) tt

moved : (x y v w : Option Entry) → v ≡ x → w ≡ y → AreAlikeThere v w → AreAlikeThere x y
moved x y v w p q h = rw (p, q) at h

abbrev entry : ℕ → ℕ → Description → List ℕ → Entry
entry index sub description value = record { index = index; sub = sub; description = description; initial = value; value = value }

one_entry : (i s j t : ℕ) (d e : Description) (v w : List ℕ) → i ≡ j → s ≡ t → d ≡ e → v ≡ w → entry i s d v ≡ entry j t e w
one_entry i s j t d e v w a b f g = rw (a, b, f, g) refl

same_entry : (x y : Entry) → is_at x.index x.sub y ≡ true → AreAlike x y → settled y ≡ settled x
same_entry x y at h =
    let parts = and_parts (y.index == x.index) (y.sub == x.sub) at in
    one_entry y.index y.sub x.index x.sub y.description x.description y.value x.value (eqb-true y.index x.index parts.0) (eqb-true y.sub x.sub parts.1) h.0 h.1

-- ---- of sorted lists

at_one_address : (x y : Entry) → is_before y.index y.sub x ≡ false → is_before x.index x.sub y ≡ false → is_at x.index x.sub y ≡ true
at_one_address x y a b = grind (arith, nat_tests)

there_too : (x y : Entry) (ys : List Entry) → is_at x.index x.sub y ≡ true → entry_at (y ∷ ys) x.index x.sub ≡ Some y
there_too x y ys at = rw at refl

none_before : (x y : Entry) (ys : List Entry) → IsSorted (y ∷ ys) → is_before y.index y.sub x ≡ true → entry_at (y ∷ ys) x.index x.sub ≡ None
none_before x y ys sorted lt = none_there x (y ∷ ys) (before_begins x.index x.sub y ys sorted lt)

behind : (index sub : ℕ) (x : Entry) (xs : List Entry) → IsSorted (x ∷ xs) → is_at index sub x ≡ true → entry_at xs index sub ≡ None
behind index sub x xs sorted at = none_until x.index x.sub index sub xs (after_first x xs sorted) (not_before index sub x at)
  where
    not_before : (index sub : ℕ) (x : Entry) → is_at index sub x ≡ true → is_before index sub x ≡ false
    not_before index sub x at = grind (arith, nat_tests)

rest_alike : (x y : Entry) (xs ys : List Entry) → IsSorted (x ∷ xs) → IsSorted (y ∷ ys) → is_at x.index x.sub y ≡ true → AreAlikeEverywhere (x ∷ xs) (y ∷ ys) → AreAlikeEverywhere xs ys
rest_alike x y xs ys p q at alike index sub = by_test (is_at index sub x) refl (is_at index sub y) refl
  where
    only_x : (index sub : ℕ) (x y : Entry) → is_at x.index x.sub y ≡ true → is_at index sub x ≡ true → is_at index sub y ≡ false → ⊥
    only_x index sub x y at h k = grind (arith, nat_tests)

    only_y : (index sub : ℕ) (x y : Entry) → is_at x.index x.sub y ≡ true → is_at index sub x ≡ false → is_at index sub y ≡ true → ⊥
    only_y index sub x y at h k = grind (arith, nat_tests)

    by_test : (a : Bool) → is_at index sub x ≡ a → (b : Bool) → is_at index sub y ≡ b → AreAlikeThere (entry_at xs index sub) (entry_at ys index sub)
    by_test true s true t = none_alike (entry_at xs index sub) (entry_at ys index sub) (behind index sub x xs p s) (behind index sub y ys q t)
    by_test true s false t = absurd (only_x index sub x y at s t)
    by_test false s true t = absurd (only_y index sub x y at s t)
    by_test false s false t =
        moved (entry_at xs index sub) (entry_at ys index sub) (entry_at (x ∷ xs) index sub) (entry_at (y ∷ ys) index sub) (rw s refl) (rw t refl) (alike index sub)

alike_settled : (xs ys : List Entry) → IsSorted xs → IsSorted ys → AreAlikeEverywhere xs ys → map settled ys ≡ map settled xs
alike_settled [] [] p q alike = refl
alike_settled [] (y ∷ ys) p q alike = absurd (new_alone y (entry_at [] y.index y.sub) (entry_at (y ∷ ys) y.index y.sub) refl (at_first y ys) (alike y.index y.sub))
alike_settled (x ∷ xs) [] p q alike = absurd (old_alone x (entry_at (x ∷ xs) x.index x.sub) (entry_at [] x.index x.sub) (at_first x xs) refl (alike x.index x.sub))
alike_settled (x ∷ xs) (y ∷ ys) p q alike =
    by_order (is_before y.index y.sub x) refl (is_before x.index x.sub y) refl (λ rest. alike_settled xs ys (sorted_rest x xs p) (sorted_rest y ys q) rest)
  where
    at_one : is_at x.index x.sub y ≡ true → (AreAlikeEverywhere xs ys → map settled ys ≡ map settled xs) → settled y ∷ map settled ys ≡ settled x ∷ map settled xs
    at_one at later =
        let first = same_entry x y at (both_there x y (entry_at (x ∷ xs) x.index x.sub) (entry_at (y ∷ ys) x.index x.sub) (at_first x xs) (there_too x y ys at) (alike x.index x.sub)) in
        let rest = later (rest_alike x y xs ys p q at alike) in
        ap (λ e. e ∷ map settled ys) first ∙ ap (λ es. settled x ∷ es) rest

    by_order : (a : Bool) → is_before y.index y.sub x ≡ a → (b : Bool) → is_before x.index x.sub y ≡ b → (AreAlikeEverywhere xs ys → map settled ys ≡ map settled xs)
        → settled y ∷ map settled ys ≡ settled x ∷ map settled xs
    by_order true lt b f later =
        absurd (old_alone x (entry_at (x ∷ xs) x.index x.sub) (entry_at (y ∷ ys) x.index x.sub) (at_first x xs) (none_before x y ys q lt) (alike x.index x.sub))
    by_order false ge true lt later =
        absurd (new_alone y (entry_at (x ∷ xs) y.index y.sub) (entry_at (y ∷ ys) y.index y.sub) (none_before y x xs p lt) (at_first y ys) (alike y.index y.sub))
    by_order false ge false le later = at_one (at_one_address x y ge le) later

-- ---- of what is built

settled_entry : (e : Entry) → as_built e ≡ e → settled e ≡ e
settled_entry e h =
    let value : e.initial ≡ e.value = ap (λ (x : Entry). x.value) h in
    made e e.value (sym value)
  where
    made : (e : Entry) (v : List ℕ) → v ≡ e.initial → record e { initial = v } ≡ e
    made e v same = rw same refl

built_settled : (dict : List Entry) → map as_built dict ≡ dict → map settled dict ≡ dict
built_settled [] h = refl
built_settled (e ∷ es) h =
    let here : as_built e ≡ e = cc in
    let rest : map as_built es ≡ es = cc in
    ap (λ x. x ∷ map settled es) (settled_entry e here) ∙ ap (λ xs. e ∷ xs) (built_settled es rest)

pub one_dictionary : (first second : List ℕ) (node : ℕ) (old new : List Entry) → built first node ≡ Ok old → built second node ≡ Ok new → AreDifferences old new [] → new ≡ old
one_dictionary first second node old new a b d =
    sym (built_settled new (built_stays second node new b).0)
    ∙ alike_settled old new (built_sorted first node old a) (built_sorted second node new b) (alike_of_none old new [] d refl)
    ∙ built_settled old (built_stays first node old a).0

-- ---- identifiers

same_number : (x y : Option Entry) → AreAlikeThere x y → option_and_then unsigned32_of y ≡ option_and_then unsigned32_of x
same_number None None h = refl
same_number (Some a) None h = absurd h
same_number None (Some b) h = absurd h
same_number (Some a) (Some b) h = rw (h.0, h.1) refl

pub same_identifier : (old new : List Entry) (all : List Difference) (tpdo : ℕ) → AreDifferences old new all → change_at all (0x17FF + tpdo) 1 ≡ None → identifier_of new tpdo ≡ identifier_of old tpdo
same_identifier old new all tpdo d none =
    ap (option_and_then identifier_in)
    (same_number (entry_at old (0x17FF + tpdo) 1) (entry_at new (0x17FF + tpdo) 1)
    (unchanged (entry_at old (0x17FF + tpdo) 1) (entry_at new (0x17FF + tpdo) 1) (change_at all (0x17FF + tpdo) 1) none (d.each (0x17FF + tpdo) 1)))
