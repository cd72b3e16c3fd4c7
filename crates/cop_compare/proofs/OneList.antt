-- Two dictionaries have one list of differences.
use Rattle.std.proofs.Common.{◌≡◌, ◌<◌, ◌==◌, ◌&&◌, ℕ, suc, Bool, true, false, List, [], ◌∷◌, length, get_or, Option, Some, None, refl, sym, ap, ◌∙◌, arith}
use Rattle.std.specs.List.{AllPairs}
use Rattle.std.proofs.lemmas.Bool.{eqb-true, and_parts}
use Rattle.std.proofs.lemmas.Bool.Decides.{nat_tests}
use Rattle.cop_dict.specs.Find.{Entry, entry_at}
use Rattle.cop_compare.specs.declared.difference.Change.{Change}
use Rattle.cop_compare.specs.declared.difference.Change.TheVariants.{Value, Description, Gone, New}
use Rattle.cop_compare.specs.declared.difference.Difference.{Difference}
use Rattle.cop_compare.specs.Differences.{IsChangeOf, IsChange, change_at, precedes, AreDifferences}

-- ---- of one address

one_change_of : (a b : Entry) (c d : Option Change) → IsChangeOf a b c → IsChangeOf a b d → d ≡ c
one_change_of a b None None h k = refl
one_change_of a b None (Some Value) h k = absurd (k h.1)
one_change_of a b None (Some Description) h k = absurd (k.1 h.0)
one_change_of a b None (Some Gone) h k = absurd k
one_change_of a b None (Some New) h k = absurd k
one_change_of a b (Some Value) None h k = absurd (h k.1)
one_change_of a b (Some Value) (Some Value) h k = refl
one_change_of a b (Some Value) (Some Description) h k = absurd (h k.0)
one_change_of a b (Some Value) (Some Gone) h k = absurd k
one_change_of a b (Some Value) (Some New) h k = absurd k
one_change_of a b (Some Description) None h k = absurd (h.1 k.0)
one_change_of a b (Some Description) (Some Value) h k = absurd (k h.0)
one_change_of a b (Some Description) (Some Description) h k = refl
one_change_of a b (Some Description) (Some Gone) h k = absurd k
one_change_of a b (Some Description) (Some New) h k = absurd k
one_change_of a b (Some Gone) d h k = absurd h
one_change_of a b (Some New) d h k = absurd h

one_change : (x y : Option Entry) (c d : Option Change) → IsChange x y c → IsChange x y d → d ≡ c
one_change None None c d h k = k ∙ sym h
one_change (Some a) None c d h k = k ∙ sym h
one_change None (Some b) c d h k = k ∙ sym h
one_change (Some a) (Some b) c d h k = one_change_of a b c d h k

-- ---- of lists that rise

abbrev Rise : List Difference → Type 0
Rise all = AllPairs (λ one later. precedes one later ≡ true) all

-- of each address they tell the same
abbrev TellSame : List Difference → List Difference → Type 0
TellSame all other = (index sub : ℕ) → change_at other index sub ≡ change_at all index sub

rise_rest : (x : Difference) (xs : List Difference) → Rise (x ∷ xs) → Rise xs
rise_rest x xs rise i j d lt inside = rise (suc i) (suc j) d (omega arith) (omega arith)

abbrev is_there : ℕ → ℕ → Difference → Bool
is_there index sub one = (one.index == index) && (one.sub == sub)

not_among : (index sub : ℕ) (xs : List Difference) → ((k : ℕ) (d : Difference) → k < length xs → is_there index sub (get_or xs k d) ≡ false) → change_at xs index sub ≡ None
not_among index sub [] none = refl
not_among index sub (x ∷ xs) none =
    let first : is_there index sub x ≡ false = none 0 x (omega arith) in
    rw first (not_among index sub xs (λ k d lt. none (suc k) d (omega arith)))

-- what is told of the first address is told of it alone, and of none before it
behind : (index sub : ℕ) (a b : Difference) → precedes a b ≡ true → is_there index sub a ≡ true → is_there index sub b ≡ false
behind index sub a b h at = grind (arith, nat_tests)

further : (a b c : Difference) → precedes a b ≡ true → precedes b c ≡ true → is_there a.index a.sub c ≡ false
further a b c h k = grind (arith, nat_tests)

none_behind : (index sub : ℕ) (x : Difference) (xs : List Difference) → Rise (x ∷ xs) → is_there index sub x ≡ true → change_at xs index sub ≡ None
none_behind index sub x xs rise at = not_among index sub xs (λ k d lt. behind index sub x (get_or xs k d) (rise 0 (suc k) d (omega arith) (omega arith)) at)

itself : (x : Difference) → is_there x.index x.sub x ≡ true
itself x = grind (arith, nat_tests)

none_before : (x y : Difference) (ys : List Difference) → precedes x y ≡ true → Rise (y ∷ ys) → change_at (y ∷ ys) x.index x.sub ≡ None
none_before x y ys lt rise = rw (behind x.index x.sub x y lt (itself x)) (not_among x.index x.sub ys (λ k d inside. further x y (get_or ys k d) lt (rise 0 (suc k) d (omega arith) (omega arith))))

first_told_at : (index sub : ℕ) (x : Difference) (xs : List Difference) → is_there index sub x ≡ true → change_at (x ∷ xs) index sub ≡ Some x.change
first_told_at index sub x xs at = rw at refl

first_told : (x : Difference) (xs : List Difference) → change_at (x ∷ xs) x.index x.sub ≡ Some x.change
first_told x xs = first_told_at x.index x.sub x xs (itself x)

at_one_address : (x y : Difference) → precedes x y ≡ false → precedes y x ≡ false → is_there x.index x.sub y ≡ true
at_one_address x y a b = grind (arith, nat_tests)

abbrev difference : ℕ → ℕ → Change → Difference
difference index sub change = record { index = index; sub = sub; change = change }

one_difference : (i s j t : ℕ) (c d : Change) → i ≡ j → s ≡ t → c ≡ d → difference i s c ≡ difference j t d
one_difference i s j t c d a b e = rw (a, b, e) refl

first_same : (x y : Difference) (xs ys : List Difference) → TellSame (x ∷ xs) (y ∷ ys) → is_there x.index x.sub y ≡ true → y ≡ x
first_same x y xs ys same at =
    let parts = and_parts (y.index == x.index) (y.sub == x.sub) at in
    let index : y.index ≡ x.index = eqb-true y.index x.index parts.0 in
    let sub : y.sub ≡ x.sub = eqb-true y.sub x.sub parts.1 in
    let change : Some y.change ≡ Some x.change = sym (first_told_at x.index x.sub y ys at) ∙ (same x.index x.sub ∙ first_told x xs) in
    one_difference y.index y.sub x.index x.sub y.change x.change index sub (cc)

rest_same : (x y : Difference) (xs ys : List Difference) → Rise (x ∷ xs) → Rise (y ∷ ys) → TellSame (x ∷ xs) (y ∷ ys) → y ≡ x → TellSame xs ys
rest_same x y xs ys p q same e index sub = by_test (is_there index sub x) refl (is_there index sub y) refl
  where
    by_test : (a : Bool) → is_there index sub x ≡ a → (b : Bool) → is_there index sub y ≡ b → change_at ys index sub ≡ change_at xs index sub
    by_test true s true t = none_behind index sub y ys q t ∙ sym (none_behind index sub x xs p s)
    by_test true s false t = let f : is_there index sub x ≡ false = ap (is_there index sub) (sym e) ∙ t in cc
    by_test false s true t = let f : is_there index sub x ≡ true = ap (is_there index sub) (sym e) ∙ t in cc
    by_test false s false t = rw (t, s) at (same index sub)

same_lists : (all other : List Difference) → Rise all → Rise other → TellSame all other → other ≡ all
same_lists [] [] p q same = refl
same_lists [] (y ∷ ys) p q same = let none : None ≡ Some y.change = sym (same y.index y.sub) ∙ first_told y ys in cc
same_lists (x ∷ xs) [] p q same = let none : None ≡ Some x.change = same x.index x.sub ∙ first_told x xs in cc
same_lists (x ∷ xs) (y ∷ ys) p q same = by_order (precedes x y) refl (precedes y x) refl (λ told. same_lists xs ys (rise_rest x xs p) (rise_rest y ys q) told)
  where
    by_order : (a : Bool) → precedes x y ≡ a → (b : Bool) → precedes y x ≡ b → (TellSame xs ys → ys ≡ xs) → y ∷ ys ≡ x ∷ xs
    by_order true lt b f later = let none : None ≡ Some x.change = sym (none_before x y ys lt q) ∙ (same x.index x.sub ∙ first_told x xs) in cc
    by_order false ge true lt later = let none : None ≡ Some y.change = sym (none_before y x xs lt p) ∙ (sym (same y.index y.sub) ∙ first_told y ys) in cc
    by_order false ge false le later =
        let first = first_same x y xs ys same (at_one_address x y ge le) in
        let rest = later (rest_same x y xs ys p q same first) in
        cc

pub one_list : (old new : List Entry) (all other : List Difference) → AreDifferences old new all → AreDifferences old new other → other ≡ all
one_list old new all other d e =
    same_lists all other d.rise e.rise
    (λ index sub. one_change (entry_at old index sub) (entry_at new index sub) (change_at all index sub) (change_at other index sub) (d.each index sub) (e.each index sub))
