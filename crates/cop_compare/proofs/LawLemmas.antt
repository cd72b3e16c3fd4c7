-- No differences are those of dictionaries that are alike, and what they leave as it was.
use Rattle.std.proofs.Common.{◌≡◌, ◌↔◌, ◌==◌, ◌&&◌, ℕ, true, List, [], ◌∷◌, option_map, Option, Some, None, refl, sym, ap, ◌∙◌, arith}
use Rattle.std.proofs.lemmas.Bool.Decides.{nat_tests}
use Rattle.cop_dict.specs.Find.{Entry, AreAlike, entry_at}
use Rattle.cop_compare.specs.declared.difference.Change.{Change}
use Rattle.cop_compare.specs.declared.difference.Change.TheVariants.{Value, Description, Gone, New}
use Rattle.cop_compare.specs.declared.difference.Difference.{Difference}
use Rattle.cop_compare.specs.Differences.{IsChangeOf, IsChange, change_at, AreDifferences}
use Rattle.cop_compare.specs.Laws.{AreAlikeThere, AreAlikeEverywhere, HasValueAt, HasValuesOf}

-- ---- of one address

pub unchanged : (x y : Option Entry) (c : Option Change) → c ≡ None → IsChange x y c → AreAlikeThere x y
unchanged None None c e h = tt
unchanged (Some a) None c e h = cc
unchanged None (Some b) c e h = cc
unchanged (Some a) (Some b) None e h = h
unchanged (Some a) (Some b) (Some c) e h = cc

changed_apart : (a b : Entry) (c : Change) → AreAlike a b → IsChangeOf a b (Some c) → ⊥
changed_apart a b Value h d = d h.1
changed_apart a b Description h d = d.1 h.0
changed_apart a b Gone h d = d
changed_apart a b New h d = d

apart : (x y : Option Entry) (c : Change) → AreAlikeThere x y → IsChange x y (Some c) → ⊥
apart None None c h d = cc
apart (Some a) None c h d = h
apart None (Some b) c h d = h
apart (Some a) (Some b) c h d = changed_apart a b c h d

same_value : (x y : Option Entry) (own : Option Entry) (entry : Entry) → AreAlikeThere x y → y ≡ Some entry → ((e : Entry) → x ≡ Some e → option_map (λ o. o.value) own ≡ Some e.value)
    → option_map (λ o. o.value) own ≡ Some entry.value
same_value None None own entry h is has = cc
same_value (Some a) None own entry h is has = absurd h
same_value None (Some b) own entry h is has = absurd h
same_value (Some a) (Some b) own entry h is has =
    let same : b ≡ entry = cc in
    let value : a.value ≡ entry.value = sym h.1 ∙ ap (λ (e : Entry). e.value) same in
    has a refl ∙ ap (λ v. Some v) value

-- ---- of all

pub alike_of_none : (old new : List Entry) (all : List Difference) → AreDifferences old new all → all ≡ [] → AreAlikeEverywhere old new
alike_of_none old new all d none index sub = unchanged (entry_at old index sub) (entry_at new index sub) (change_at all index sub) (rw none refl) (d.each index sub)

none_of_alike : (old new : List Entry) (all : List Difference) → AreDifferences old new all → AreAlikeEverywhere old new → all ≡ []
none_of_alike old new [] d alike = refl
none_of_alike old new (x ∷ xs) d alike =
    let itself : (x.index == x.index) && (x.sub == x.sub) ≡ true = grind (arith, nat_tests) in
    let here : change_at (x ∷ xs) x.index x.sub ≡ Some x.change = rw itself refl in
    absurd (apart (entry_at old x.index x.sub) (entry_at new x.index x.sub) x.change (alike x.index x.sub) (rw here at (d.each x.index x.sub)))

pub none_is_alike : (old new : List Entry) (all : List Difference) → AreDifferences old new all → (all ≡ []) ↔ AreAlikeEverywhere old new
none_is_alike old new all d = (alike_of_none old new all d, none_of_alike old new all d)

pub unnamed_stays : (device old new : List Entry) (all : List Difference) (index sub : ℕ) → AreDifferences old new all → HasValuesOf device old → change_at all index sub ≡ None
    → HasValueAt device new index sub
unnamed_stays device old new all index sub d has none entry is =
    same_value (entry_at old index sub) (entry_at new index sub) (entry_at device index sub) entry
    (unchanged (entry_at old index sub) (entry_at new index sub) (change_at all index sub) none (d.each index sub)) is (has index sub)

pub all_stay : (device old new : List Entry) → AreDifferences old new [] → HasValuesOf device old → HasValuesOf device new
all_stay device old new d has index sub = unnamed_stays device old new [] index sub d has refl
