-- Items that a loop reads one after the other.
use Rattle.std.proofs.Common.{◌≡◌, ℕ, suc, ◌-◌, ◌+◌, ◌≤◌, ◌<◌, List, [], ◌∷◌, ◌++◌, Result, Ok, Err, refl, sym, ◌∙◌, arith, length, drop, get_or, drop-cons, add-one}
use Rattle.std.proofs.lemmas.List.{drop_all}
use Rattle.cop_eds.specs.declared.fault.Refusal.{Refusal}
use Rattle.cop_eds.specs.Steps.{items_from, each}

pub goes_on : {A : Type 0} (next : List A → Result A Refusal) (found : List A) (count i : ℕ) (x : A) (total : Result (List A) Refusal) → i < count → next found ≡ Ok x
    → items_from next found (count - i) ≡ total → items_from next (found ++ x ∷ []) (count - (i + 1)) ≡ total
unfolding items_from
goes_on next found count i x total lt h so_far =
    let k : count - i ≡ suc (count - (i + 1)) = omega arith in
    let one : items_from next found (count - i) ≡ items_from next (found ++ x ∷ []) (count - (i + 1)) = rw (k, h) refl in
    sym one ∙ so_far

pub stops : {A : Type 0} (next : List A → Result A Refusal) (found : List A) (count i : ℕ) (e : Refusal) (total : Result (List A) Refusal) → i < count → next found ≡ Err e
    → items_from next found (count - i) ≡ total → total ≡ Err e
unfolding items_from
stops next found count i e total lt h so_far =
    let k : count - i ≡ suc (count - (i + 1)) = omega arith in
    let one : items_from next found (count - i) ≡ Err e = rw (k, h) refl in
    sym so_far ∙ one

pub ends : {A : Type 0} (next : List A → Result A Refusal) (found : List A) (count i : ℕ) (total : Result (List A) Refusal) → count ≤ i
    → items_from next found (count - i) ≡ total → total ≡ Ok found
unfolding items_from
ends next found count i total le so_far =
    let k : count - i ≡ 0 = omega arith in
    let one : items_from next found (count - i) ≡ Ok found = rw k refl in
    sym so_far ∙ one

-- the check of an element, where those before it pass
pub each_goes : {A B : Type 0} (check : A → Result B Refusal) (xs : List A) (i : ℕ) (d : A) (y : B) (total : Result (Unit {0}) Refusal)
    → i < length xs → check (get_or xs i d) ≡ Ok y → each check (drop i xs) ≡ total → each check (drop (i + 1) xs) ≡ total
unfolding each
each_goes check xs i d y total lt e so_far =
    let cut : drop i xs ≡ get_or xs i d ∷ drop (i + 1) xs = rw add-one (drop-cons xs i d lt) in
    let one : each check (drop i xs) ≡ each check (drop (i + 1) xs) = rw (cut, e) refl in
    sym one ∙ so_far

pub each_stops : {A B : Type 0} (check : A → Result B Refusal) (xs : List A) (i : ℕ) (d : A) (r : Refusal) (total : Result (Unit {0}) Refusal)
    → i < length xs → check (get_or xs i d) ≡ Err r → each check (drop i xs) ≡ total → total ≡ Err r
unfolding each
each_stops check xs i d r total lt e so_far =
    let cut : drop i xs ≡ get_or xs i d ∷ drop (i + 1) xs = rw add-one (drop-cons xs i d lt) in
    let one : each check (drop i xs) ≡ Err r = rw (cut, e) refl in
    sym so_far ∙ one

pub each_ends : {A B : Type 0} (check : A → Result B Refusal) (xs : List A) (i : ℕ) (total : Result (Unit {0}) Refusal)
    → length xs ≤ i → each check (drop i xs) ≡ total → total ≡ Ok tt
unfolding each
each_ends check xs i total le so_far =
    let none : drop i xs ≡ [] = drop_all i xs le in
    let one : each check (drop i xs) ≡ Ok tt = rw none refl in
    sym so_far ∙ one
