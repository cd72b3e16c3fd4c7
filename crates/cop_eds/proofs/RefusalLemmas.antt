-- The first line that breaks a rule, line by line.
use Rattle.std.proofs.Common.{◌≡◌, ℕ, ◌+◌, ◌<◌, ◌≤◌, List, [], ◌∷◌, ◌++◌, length, take, drop, get_or, Option, Some, None, refl, sym, ap, ◌∙◌, arith, drop-cons, add-one}
use Rattle.std.proofs.lemmas.List.{take_more, drop_all, length-take-le}
use Rattle.cop_eds.specs.declared.fault.Rule.{Rule}
use Rattle.cop_eds.specs.declared.fault.Refusal.{Refusal}
use Rattle.cop_eds.specs.declared.line.Line.{Line}
use Rattle.cop_eds.specs.Lines.{broken, first_refusal, refused_at}

pub goes_on : (text : List ℕ) (xs : List Line) (i : ℕ) (d : Line) (total : Option Refusal) → i < length xs
    → broken text (take i xs) (get_or xs i d) ≡ None → first_refusal text (take i xs) (drop i xs) ≡ total
    → first_refusal text (take (i + 1) xs) (drop (i + 1) xs) ≡ total
goes_on text xs i d total lt e so_far =
    let cut : drop i xs ≡ get_or xs i d ∷ drop (i + 1) xs = rw add-one (drop-cons xs i d lt) in
    let one : first_refusal text (take i xs) (drop i xs) ≡ first_refusal text (take i xs ++ get_or xs i d ∷ []) (drop (i + 1) xs) = rw (cut, e) refl in
    let more : take (i + 1) xs ≡ take i xs ++ get_or xs i d ∷ [] = take_more xs i d lt in
    ap (λ earlier. first_refusal text earlier (drop (i + 1) xs)) more ∙ sym one ∙ so_far

pub stops : (text : List ℕ) (xs : List Line) (i : ℕ) (d : Line) (rule : Rule) (total : Option Refusal) → i < length xs
    → broken text (take i xs) (get_or xs i d) ≡ Some rule → first_refusal text (take i xs) (drop i xs) ≡ total
    → total ≡ Some (record { rule = rule; line = i + 1 })
stops text xs i d rule total lt e so_far =
    let cut : drop i xs ≡ get_or xs i d ∷ drop (i + 1) xs = rw add-one (drop-cons xs i d lt) in
    let size : length (take i xs) ≡ i = length-take-le i xs (omega arith) in
    let one : first_refusal text (take i xs) (drop i xs) ≡ refused_at (length (take i xs) + 1) (Some rule) = rw (cut, e) refl in
    sym so_far ∙ one ∙ ap (λ n. refused_at (n + 1) (Some rule)) size

pub ends : (text : List ℕ) (xs : List Line) (i : ℕ) (total : Option Refusal) → length xs ≤ i → first_refusal text (take i xs) (drop i xs) ≡ total → total ≡ None
ends text xs i total le so_far =
    let none : drop i xs ≡ [] = drop_all i xs le in
    let one : first_refusal text (take i xs) (drop i xs) ≡ None = rw none refl in
    sym so_far ∙ one
