-- The first line that passes a test, line by line.
use Rattle.std.proofs.Common.{◌≡◌, ℕ, ◌+◌, ◌<◌, ◌≤◌, ◌||◌, Bool, true, false, List, [], ◌∷◌, length, drop, get_or, Option, Some, None, refl, sym, ◌∙◌, drop-cons, add-one}
use Rattle.std.specs.Option.{option_map}
use Rattle.std.proofs.lemmas.List.{drop_all}
use Rattle.cop_eds.specs.declared.line.Line.{Line}
use Rattle.cop_eds.specs.Lines.{first_from}

pub or_assoc : (a b c : Bool) → ((a || b) || c) ≡ (a || (b || c))
or_assoc true b c = refl
or_assoc false b c = refl

abbrev pub number : Option (ℕ × Line) → Option ℕ
number found = option_map (λ f. f.0) found

pub goes_on : (test : Line → Bool) (xs : List Line) (i : ℕ) (d : Line) (total : Option ℕ) → i < length xs
    → test (get_or xs i d) ≡ false → number (first_from (i + 1) test (drop i xs)) ≡ total
    → number (first_from (i + 1 + 1) test (drop (i + 1) xs)) ≡ total
goes_on test xs i d total lt e so_far =
    let cut : drop i xs ≡ get_or xs i d ∷ drop (i + 1) xs = rw add-one (drop-cons xs i d lt) in
    let one : number (first_from (i + 1) test (drop i xs)) ≡ number (first_from (i + 1 + 1) test (drop (i + 1) xs)) = rw (cut, e) refl in
    sym one ∙ so_far

pub stops : (test : Line → Bool) (xs : List Line) (i : ℕ) (d : Line) (total : Option ℕ) → i < length xs
    → test (get_or xs i d) ≡ true → number (first_from (i + 1) test (drop i xs)) ≡ total → Some (i + 1) ≡ total
stops test xs i d total lt e so_far =
    let cut : drop i xs ≡ get_or xs i d ∷ drop (i + 1) xs = rw add-one (drop-cons xs i d lt) in
    let one : number (first_from (i + 1) test (drop i xs)) ≡ Some (i + 1) = rw (cut, e) refl in
    sym one ∙ so_far

pub ends : (test : Line → Bool) (xs : List Line) (i : ℕ) (total : Option ℕ) → length xs ≤ i
    → number (first_from (i + 1) test (drop i xs)) ≡ total → None ≡ total
ends test xs i total le so_far =
    let none : drop i xs ≡ [] = drop_all i xs le in
    let one : number (first_from (i + 1) test (drop i xs)) ≡ None = rw none refl in
    sym one ∙ so_far
