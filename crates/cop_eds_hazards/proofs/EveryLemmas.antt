-- All lines that pass a test, line by line, and that the first of them is the first line that passes.
use Rattle.std.proofs.Common.{◌≡◌, ℕ, ◌+◌, ◌++◌, ◌<◌, ◌≤◌, Bool, true, false, List, [], ◌∷◌, length, drop, get_or, codes, Option, Some, None, refl, sym, ap, ◌∙◌, drop-cons, add-one, append-nil, append_assoc}
use Rattle.std.specs.Option.{option_map, option_or, option_to_list}
use Rattle.std.proofs.lemmas.List.{drop_all}
use Rattle.cop_eds.specs.declared.line.Line.{Line}
use Rattle.cop_eds.specs.declared.line.Place.{Place}
use Rattle.cop_eds.specs.Lines.{first_from, lines_of}
use Rattle.cop_eds.specs.Sections.{place_of}
use Rattle.cop_eds_hazards.specs.declared.hazards.Hazard.{Hazard}
use Rattle.cop_eds_hazards.specs.declared.tests.Test.{Test}
use Rattle.cop_eds_hazards.specs.declared.tests.Test.TheVariants as tests
use Rattle.cop_eds_hazards.specs.Listed.{count_of}
use Rattle.cop_eds_hazards.specs.Compact.{implicit_line}
use Rattle.cop_eds_hazards.specs.Hazards.{passes, first_line, beyond_in, hazard_at, hazard_of}
use Rattle.cop_eds_hazards.specs.Every.{hazards_from, hazards_by, all_beyond_in, all_beyond, hazards_of, first_of}

pub takes : (number : ℕ) (test : Line → Bool) (xs : List Line) (i : ℕ) (d : Line) (found total : List Hazard) → i < length xs
    → test (get_or xs i d) ≡ true → found ++ hazards_from number test (i + 1) (drop i xs) ≡ total
    → (found ++ (record { number = number; line = i + 1 }) ∷ []) ++ hazards_from number test (i + 1 + 1) (drop (i + 1) xs) ≡ total
takes number test xs i d found total lt e so_far =
    let cut : drop i xs ≡ get_or xs i d ∷ drop (i + 1) xs = rw add-one (drop-cons xs i d lt) in
    let one : hazards_from number test (i + 1) (drop i xs) ≡ (record { number = number; line = i + 1 }) ∷ hazards_from number test (i + 1 + 1) (drop (i + 1) xs) =
    rw (cut, e) refl in
    append_assoc found ((record { number = number; line = i + 1 }) ∷ []) (hazards_from number test (i + 1 + 1) (drop (i + 1) xs))
    ∙ ap (λ more. found ++ more) (sym one) ∙ so_far

pub skips : (number : ℕ) (test : Line → Bool) (xs : List Line) (i : ℕ) (d : Line) (found total : List Hazard) → i < length xs
    → test (get_or xs i d) ≡ false → found ++ hazards_from number test (i + 1) (drop i xs) ≡ total
    → found ++ hazards_from number test (i + 1 + 1) (drop (i + 1) xs) ≡ total
skips number test xs i d found total lt e so_far =
    let cut : drop i xs ≡ get_or xs i d ∷ drop (i + 1) xs = rw add-one (drop-cons xs i d lt) in
    let one : hazards_from number test (i + 1) (drop i xs) ≡ hazards_from number test (i + 1 + 1) (drop (i + 1) xs) = rw (cut, e) refl in
    ap (λ more. found ++ more) (sym one) ∙ so_far

pub ends : (number : ℕ) (test : Line → Bool) (xs : List Line) (i : ℕ) (found total : List Hazard) → length xs ≤ i
    → found ++ hazards_from number test (i + 1) (drop i xs) ≡ total → found ≡ total
ends number test xs i found total le so_far =
    let none : drop i xs ≡ [] = drop_all i xs le in
    let one : hazards_from number test (i + 1) (drop i xs) ≡ [] = rw none refl in
    sym (append-nil found) ∙ ap (λ more. found ++ more) (sym one) ∙ so_far

-- ---- the first of all

first_by : (b : Bool) (number : ℕ) (test : Line → Bool) (place : ℕ) (x : Line) (xs : List Line) → test x ≡ b
    → first_of (hazards_from number test (place + 1) xs) ≡ hazard_at number (option_map (λ found. found.0) (first_from (place + 1) test xs))
    → first_of (hazards_from number test place (x ∷ xs)) ≡ hazard_at number (option_map (λ found. found.0) (first_from place test (x ∷ xs)))
first_by true number test place x xs e h = rw e refl
first_by false number test place x xs e h = rw e h

first_passing : (number : ℕ) (test : Line → Bool) (place : ℕ) (xs : List Line)
    → first_of (hazards_from number test place xs) ≡ hazard_at number (option_map (λ found. found.0) (first_from place test xs))
first_passing number test place [] = refl
first_passing number test place (x ∷ xs) = first_by (test x) number test place x xs refl (first_passing number test (place + 1) xs)

of_test : (number : ℕ) (test : Test) (text : List ℕ) → first_of (hazards_by number test text) ≡ hazard_at number (first_line text test)
of_test number test text = first_passing number (passes text test) 1 (lines_of text)

of_two : (xs ys : List Hazard) → first_of (xs ++ ys) ≡ option_or (first_of xs) (first_of ys)
of_two [] ys = refl
of_two (x ∷ xs) ys = refl

of_one : (hazard : Option Hazard) → first_of (option_to_list hazard) ≡ hazard
of_one None = refl
of_one (Some hazard) = refl

of_list : (text : List ℕ) (place : Option Place) → first_of (all_beyond_in text place) ≡ hazard_at 83 (beyond_in text place)
of_list text None = refl
of_list text (Some place) = of_test 83 (tests.Beyond place.section (count_of text place.section)) text

at_either : (number : ℕ) (a b : Option ℕ) → option_or (hazard_at number a) (hazard_at number b) ≡ hazard_at number (option_or a b)
at_either number None b = refl
at_either number (Some line) b = refl

or_assoc : {X : Type 0} (a b c : Option X) → option_or (option_or a b) c ≡ option_or a (option_or b c)
or_assoc None b c = refl
or_assoc (Some x) b c = refl

of_lists : (text : List ℕ) (a b c : Option Place)
    → first_of (all_beyond_in text a ++ all_beyond_in text b ++ all_beyond_in text c)
    ≡ hazard_at 83 (option_or (beyond_in text a) (option_or (beyond_in text b) (beyond_in text c)))
of_lists text a b c =
    of_two (all_beyond_in text a ++ all_beyond_in text b) (all_beyond_in text c)
    ∙ rw (of_two (all_beyond_in text a) (all_beyond_in text b), of_list text a, of_list text b, of_list text c, at_either 83 (beyond_in text a) (beyond_in text b)) (
    at_either 83 (option_or (beyond_in text a) (beyond_in text b)) (beyond_in text c) ∙ ap (hazard_at 83) (or_assoc (beyond_in text a) (beyond_in text b) (beyond_in text c)))

or_four : (a b c d e : Option Hazard) → option_or (option_or (option_or (option_or a b) c) d) e ≡ option_or a (option_or b (option_or c (option_or d e)))
or_four None None None None e = refl
or_four None None None (Some x) e = refl
or_four None None (Some x) d e = refl
or_four None (Some x) c d e = refl
or_four (Some x) b c d e = refl

of_five : (a b c d e : List Hazard) → first_of (a ++ b ++ c ++ d ++ e) ≡ option_or (first_of a) (option_or (first_of b) (option_or (first_of c) (option_or (first_of d) (first_of e))))
of_five a b c d e =
    of_two (a ++ b ++ c ++ d) e ∙ rw (of_two (a ++ b ++ c) d, of_two (a ++ b) c, of_two a b) (
    or_four (first_of a) (first_of b) (first_of c) (first_of d) (first_of e))

or_five : {a b c d e f g h i j : Option Hazard} → a ≡ f → b ≡ g → c ≡ h → d ≡ i → e ≡ j
    → option_or a (option_or b (option_or c (option_or d e))) ≡ option_or f (option_or g (option_or h (option_or i j)))
or_five p q r s t = rw (p, q, r, s, t) refl

pub first_is : (text : List ℕ) → hazard_of false text ≡ first_of (hazards_of text)
unfolding hazard_of hazards_of
first_is text =
    sym (of_five (hazards_by 80 tests.Unlisted text) (hazards_by 81 tests.Unidentified text) (option_to_list (hazard_at 82 (implicit_line text))) (all_beyond text) (hazards_by 84 tests.Unseen text)
    ∙ or_five (of_test 80 tests.Unlisted text) (of_test 81 tests.Unidentified text) (of_one (hazard_at 82 (implicit_line text)))
    (of_lists text (place_of text (codes "MandatoryObjects")) (place_of text (codes "OptionalObjects")) (place_of text (codes "ManufacturerObjects"))) (of_test 84 tests.Unseen text))
