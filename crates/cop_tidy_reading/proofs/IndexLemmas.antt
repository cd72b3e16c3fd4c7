-- The first section of each place.
use Rattle.std.proofs.Common.{◌≡◌, ℕ, Bool, true, false, cond, List, ◌∷◌, Option, None, Some, is_some, refl, sym, ap, ◌∙◌, arith, ◌==◌, ◌&&◌}
use Rattle.std.specs.Option.{option_or, option_map}
use Rattle.std.specs.BTreeMap.{BTreeMap, get, is_at}
use Rattle.std.specs.declared.cmp.Ordering.{Ordering}
use Rattle.std.specs.declared.cmp.Ordering.TheVariants.{Less, Equal, Greater}
use Rattle.std.specs.Cmp.{unsigned_ties}
use Rattle.std.specs.Ordering.{nat_cmp, is_eq, ordering_then}
use Rattle.std.proofs.lemmas.Bool.Decides.{nat_tests}
use Rattle.cop_tidy_reading.specs.declared.contents.Section.{Section}
use Rattle.cop_tidy_reading.specs.Items.{Said}
use Rattle.cop_tidy_reading.specs.Sections.{NamePlace, same_place, begins_at, section_at, section_at_place}
use Rattle.cop_tidy_reading.specs.Index.{place_cmp}

pub both_eq : (r s : Ordering) → is_eq (ordering_then r s) ≡ (is_eq r && is_eq s)
both_eq Less s = refl
both_eq Equal s = refl
both_eq Greater s = refl

pub number_eq : (m n : ℕ) → is_eq (nat_cmp m n) ≡ (m == n)
number_eq m n = sym (unsigned_ties m n)

shift : (a b c : Bool) → ((a && b) && c) ≡ (a && (b && c))
shift true b c = refl
shift false b c = refl

-- a place compares equal to those that are the same
at_place : (a b : NamePlace) → is_at (place_cmp a) b ≡ same_place (Some a) (Some b)
at_place a b =
    rw (
      both_eq (ordering_then (nat_cmp a.0 b.0) (nat_cmp a.1 b.1)) (nat_cmp a.2 b.2),
      both_eq (nat_cmp a.0 b.0) (nat_cmp a.1 b.1),
      number_eq a.0 b.0,
      number_eq a.1 b.1,
      number_eq a.2 b.2,
    ) (shift (a.0 == b.0) (a.1 == b.1) (a.2 == b.2))

same_true : (a b : NamePlace) → same_place (Some a) (Some b) ≡ true → a ≡ b
same_true a b h =
    let first : a.0 ≡ b.0 = grind (arith, nat_tests) in
    let second : a.1 ≡ b.1 = grind (arith, nat_tests) in
    let third : a.2 ≡ b.2 = grind (arith, nat_tests) in
    ap (λ (x : ℕ). (x, a.1, a.2)) first ∙ ap (λ (x : ℕ). (b.0, x, a.2)) second ∙ ap (λ (x : ℕ). (b.0, b.1, x)) third

kept_by : {A : Type 0} (x : Option A) (t : Bool) (s : A) → (t ≡ true → is_some x ≡ true) → x ≡ option_or x (cond t (Some s) None)
kept_by (Some y) t s h = refl
kept_by None true s h = let no : false ≡ true = h refl in cc
kept_by None false s h = refl

new_by : {A : Type 0} (x : Option A) (t : Bool) (s : A) → (t ≡ true → is_some x ≡ false) → cond t (Some s) x ≡ option_or x (cond t (Some s) None)
new_by None true s h = refl
new_by None false s h = refl
new_by (Some y) true s h = let no : true ≡ false = h refl in cc
new_by (Some y) false s h = refl

-- where the place has a section, each keeps its own
pub kept : {A : Type 0} (m : BTreeMap NamePlace A) (place : NamePlace) (section : A) (q : NamePlace) → is_some (get place_cmp m place) ≡ true →
    get place_cmp m q ≡ option_or (get place_cmp m q) (cond (same_place (Some place) (Some q)) (Some section) None)
kept m place section q h =
    kept_by (get place_cmp m q) (same_place (Some place) (Some q)) section (λ e. ap (λ p. is_some (get place_cmp m p)) (sym (same_true place q e)) ∙ h)

-- where it has none, it gets this one
pub noted : {A : Type 0} (m n : BTreeMap NamePlace A) (place : NamePlace) (section : A) (q : NamePlace) → is_some (get place_cmp m place) ≡ false →
    get place_cmp n q ≡ cond (is_at (place_cmp place) q) (Some section) (get place_cmp m q) →
    get place_cmp n q ≡ option_or (get place_cmp m q) (cond (same_place (Some place) (Some q)) (Some section) None)
noted m n place section q h u =
    u ∙ ap (λ t. cond t (Some section) (get place_cmp m q)) (at_place place q)
    ∙ new_by (get place_cmp m q) (same_place (Some place) (Some q)) section (λ e. ap (λ p. is_some (get place_cmp m p)) (sym (same_true place q e)) ∙ h)

pub none_noted : {A : Type 0} (x : Option A) → option_or x None ≡ x
none_noted None = refl
none_noted (Some s) = refl

pub first_by : {A : Type 0} (x rest : Option A) (t : Bool) (s : A) → option_or (option_or x (cond t (Some s) None)) rest ≡ option_or x (cond t (Some s) rest)
first_by (Some y) rest t s = refl
first_by None rest true s = refl
first_by None rest false s = refl

map_test : (t : Bool) (x : Said) (rest : Option Said) → option_map section_at (cond t (Some x) rest) ≡ cond t (Some (section_at x)) (option_map section_at rest)
map_test true x rest = refl
map_test false x rest = refl

-- the first of an item and those behind it
pub next_first : (x : Option Section) (item : Said) (items : List Said) (q : NamePlace) →
    option_or (option_or x (cond (begins_at q item.kind) (Some (section_at item)) None)) (section_at_place items (Some q)) ≡ option_or x (section_at_place (item ∷ items) (Some q))
next_first x item items q =
    first_by x (section_at_place items (Some q)) (begins_at q item.kind) (section_at item) ∙ ap (λ r. option_or x r) (sym (map_test (begins_at q item.kind) item _))
