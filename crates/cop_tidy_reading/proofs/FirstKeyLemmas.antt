-- The first line of each key of each section.
use Rattle.std.proofs.Common.{◌≡◌, ℕ, Bool, true, false, cond, List, [], ◌∷◌, Option, None, Some, find, filter, refl, ap, ◌∙◌, arith, ◌==◌, ◌&&◌}
use Rattle.std.specs.Option.{option_or, option_map}
use Rattle.std.proofs.lemmas.Bool.Decides.{nat_tests}
use Rattle.cop_tidy_lines.specs.declared.keys.Key.{Key}
use Rattle.cop_tidy_lines.specs.declared.kinds.LineKind.{LineKind}
use Rattle.cop_tidy_lines.specs.declared.kinds.LineKind.TheVariants.{Silent, Header, Pair, Unknown}
use Rattle.cop_tidy_reading.specs.declared.items.Item.{Item}
use Rattle.cop_tidy_reading.specs.Seen.{said_of}
use Rattle.cop_tidy_reading.specs.Items.{Said}
use Rattle.cop_tidy_reading.specs.Sections.{NamePlace, rank, same_rank, same_place, is_pair, states, pair_of}
use Rattle.cop_tidy_reading.specs.FirstKeys.{placed, place_stated, states_at}

by_test : (x : Option Item) (t : Bool) (item : Item) (rest : Option Said) →
    option_or (option_map said_of (option_or x (cond t (Some item) None))) rest ≡ option_or (option_map said_of x) (cond t (Some (said_of item)) rest)
by_test (Some y) t item rest = refl
by_test None true item rest = refl
by_test None false item rest = refl

-- the first of a line and those behind it
pub next_key : (x : Option Item) (item : Item) (items : List Said) (q : NamePlace) →
    option_or (option_map said_of (option_or x (cond (states_at q (said_of item)) (Some item) None))) (find (states_at q) items)
    ≡ option_or (option_map said_of x) (find (states_at q) (said_of item ∷ items))
next_key x item items q = by_test x (states_at q (said_of item)) item (find (states_at q) items)

pub no_key : (x : Option Said) → option_or x None ≡ x
no_key None = refl
no_key (Some s) = refl

same_number : (m n : ℕ) → (m == n) ≡ (n == m)
same_number m n = grind (arith, nat_tests)

-- ---- the first key of a section

abbrev Passes : (Said → Bool) → (Said → Bool) → (Said → Bool) → Type 0
Passes p q r = (x : Said) → (q x && p x) ≡ r x

find_step : (s t : Bool) (x : Said) (rest : Option Said) → cond s (cond t (Some x) rest) rest ≡ cond (s && t) (Some x) rest
find_step true t x rest = refl
find_step false t x rest = refl

find_cond : (p : Said → Bool) (t : Bool) (x : Said) (xs : List Said) → find p (cond t (x ∷ xs) xs) ≡ cond t (cond (p x) (Some x) (find p xs)) (find p xs)
find_cond p true x xs = refl
find_cond p false x xs = refl

-- the first among those that pass a test is the first that passes both
find_among : (p q r : Said → Bool) (xs : List Said) → Passes p q r → find p (filter q xs) ≡ find r xs
find_among p q r [] h = refl
find_among p q r (x ∷ xs) h =
    find_cond p (q x) x (filter q xs) ∙ find_step (q x) (p x) x (find p (filter q xs))
    ∙ ap (λ (t : Bool). cond t (Some x) (find p (filter q xs))) (h x) ∙ ap (λ rest. cond (r x) (Some x) rest) (find_among p q r xs h)

alike_true : (t : Bool) → (t && true) ≡ t
alike_true true = refl
alike_true false = refl

alike_false : (t : Bool) → (t && false) ≡ false
alike_false true = refl
alike_false false = refl

by_ranks : (section number : ℕ) (a : ℕ × ℕ) (b : Option (ℕ × ℕ)) →
    (((number == section) && true) && same_rank (Some a) b) ≡ same_place (placed number b) (Some (section, a.0, a.1))
by_ranks section number a None = alike_false ((number == section) && true)
by_ranks section number a (Some b) =
    rw (alike_true (number == section), same_number a.0 b.0, same_number a.1 b.1) refl

by_kind : (section : ℕ) (key : Key) (a : ℕ × ℕ) (item : Said) (kind : LineKind) → rank key ≡ Some a →
    (((item.section == section) && is_pair kind) && states key kind) ≡ same_place (place_stated item.section kind) (Some (section, a.0, a.1))
by_kind section key a item (Pair other) e = rw e (by_ranks section item.section a (rank other))
by_kind section key a item Silent e = alike_false ((item.section == section) && false)
by_kind section key a item (Header name) e = alike_false ((item.section == section) && false)
by_kind section key a item Unknown e = alike_false ((item.section == section) && false)

none_found : (xs : List Said) → find (λ item. false) xs ≡ None
none_found [] = refl
none_found (x ∷ xs) = none_found xs

missing_by : (section : ℕ) (key : Key) (item : Said) (kind : LineKind) → rank key ≡ None → (((item.section == section) && is_pair kind) && states key kind) ≡ false
missing_by section key item (Pair other) e = rw e (alike_false ((item.section == section) && true))
missing_by section key item Silent e = alike_false ((item.section == section) && false)
missing_by section key item (Header name) e = alike_false ((item.section == section) && false)
missing_by section key item Unknown e = alike_false ((item.section == section) && false)

-- a key that nothing reads is none of a section
pub key_missing : (items : List Said) (section : ℕ) (key : Key) → rank key ≡ None → pair_of items section key ≡ None
key_missing items section key e =
    find_among (λ item. states key item.kind) (λ item. (item.section == section) && is_pair item.kind) (λ item. false) items
    (λ item. missing_by section key item item.kind e)
    ∙ none_found items

-- the first key of a section is the first line at its place
pub key_found : (items : List Said) (section : ℕ) (key : Key) (a : ℕ × ℕ) → rank key ≡ Some a → pair_of items section key ≡ find (states_at (section, a.0, a.1)) items
key_found items section key a e =
    find_among (λ item. states key item.kind) (λ item. (item.section == section) && is_pair item.kind) (states_at (section, a.0, a.1)) items
    (λ item. by_kind section key a item item.kind e)
