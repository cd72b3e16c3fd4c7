-- A text that keeps what the rules look at of an accepted text is accepted too, and has its objects.
use Rattle.std.proofs.Common.{◌≡◌, ◌<◌, ℕ, zero, suc, ◌+◌, Bool, true, false, cond, List, [], ◌∷◌, ◌++◌, length, map, Option, Some, None, Result, Ok, Err, refl, sym, ap, ◌∙◌, codes, decimal, nat_lt, ◌==◌}
use Rattle.std.specs.Option.{option_map}
use Rattle.cop_eds.specs.declared.fault.Rule.{Rule}
use Rattle.cop_eds.specs.declared.fault.Rule.TheVariants.{AmbiguousNumber}
use Rattle.std.specs.Str.Parse.{digits_value}
use Rattle.cop_eds.specs.declared.fault.Refusal.{Refusal}
use Rattle.cop_eds.specs.declared.line.Place.{Place}
use Rattle.cop_eds.specs.declared.description.Access.{Access}
use Rattle.cop_eds.specs.declared.description.ObjectType.{ObjectType}
use Rattle.cop_eds.specs.declared.description.ObjectType.TheVariants.{Null, Domain, TypeDefinition, StructDefinition, Var, Array, Record}
use Rattle.cop_eds.specs.declared.description.Description.{Description}
use Rattle.cop_eds.specs.Number.{number_of}
use Rattle.cop_eds.specs.Sections.{entry_of}
use Rattle.cop_eds.specs.Steps.{◌>>=◌, standing_at, number_at, number_or}
use Rattle.cop_eds.specs.Access.{access_of}
use Rattle.cop_eds.specs.Description.{described, read_type, no_compact_form, read_data_type, default_type, read_access, access_in, known, object_type_of, holds_value}
use Rattle.std.proofs.Common.{◌≤◌, ◌^◌, ◌&&◌, ◌*◌, drop, arith, length-append}
use Rattle.std.proofs.lemmas.Bool.Decides.{nat_tests}
use Rattle.std.specs.List.{flat_map}
use Rattle.std.proofs.lemmas.List.{map-append}
use Rattle.cop_frame.specs.declared.rates.Rate.{Rate}
use Rattle.cop_frame.specs.RateSet.{all_rates}
use Rattle.cop_eds.specs.Names.{object_code, sub_code}
use Rattle.cop_eds.specs.Number.{number_in, some_number, unambiguous, is_hexadecimal, is_numeral, is_ambiguous}
use Rattle.cop_eds.specs.Sections.{coded_place}
use Rattle.cop_eds.specs.Steps.{needed, each, items_from}
use Rattle.cop_eds.specs.Rates.{rate_key, rate_in, support_of, checked_rates}
use Rattle.cop_eds.specs.Lists.{sub_found, subs_from, subs_of, described_sub, own_place, checked_object, listed_at, listed_from, listed_in, listed}
use Rattle.cop_eds.specs.Lines.{checked_lines, first_refusal, lines_of}
use Rattle.cop_eds.specs.Reading.{reading, at_most}
use Rattle.cop_eds.specs.Description.{holds_subs}
use Rattle.cop_eds.specs.Objects.{with_access, object_in, sub_object, objects_by, objects_from, objects_at, objects_of, rising}
use Rattle.cop_eds.specs.Kept.{Keeps, seen}

pub bind_ok : {A B : Type 0} (r : Result A Refusal) (f : A → Result B Refusal) (x : B) → (r >>= f) ≡ Ok x → (a : A) × (r ≡ Ok a) × (f a ≡ Ok x)
bind_ok (Ok a) f x e = (a, refl, e)
bind_ok (Err r) f x e = cc

pub then_ok : {A B : Type 0} (r : Result A Refusal) (f : A → Result B Refusal) (a : A) (x : B) → r ≡ Ok a → f a ≡ Ok x → (r >>= f) ≡ Ok x
then_ok r f a x e h = rw e h

-- two entries have one value, perhaps at different lines
abbrev pub SameValue : Option (ℕ × List ℕ) → Option (ℕ × List ℕ) → Type 0
SameValue o p = option_map (λ entry. entry.1) p ≡ option_map (λ entry. entry.1) o

pub standing : {A : Type 0} (l m : ℕ) (r : Result A Rule) (x : A) → standing_at l r ≡ Ok x → standing_at m r ≡ Ok x
standing l m (Ok y) x e = e
standing l m (Err rule) x e = cc

some_same : (a b : ℕ × List ℕ) → SameValue (Some a) (Some b) → b.1 ≡ a.1
some_same a b e = cc

pub number_kept : (a b : ℕ × List ℕ) (n : ℕ) → b.1 ≡ a.1 → number_at a ≡ Ok n → number_at b ≡ Ok n
number_kept a b n same e = rw same (standing a.0 b.0 (number_of a.1) n e)

pub number_or_kept : (d : ℕ) (o p : Option (ℕ × List ℕ)) (n : ℕ) → SameValue o p → number_or d o ≡ Ok n → number_or d p ≡ Ok n
number_or_kept d None None n same e = e
number_or_kept d None (Some b) n same e = cc
number_or_kept d (Some a) None n same e = cc
number_or_kept d (Some a) (Some b) n same e = number_kept a b n (some_same a b same) e

known_kept : {A : Type 0} (l m : ℕ) (o : Option A) (x : A) → known l o ≡ Ok x → known m o ≡ Ok x
known_kept l m None x e = cc
known_kept l m (Some y) x e = e

type_kept : (o p : Option (ℕ × List ℕ)) (x : ObjectType) → SameValue o p → read_type o ≡ Ok x → read_type p ≡ Ok x
unfolding read_type
type_kept None None x same e = e
type_kept None (Some b) x same e = cc
type_kept (Some a) None x same e = cc
type_kept (Some a) (Some b) x same e =
    let h = bind_ok (number_at a) (λ n. known a.0 (object_type_of n)) x e in
    then_ok (number_at b) (λ n. known b.0 (object_type_of n)) h.0 x (number_kept a b h.0 (some_same a b same) h.1) (known_kept a.0 b.0 (object_type_of h.0) x h.2)

if_ok : {A : Type 0} (b : Bool) (x y : A) (r s : Refusal) → ◌≡◌ {A = Result A Refusal} (cond b (Ok x) (Err r)) (Ok y) → ◌≡◌ {A = Result A Refusal} (cond b (Ok x) (Err s)) (Ok y)
if_ok true x y r s e = e
if_ok false x y r s e = cc

form_kept : (o p : Option (ℕ × List ℕ)) (x : Unit {0}) → SameValue o p → no_compact_form o ≡ Ok x → no_compact_form p ≡ Ok x
unfolding no_compact_form
form_kept None None x same e = e
form_kept None (Some b) x same e = cc
form_kept (Some a) None x same e = cc
form_kept (Some a) (Some b) x same e =
    let h = bind_ok (number_at a) _ x e in
    then_ok (number_at b) _ h.0 x (number_kept a b h.0 (some_same a b same) h.1) (if_ok (h.0 == 0) tt x _ _ h.2)

default_kept : (l m : ℕ) (kind : ObjectType) (x : ℕ) → default_type l kind ≡ Ok x → default_type m kind ≡ Ok x
default_kept l m Null x e = e
default_kept l m Domain x e = e
default_kept l m TypeDefinition x e = e
default_kept l m StructDefinition x e = e
default_kept l m Var x e = cc
default_kept l m Array x e = e
default_kept l m Record x e = e

data_type_kept : (l m : ℕ) (kind : ObjectType) (o p : Option (ℕ × List ℕ)) (x : ℕ) → SameValue o p → read_data_type l kind o ≡ Ok x → read_data_type m kind p ≡ Ok x
data_type_kept l m kind None None x same e = default_kept l m kind x e
data_type_kept l m kind None (Some b) x same e = cc
data_type_kept l m kind (Some a) None x same e = cc
data_type_kept l m kind (Some a) (Some b) x same e = number_kept a b x (some_same a b same) e

in_kept : (b : Bool) (l m : ℕ) (o : Option Access) (x : Option Access) → access_in b l o ≡ Ok x → access_in b m o ≡ Ok x
in_kept true l m None x e = cc
in_kept false l m None x e = e
in_kept b l m (Some a) x e = e

access_kept : (l m : ℕ) (kind : ObjectType) (o p : Option (ℕ × List ℕ)) (x : Option Access) → SameValue o p → read_access l kind o ≡ Ok x → read_access m kind p ≡ Ok x
access_kept l m kind None None x same e = in_kept (holds_value kind) l m None x e
access_kept l m kind None (Some b) x same e = cc
access_kept l m kind (Some a) None x same e = cc
access_kept l m kind (Some a) (Some b) x same e =
    let v : b.1 ≡ a.1 = some_same a b same in
    rw v (in_kept (holds_value kind) a.0 b.0 (access_of a.1) x e)

-- the keys of an object's section are none of those that are set
pub record LeavesObjects (is_set : List ℕ → Bool) : Type 0 where
  pub object_type : is_set (codes "ObjectType") ≡ false
  pub compact : is_set (codes "CompactSubObj") ≡ false
  pub data_type : is_set (codes "DataType") ≡ false
  pub access : is_set (codes "AccessType") ≡ false
  pub count : is_set (codes "SubNumber") ≡ false
  pub mapping : is_set (codes "PDOMapping") ≡ false

-- what a section says of its object stays, wherever the section begins
pub described_kept : (is_added is_set : List ℕ → Bool) (old new : List ℕ) (p q : Place) (d : Description) → Keeps is_added is_set old new → LeavesObjects is_set
    → q.section ≡ p.section → described old p ≡ Ok d → described new q ≡ Ok d
unfolding described
described_kept is_added is_set old new p q d keeps leaves same e =
    let one = bind_ok _ _ d e in
    let two = bind_ok _ _ d one.2 in
    let three = bind_ok _ _ d two.2 in
    let four = bind_ok _ _ d three.2 in
    let five = bind_ok _ _ d four.2 in
    let six = bind_ok _ _ d five.2 in
    rw same
    (then_ok _ _ one.0 d (type_kept _ _ one.0 (keeps.values p.section (codes "ObjectType") leaves.object_type) one.1)
    (then_ok _ _ two.0 d (form_kept _ _ two.0 (keeps.values p.section (codes "CompactSubObj") leaves.compact) two.1)
    (then_ok _ _ three.0 d (data_type_kept p.line q.line one.0 _ _ three.0 (keeps.values p.section (codes "DataType") leaves.data_type) three.1)
    (then_ok _ _ four.0 d (access_kept p.line q.line one.0 _ _ four.0 (keeps.values p.section (codes "AccessType") leaves.access) four.1)
    (then_ok _ _ five.0 d (number_or_kept 0 _ _ five.0 (keeps.values p.section (codes "SubNumber") leaves.count) five.1)
    (then_ok _ _ six.0 d (number_or_kept 0 _ _ six.0 (keeps.values p.section (codes "PDOMapping") leaves.mapping) six.1) six.2))))))

-- two places begin one section, perhaps at different lines
abbrev pub SamePlace : Option Place → Option Place → Type 0
SamePlace o p = option_map (λ place. place.section) p ≡ option_map (λ place. place.section) o

place_same : (p q : Place) → SamePlace (Some p) (Some q) → q.section ≡ p.section
place_same p q e = cc

pub each_kept : {A B : Type 0} (f g : A → Result B Refusal) (xs : List A) → ((x : A) (y : B) → f x ≡ Ok y → g x ≡ Ok y) → each f xs ≡ Ok tt → each g xs ≡ Ok tt
unfolding each
each_kept f g [] kept e = refl
each_kept f g (x ∷ xs) kept e =
    let one = bind_ok (f x) (λ _. each f xs) tt e in
    then_ok (g x) (λ _. each g xs) one.0 tt (kept x one.0 one.1) (each_kept f g xs kept one.2)

-- the keys of rates and lists, and the names of their sections, are none of those that are set or added
pub record LeavesLists (is_added is_set : List ℕ → Bool) : Type 0 where
  pub info : is_added (codes "DeviceInfo") ≡ false
  pub mandatory : is_added (codes "MandatoryObjects") ≡ false
  pub optional : is_added (codes "OptionalObjects") ≡ false
  pub manufacturer : is_added (codes "ManufacturerObjects") ≡ false
  pub rates : (rate : Rate) → is_set (rate_key rate) ≡ false
  pub count : is_set (codes "SupportedObjects") ≡ false
  pub numbers : (i : ℕ) → i < 2 ^ 64 → is_set (decimal i) ≡ false

rate_kept : (is_added is_set : List ℕ → Bool) (old new : List ℕ) (o p : Option Place) (rate : Rate) (b : Bool) → Keeps is_added is_set old new → LeavesLists is_added is_set
    → SamePlace o p → rate_in old o rate ≡ Ok b → rate_in new p rate ≡ Ok b
unfolding rate_in
rate_kept is_added is_set old new None None rate b keeps leaves same e = e
rate_kept is_added is_set old new None (Some q) rate b keeps leaves same e = cc
rate_kept is_added is_set old new (Some p) None rate b keeps leaves same e = cc
rate_kept is_added is_set old new (Some p) (Some q) rate b keeps leaves same e =
    let one = bind_ok _ _ b e in
    let here : q.section ≡ p.section = place_same p q same in
    rw here (then_ok _ _ one.0 b (number_or_kept 0 _ _ one.0 (keeps.values p.section (rate_key rate) (leaves.rates rate)) one.1) one.2)

pub support_kept : (is_added is_set : List ℕ → Bool) (old new : List ℕ) (rate : Rate) (b : Bool) → Keeps is_added is_set old new → LeavesLists is_added is_set
    → support_of old rate ≡ Ok b → support_of new rate ≡ Ok b
support_kept is_added is_set old new rate b keeps leaves e =
    rate_kept is_added is_set old new _ _ rate b keeps leaves (keeps.sections (codes "DeviceInfo") leaves.info) e

-- sub sections keep their rules
subs_kept : (is_added is_set : List ℕ → Bool) (old new : List ℕ) (index sub count : ℕ) → Keeps is_added is_set old new → LeavesObjects is_set
    → each (described_sub old) (subs_from old index sub count) ≡ Ok tt → each (described_sub new) (subs_from new index sub count) ≡ Ok tt
unfolding each subs_from
subs_kept is_added is_set old new index sub zero keeps leaves e = refl
subs_kept is_added is_set old new index sub (suc count) keeps leaves e =
    by_place (coded_place old (sub_code index sub)) (coded_place new (sub_code index sub)) (keeps.coded (sub_code index sub)) e
    (subs_kept is_added is_set old new index (sub + 1) count keeps leaves)
  where
    by_place : (o p : Option Place) → SamePlace o p → each (described_sub old) (sub_found sub o ++ subs_from old index (sub + 1) count) ≡ Ok tt
        → (each (described_sub old) (subs_from old index (sub + 1) count) ≡ Ok tt → each (described_sub new) (subs_from new index (sub + 1) count) ≡ Ok tt)
        → each (described_sub new) (sub_found sub p ++ subs_from new index (sub + 1) count) ≡ Ok tt
    by_place None None same h later = later h
    by_place None (Some q) same h later = cc
    by_place (Some p) None same h later = cc
    by_place (Some p) (Some q) same h later =
        let one = bind_ok (described_sub old (sub, p)) (λ _. each (described_sub old) (subs_from old index (sub + 1) count)) tt h in
        let two = bind_ok (described old p) (λ _. Ok tt) one.0 one.1 in
        then_ok (described_sub new (sub, q)) (λ _. each (described_sub new) (subs_from new index (sub + 1) count)) tt tt
        (then_ok (described new q) (λ _. Ok tt) two.0 tt (described_kept is_added is_set old new p q two.0 keeps leaves (place_same p q same) two.1) refl)
        (later one.2)

own_kept : (is_added is_set : List ℕ → Bool) (old new : List ℕ) (index : ℕ) → Keeps is_added is_set old new → SamePlace (own_place old index) (own_place new index)
own_kept is_added is_set old new index keeps = by_bound (nat_lt 65535 index)
  where
    by_bound : (b : Bool) → SamePlace (cond b None (coded_place old (object_code index))) (cond b None (coded_place new (object_code index)))
    by_bound true = refl
    by_bound false = keeps.coded (object_code index)

object_kept : (is_added is_set : List ℕ → Bool) (old new : List ℕ) (l m index : ℕ) → Keeps is_added is_set old new → LeavesObjects is_set
    → checked_object old l index ≡ Ok tt → checked_object new m index ≡ Ok tt
unfolding checked_object
object_kept is_added is_set old new l m index keeps leaves e =
    by_place (own_place old index) (own_place new index) (own_kept is_added is_set old new index keeps) e
  where
    by_place : (o p : Option Place) → SamePlace o p
        → (needed l o >>= λ place. described old place >>= λ _. each (described_sub old) (subs_of old index)) ≡ Ok tt
        → (needed m p >>= λ place. described new place >>= λ _. each (described_sub new) (subs_of new index)) ≡ Ok tt
    by_place None None same h = cc
    by_place None (Some q) same h = cc
    by_place (Some p) None same h = cc
    by_place (Some p) (Some q) same h =
        let one = bind_ok (described old p) (λ _. each (described_sub old) (subs_of old index)) tt h in
        then_ok (described new q) (λ _. each (described_sub new) (subs_of new index)) one.0 tt
        (described_kept is_added is_set old new p q one.0 keeps leaves (place_same p q same) one.1)
        (subs_kept is_added is_set old new index 0 256 keeps leaves one.2)

unit_is : (u : Unit {0}) → ◌≡◌ {A = Result (Unit {0}) Refusal} (Ok u) (Ok tt)
unit_is tt = refl

-- an index of a list
item_kept : (is_added is_set : List ℕ → Bool) (old new : List ℕ) (p q : Place) (i x : ℕ) → Keeps is_added is_set old new → LeavesObjects is_set → LeavesLists is_added is_set
    → q.section ≡ p.section → i < 2 ^ 64 → listed_at old p i ≡ Ok x → listed_at new q i ≡ Ok x
unfolding listed_at
item_kept is_added is_set old new p q i x keeps leaves lists same small e =
    by_entry (entry_of old p.section (decimal i)) (entry_of new q.section (decimal i)) (rw same (keeps.values p.section (decimal i) (lists.numbers i small))) e
  where
    by_entry : (o r : Option (ℕ × List ℕ)) → SameValue o r
        → (needed p.line o >>= λ entry. number_at entry >>= λ index. checked_object old entry.0 index >>= λ _. Ok index) ≡ Ok x
        → (needed q.line r >>= λ entry. number_at entry >>= λ index. checked_object new entry.0 index >>= λ _. Ok index) ≡ Ok x
    by_entry None None v h = cc
    by_entry None (Some b) v h = cc
    by_entry (Some a) None v h = cc
    by_entry (Some a) (Some b) v h =
        let one = bind_ok (number_at a) (λ index. checked_object old a.0 index >>= λ _. Ok index) x h in
        let two = bind_ok (checked_object old a.0 one.0) (λ _. Ok one.0) x one.2 in
        then_ok (number_at b) (λ index. checked_object new b.0 index >>= λ _. Ok index) one.0 x
        (number_kept a b one.0 (some_same a b v) one.1)
        (then_ok (checked_object new b.0 one.0) (λ _. Ok one.0) tt x (object_kept is_added is_set old new a.0 b.0 one.0 keeps leaves (two.1 ∙ unit_is two.0)) two.2)

items_kept : (is_added is_set : List ℕ → Bool) (old new : List ℕ) (p q : Place) (found : List ℕ) (count : ℕ) (xs : List ℕ) → Keeps is_added is_set old new → LeavesObjects is_set → LeavesLists is_added is_set
    → q.section ≡ p.section → length found + count < 2 ^ 64
    → items_from (λ found. listed_at old p (length found + 1)) found count ≡ Ok xs → items_from (λ found. listed_at new q (length found + 1)) found count ≡ Ok xs
unfolding items_from
items_kept is_added is_set old new p q found zero xs keeps leaves lists same small e = e
items_kept is_added is_set old new p q found (suc count) xs keeps leaves lists same small e =
    let one = bind_ok (listed_at old p (length found + 1)) (λ x. items_from (λ found. listed_at old p (length found + 1)) (found ++ x ∷ []) count) xs e in
    let longer : length (found ++ one.0 ∷ []) ≡ length found + 1 = length-append found (one.0 ∷ []) in
    then_ok (listed_at new q (length found + 1)) (λ x. items_from (λ found. listed_at new q (length found + 1)) (found ++ x ∷ []) count) one.0 xs
    (item_kept is_added is_set old new p q (length found + 1) one.0 keeps leaves lists same (omega arith) one.1)
    (items_kept is_added is_set old new p q (found ++ one.0 ∷ []) count xs keeps leaves lists same (omega arith) one.2)

number_in_small : (radix : ℕ) (digits : List ℕ) (n : ℕ) → number_in radix digits ≡ Some n → n < 2 ^ 64
number_in_small radix digits n e = by_test (is_numeral radix digits) (nat_lt (digits_value radix digits) (2 ^ 64)) refl e
  where
    by_test : (a b : Bool) → nat_lt (digits_value radix digits) (2 ^ 64) ≡ b → cond (a && b) (Some (digits_value radix digits)) None ≡ Some n → n < 2 ^ 64
    by_test false b p h = cc
    by_test true false p h = cc
    by_test true true p h =
        let same : digits_value radix digits ≡ n = cc in
        let less : digits_value radix digits < 2 ^ 64 = grind (arith, nat_tests) in
        rw same at less

number_small : (text : List ℕ) (n : ℕ) → number_of text ≡ Ok n → n < 2 ^ 64
number_small text n e = by_form (is_hexadecimal text) e
  where
    by_hex : (o : Option ℕ) → number_in 16 (drop 2 text) ≡ o → some_number o ≡ Ok n → n < 2 ^ 64
    by_hex None p h = cc
    by_hex (Some m) p h = let same : m ≡ n = cc in number_in_small 16 (drop 2 text) n (p ∙ ap Some same)

    by_doubt : (m : ℕ) (b : Bool) → number_in 10 text ≡ Some m → ◌≡◌ {A = Result ℕ Rule} (cond b (Err AmbiguousNumber) (Ok m)) (Ok n) → n < 2 ^ 64
    by_doubt m true p h = cc
    by_doubt m false p h = let same : m ≡ n = cc in number_in_small 10 text n (p ∙ ap Some same)

    by_decimal : (o : Option ℕ) → number_in 10 text ≡ o → unambiguous text o ≡ Ok n → n < 2 ^ 64
    by_decimal None p h = cc
    by_decimal (Some m) p h = by_doubt m (is_ambiguous text m) p h

    by_form : (b : Bool) → cond b (some_number (number_in 16 (drop 2 text))) (unambiguous text (number_in 10 text)) ≡ Ok n → n < 2 ^ 64
    by_form true h = by_hex (number_in 16 (drop 2 text)) refl h
    by_form false h = by_decimal (number_in 10 text) refl h

stands : {A : Type 0} (l : ℕ) (r : Result A Rule) (x : A) → standing_at l r ≡ Ok x → r ≡ Ok x
stands l (Ok y) x e = cc
stands l (Err rule) x e = cc

list_kept : (is_added is_set : List ℕ → Bool) (old new : List ℕ) (o p : Option Place) (xs : List ℕ) → Keeps is_added is_set old new → LeavesObjects is_set → LeavesLists is_added is_set
    → SamePlace o p → listed_in old o ≡ Ok xs → listed_in new p ≡ Ok xs
unfolding listed_in
list_kept is_added is_set old new None None xs keeps leaves lists same e = e
list_kept is_added is_set old new None (Some q) xs keeps leaves lists same e = cc
list_kept is_added is_set old new (Some p) None xs keeps leaves lists same e = cc
list_kept is_added is_set old new (Some p) (Some q) xs keeps leaves lists same e =
    by_entry (entry_of old p.section (codes "SupportedObjects")) (entry_of new q.section (codes "SupportedObjects"))
    (rw here (keeps.values p.section (codes "SupportedObjects") lists.count)) e
  where
    here : q.section ≡ p.section
    here = place_same p q same

    by_entry : (r s : Option (ℕ × List ℕ)) → SameValue r s
        → (needed p.line r >>= λ entry. number_at entry >>= λ count. listed_from old p [] count) ≡ Ok xs
        → (needed q.line s >>= λ entry. number_at entry >>= λ count. listed_from new q [] count) ≡ Ok xs
    by_entry None None v h = cc
    by_entry None (Some b) v h = cc
    by_entry (Some a) None v h = cc
    by_entry (Some a) (Some b) v h =
        let one = bind_ok (number_at a) (λ count. listed_from old p [] count) xs h in
        let small : one.0 < 2 ^ 64 = number_small a.1 one.0 (stands a.0 (number_of a.1) one.0 one.1) in
        then_ok (number_at b) (λ count. listed_from new q [] count) one.0 xs (number_kept a b one.0 (some_same a b v) one.1)
        (items_kept is_added is_set old new p q [] one.0 xs keeps leaves lists here (omega arith) one.2)

pub listed_kept : (is_added is_set : List ℕ → Bool) (old new : List ℕ) (xs : List ℕ) → Keeps is_added is_set old new → LeavesObjects is_set → LeavesLists is_added is_set
    → listed old ≡ Ok xs → listed new ≡ Ok xs
unfolding listed
listed_kept is_added is_set old new xs keeps leaves lists e =
    let one = bind_ok _ _ xs e in
    let two = bind_ok _ _ xs one.2 in
    let three = bind_ok _ _ xs two.2 in
    then_ok _ _ one.0 xs (list_kept is_added is_set old new _ _ one.0 keeps leaves lists (keeps.sections (codes "MandatoryObjects") lists.mandatory) one.1)
    (then_ok _ _ two.0 xs (list_kept is_added is_set old new _ _ two.0 keeps leaves lists (keeps.sections (codes "OptionalObjects") lists.optional) two.1)
    (then_ok _ _ three.0 xs (list_kept is_added is_set old new _ _ three.0 keeps leaves lists (keeps.sections (codes "ManufacturerObjects") lists.manufacturer) three.1) three.2))

checks : (text : List ℕ) → reading text ≡ Ok text → (checked_rates text ≡ Ok tt) × ((xs : List ℕ) × (listed text ≡ Ok xs))
unfolding reading
checks text e =
    let one = bind_ok (at_most (4 * 1024 * 1024) text) (λ _. checked_lines text >>= λ _. checked_rates text >>= λ _. listed text >>= λ _. Ok text) text e in
    let two = bind_ok (checked_lines text) (λ _. checked_rates text >>= λ _. listed text >>= λ _. Ok text) text one.2 in
    let three = bind_ok (checked_rates text) (λ _. listed text >>= λ _. Ok text) text two.2 in
    let four = bind_ok (listed text) (λ _. Ok text) text three.2 in
    (three.1 ∙ unit_is three.0, (four.0, four.1))

-- of two texts of which the new one keeps what the rules look at, the new one is accepted where its lines are lawful and few
pub reading_kept : (is_added is_set : List ℕ → Bool) (old new : List ℕ) → Keeps is_added is_set old new → LeavesObjects is_set → LeavesLists is_added is_set
    → reading old ≡ Ok old → length new ≤ 4 * 1024 * 1024 → first_refusal new [] (lines_of new) ≡ None → reading new ≡ Ok new
unfolding reading
reading_kept is_added is_set old new keeps leaves lists e small lawful =
    let was = checks old e in
    let fits : nat_lt (4 * 1024 * 1024) (length new) ≡ false = grind (arith, nat_tests) in
    let few : at_most (4 * 1024 * 1024) new ≡ Ok new = rw fits refl in
    let lines : checked_lines new ≡ Ok (lines_of new) = rw lawful refl in
    let rates : checked_rates new ≡ Ok tt = each_kept (support_of old) (support_of new) all_rates (λ rate b h. support_kept is_added is_set old new rate b keeps lists h) was.0 in
    then_ok (at_most (4 * 1024 * 1024) new) (λ _. checked_lines new >>= λ _. checked_rates new >>= λ _. listed new >>= λ _. Ok new) new new few
    (then_ok (checked_lines new) (λ _. checked_rates new >>= λ _. listed new >>= λ _. Ok new) (lines_of new) new lines
    (then_ok (checked_rates new) (λ _. listed new >>= λ _. Ok new) tt new rates
    (then_ok (listed new) (λ _. Ok new) was.1.0 new (listed_kept is_added is_set old new was.1.0 keeps leaves lists was.1.1) refl)))

-- and its objects are the same, but for the lines at which their sections begin
pub keeps_back : (is_added is_set : List ℕ → Bool) (old new : List ℕ) → Keeps is_added is_set old new → Keeps is_added is_set new old
keeps_back is_added is_set old new keeps = record {
  sections = λ name h. sym (keeps.sections name h);
  coded = λ code. sym (keeps.coded code);
  values = λ section key h. sym (keeps.values section key h);
}

object_seen : (index sub : ℕ) (p q : Place) (d : Description) → q.section ≡ p.section → map seen (object_in index sub q (Ok d)) ≡ map seen (object_in index sub p (Ok d))
object_seen index sub p q d same = by_kind (holds_value d.object_type) d.access
  where
    by_kind : (b : Bool) (a : Option Access) → map seen (cond b (with_access index sub q d a) []) ≡ map seen (cond b (with_access index sub p d a) [])
    by_kind false a = refl
    by_kind true None = refl
    by_kind true (Some access) = rw same refl

SameOk : Result Description Refusal → Result Description Refusal → Type 0
SameOk r s = (d : Description) → (r ≡ Ok d → s ≡ Ok d) × (s ≡ Ok d → r ≡ Ok d)

described_same : (is_added is_set : List ℕ → Bool) (old new : List ℕ) (p q : Place) → Keeps is_added is_set old new → LeavesObjects is_set
    → q.section ≡ p.section → SameOk (described old p) (described new q)
unfolding SameOk
described_same is_added is_set old new p q keeps leaves same d =
    (described_kept is_added is_set old new p q d keeps leaves same, described_kept is_added is_set new old q p d (keeps_back is_added is_set old new keeps) leaves (sym same))

-- where both are read as one description, or neither is read
by_same : {A : Type 0} (f g : Result Description Refusal → List A) (r s : Result Description Refusal) → SameOk r s
    → ((d : Description) → g (Ok d) ≡ f (Ok d)) → ((e e' : Refusal) → g (Err e) ≡ f (Err e')) → g s ≡ f r
unfolding SameOk
by_same f g (Ok d) s same at_ok at_err = ap g ((same d).0 refl) ∙ at_ok d
by_same f g (Err e) (Ok d) same at_ok at_err = absurd (let h : ◌≡◌ {A = Result Description Refusal} (Err e) (Ok d) = (same d).1 refl in cc)
by_same f g (Err e) (Err e') same at_ok at_err = at_err e' e

subs_seen : (is_added is_set : List ℕ → Bool) (old new : List ℕ) (index sub count : ℕ) → Keeps is_added is_set old new → LeavesObjects is_set
    → map seen (flat_map (sub_object new index) (subs_from new index sub count)) ≡ map seen (flat_map (sub_object old index) (subs_from old index sub count))
unfolding subs_from
subs_seen is_added is_set old new index sub zero keeps leaves = refl
subs_seen is_added is_set old new index sub (suc count) keeps leaves =
    by_place (coded_place old (sub_code index sub)) (coded_place new (sub_code index sub)) (keeps.coded (sub_code index sub))
    (subs_seen is_added is_set old new index (sub + 1) count keeps leaves)
  where
    by_place : (o p : Option Place) → SamePlace o p
        → map seen (flat_map (sub_object new index) (subs_from new index (sub + 1) count)) ≡ map seen (flat_map (sub_object old index) (subs_from old index (sub + 1) count))
        → map seen (flat_map (sub_object new index) (sub_found sub p ++ subs_from new index (sub + 1) count))
        ≡ map seen (flat_map (sub_object old index) (sub_found sub o ++ subs_from old index (sub + 1) count))
    by_place None None same later = later
    by_place None (Some q) same later = cc
    by_place (Some p) None same later = cc
    by_place (Some p) (Some q) same later =
        let here : q.section ≡ p.section = place_same p q same in
        let one : map seen (sub_object new index (sub, q)) ≡ map seen (sub_object old index (sub, p)) =
        by_same (λ r. map seen (object_in index sub p r)) (λ r. map seen (object_in index sub q r)) (described old p) (described new q)
        (described_same is_added is_set old new p q keeps leaves here) (λ d. object_seen index sub p q d here) (λ e e'. refl) in
        map-append seen (sub_object new index (sub, q)) (flat_map (sub_object new index) (subs_from new index (sub + 1) count))
        ∙ ap (λ xs. xs ++ map seen (flat_map (sub_object new index) (subs_from new index (sub + 1) count))) one
        ∙ ap (λ xs. map seen (sub_object old index (sub, p)) ++ xs) later
        ∙ sym (map-append seen (sub_object old index (sub, p)) (flat_map (sub_object old index) (subs_from old index (sub + 1) count)))

at_seen : (is_added is_set : List ℕ → Bool) (old new : List ℕ) (index : ℕ) → Keeps is_added is_set old new → LeavesObjects is_set
    → map seen (objects_at new index) ≡ map seen (objects_at old index)
unfolding objects_at
at_seen is_added is_set old new index keeps leaves = by_place (own_place old index) (own_place new index) (own_kept is_added is_set old new index keeps)
  where
    by_holds : (p q : Place) (d : Description) → q.section ≡ p.section → (b : Bool)
        → map seen (cond b (flat_map (sub_object new index) (subs_of new index)) (object_in index 0 q (Ok d)))
        ≡ map seen (cond b (flat_map (sub_object old index) (subs_of old index)) (object_in index 0 p (Ok d)))
    by_holds p q d same true = subs_seen is_added is_set old new index 0 256 keeps leaves
    by_holds p q d same false = object_seen index 0 p q d same

    by_place : (o p : Option Place) → SamePlace o p → map seen (objects_from new index p) ≡ map seen (objects_from old index o)
    by_place None None same = refl
    by_place None (Some q) same = cc
    by_place (Some p) None same = cc
    by_place (Some p) (Some q) same =
        let here : q.section ≡ p.section = place_same p q same in
        by_same (λ r. map seen (objects_by old index p r)) (λ r. map seen (objects_by new index q r)) (described old p) (described new q)
        (described_same is_added is_set old new p q keeps leaves here) (λ d. by_holds p q d here (holds_subs d.object_type)) (λ e e'. refl)

all_seen : (is_added is_set : List ℕ → Bool) (old new : List ℕ) (xs : List ℕ) → Keeps is_added is_set old new → LeavesObjects is_set
    → map seen (flat_map (objects_at new) xs) ≡ map seen (flat_map (objects_at old) xs)
all_seen is_added is_set old new [] keeps leaves = refl
all_seen is_added is_set old new (x ∷ xs) keeps leaves =
    map-append seen (objects_at new x) (flat_map (objects_at new) xs)
    ∙ ap (λ ys. ys ++ map seen (flat_map (objects_at new) xs)) (at_seen is_added is_set old new x keeps leaves)
    ∙ ap (λ ys. map seen (objects_at old x) ++ ys) (all_seen is_added is_set old new xs keeps leaves)
    ∙ sym (map-append seen (objects_at old x) (flat_map (objects_at old) xs))

pub objects_seen : (is_added is_set : List ℕ → Bool) (old new : List ℕ) → Keeps is_added is_set old new → LeavesObjects is_set → LeavesLists is_added is_set
    → reading old ≡ Ok old → map seen (objects_of new) ≡ map seen (objects_of old)
objects_seen is_added is_set old new keeps leaves lists e =
    let was = (checks old e).1 in
    let now : listed new ≡ Ok was.0 = listed_kept is_added is_set old new was.0 keeps leaves lists was.1 in
    rw (now, was.1) (all_seen is_added is_set old new (rising was.0) keeps leaves)
