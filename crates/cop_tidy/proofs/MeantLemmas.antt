-- What two sets have in common, and a text and a device.
use Rattle.std.proofs.Common.{◌≡◌, ◌↔◌, ◌⊎◌, ◌<◌, inl, inr, ⊎_elim, ℕ, zero, suc, nat_le, slice_index_or, ◌&&◌, ◌||◌, ◌==◌, Bool, true, false, IsTrue, List, [], ◌∷◌, Contains, Result, Ok, length, refl, ap, sym, ◌∙◌, subst, arith, rules}
use Rattle.std.specs.List.{list_any, list_all, IsFirstAndRest}
use Rattle.std.specs.Ordering.{nat_cmp}
use Rattle.std.specs.BTreeSet.{BTreeSet, contains}
use Rattle.std.proofs.lemmas.Bool.Decides.{nat_tests}
use Rattle.std.proofs.lemmas.Cmp.{nat_cmp_total}
use Rattle.std.proofs.lemmas.List.Sums.{AllPass-from_list_all, list_all-from_AllPass}
use Rattle.std.proofs.lemmas.Map.Lookups.{exact_unsigned}
use Rattle.std.proofs.lemmas.Map.Views.{btree_set_contains_iff, All-set_contains}
use Rattle.std.proofs.lemmas.List.Elements.{Contains-append_cases, Contains-append_right}
use Rattle.cop_frame.specs.declared.rates.Rate.{Rate}
use Rattle.cop_eds.specs.Rates.{support_of}
use Rattle.cop_frame.specs.declared.rates.Rate.TheVariants.{Kbit10, Kbit20, Kbit50, Kbit125, Kbit250, Kbit500, Kbit800, Kbit1000}
use Rattle.cop_eds.specs.declared.fault.Refusal.{Refusal}
use Rattle.cop_dict.specs.Find.{Entry}
use Rattle.cop_dict.specs.Build.{built}
use Rattle.cop_tidy_device.specs.Device.{Meaning, dictionary_for}
use Rattle.cop_tidy_device.proofs.NodeLemmas.{built_between}
use Rattle.cop_eds_hazards.specs.Listed.{is_listed, AreListed}
use Rattle.cop_tidy.specs.Meant.{has_each, IsInBoth, HaveSameSlow, HaveSameFast, HasRates, HasLists, HasAll, IsOf}

-- ---- rates

only : (x r : Rate) → Contains (x ∷ []) r → r ≡ x
only x r (zero, lt, e) = sym e
only x r (suc k, lt, e) = absurd (omega arith)

-- a rate that is put into a set comes from the rest
pub rate_moved : (new old rest others whole : List Rate) (x : Rate) → IsFirstAndRest rest x others → ((r : Rate) → Contains new r ↔ (Contains old r ⊎ (r ≡ x)))
    → ((r : Rate) → (Contains old r ⊎ Contains rest r) ↔ Contains whole r) → (r : Rate) → (Contains new r ⊎ Contains others r) ↔ Contains whole r
rate_moved new old rest others whole x cut put h r =
    let is = cut.0 in
    let back : Contains rest r → (r ≡ x) ⊎ Contains others r = λ c. split (subst (λ (l : List Rate). Contains l r) is c) in
    let here : (r ≡ x) → Contains rest r = λ e. subst (λ (l : List Rate). Contains l r) (sym is) (first e) in
    let more : Contains others r → Contains rest r = λ c. subst (λ (l : List Rate). Contains l r) (sym is) (Contains-append_right (x ∷ []) others r c) in (
      λ c. (h r).0 (⊎_elim (λ n. ⊎_elim (λ o. inl o) (λ e. inr (here e)) ((put r).0 n)) (λ o. inr (more o)) c),
      λ w. ⊎_elim (λ o. inl ((put r).1 (inl o))) (λ c. ⊎_elim (λ e. inl ((put r).1 (inr e))) (λ o. inr o) (back c)) ((h r).1 w),
    )
  where
    split : Contains (x ∷ others) r → (r ≡ x) ⊎ Contains others r
    split c = ⊎_elim (λ one. inl (only x r one)) (λ o. inr o) (Contains-append_cases (x ∷ []) others r c)

    first : r ≡ x → Contains (x ∷ others) r
    first e = (0, omega arith, sym e)

pub none_left : (set rest whole : List Rate) → length rest ≡ 0 → ((r : Rate) → (Contains set r ⊎ Contains rest r) ↔ Contains whole r) → (r : Rate) → Contains set r ↔ Contains whole r
none_left set rest whole none h r =
    let nothing : Contains rest r → ⊥ = λ c. absurd (omega (arith, c.1, none)) in
    (λ c. (h r).0 (inl c), λ w. ⊎_elim (λ c. c) (λ c. absurd (nothing c)) ((h r).1 w))

-- what holds of each rate by name holds of all
pub each_rate : (P : Rate → Type 0) → P Kbit10 → P Kbit20 → P Kbit50 → P Kbit125 → P Kbit250 → P Kbit500 → P Kbit800 → P Kbit1000 → (rate : Rate) → P rate
each_rate P a b c d e f g h Kbit10 = a
each_rate P a b c d e f g h Kbit20 = b
each_rate P a b c d e f g h Kbit50 = c
each_rate P a b c d e f g h Kbit125 = d
each_rate P a b c d e f g h Kbit250 = e
each_rate P a b c d e f g h Kbit500 = f
each_rate P a b c d e f g h Kbit800 = g
each_rate P a b c d e f g h Kbit1000 = h

pub same_by_name : (left right : List Rate) (b : Bool) → (IsTrue b ↔ (HaveSameSlow left right × HaveSameFast left right))
    → IsTrue b ↔ ((rate : Rate) → Contains left rate ↔ Contains right rate)
unfolding IsInBoth HaveSameSlow HaveSameFast
same_by_name left right b h = (
  λ t. let a = (h.0 t).0 in let z = (h.0 t).1 in each_rate (IsInBoth left right) a.0 a.1.0 a.1.1.0 a.1.1.1 z.0 z.1.0 z.1.1.0 z.1.1.1,
  λ all. h.1 ((all Kbit10, (all Kbit20, (all Kbit50, all Kbit125))), (all Kbit250, (all Kbit500, (all Kbit800, all Kbit1000)))),
)

-- the rates of a text and those of a device
pub rates_so : (text : List ℕ) (rates mine theirs : List Rate) (b : Bool) → ((r : Rate) → Contains mine r ↔ (support_of text r ≡ Ok true))
    → ((r : Rate) → Contains theirs r ↔ Contains rates r) → (IsTrue b ↔ ((r : Rate) → Contains mine r ↔ Contains theirs r))
    → IsTrue b ↔ HasRates text rates
unfolding HasRates
rates_so text rates mine theirs b m t h = (
  λ so r. (λ says. (t r).0 ((h.0 so r).0 ((m r).1 says)), λ has. (m r).0 ((h.0 so r).1 ((t r).1 has))),
  λ all. h.1 (λ r. (λ c. (t r).1 ((all r).0 ((m r).0 c)), λ c. (m r).1 ((all r).1 ((t r).0 c)))),
)

-- ---- indexes

-- an index that is put into a set comes from the rest
pub index_moved : (index x : ℕ) (new old : Bool) (rest others : List ℕ) (whole : Bool) → rest ≡ x ∷ others → new ≡ (old || (index == x))
    → (old || list_any (λ i. index == i) rest) ≡ whole → (new || list_any (λ i. index == i) others) ≡ whole
index_moved index x new old rest others whole is put h =
    ap (λ b. b || list_any (λ i. index == i) others) put ∙ (or_assoc old (index == x) (list_any (λ i. index == i) others)
    ∙ (ap (λ l. old || list_any (λ i. index == i) l) (sym is) ∙ h))
  where
    or_assoc : (a b c : Bool) → ((a || b) || c) ≡ (a || (b || c))
    or_assoc true b c = refl
    or_assoc false b c = refl

left_over : (a b : Bool) → (a || b) ≡ true → a ≡ false → b ≡ true
left_over true b h e = absurd (search (rules, e))
left_over false b h e = h

-- an index of 16 bits of a set is in the other one, which has each
has_at : (indexes others : BTreeSet ℕ) → has_each indexes others.keys ≡ true → (index : ℕ) → index < 0x10000 → contains nat_cmp others index ≡ true
    → contains nat_cmp indexes index ≡ true
has_at indexes others each index low has =
    let at : Contains others.keys index = (btree_set_contains_iff nat_cmp_total exact_unsigned others index).0 has in
    let test : ℕ → Bool = λ i. nat_le 0x10000 i || contains nat_cmp indexes i in
    let passed : test (slice_index_or others.keys at.0 index) ≡ true = AllPass-from_list_all test others.keys each at.0 index at.1 in
    left_over (nat_le 0x10000 index) (contains nat_cmp indexes index) (subst (λ (i : ℕ). test i ≡ true) at.2 passed) (grind (arith, nat_tests, low))

passes_by : (i : ℕ) (is b : Bool) → nat_le 0x10000 i ≡ is → (i < 0x10000 → b ≡ true) → (nat_le 0x10000 i || b) ≡ true
passes_by i true b e h = rw e refl
passes_by i false b e h = rw (e, h (grind (arith, nat_tests, e))) refl

-- a set has each of another one where it has those of 16 bits that the other has
all_has : (indexes others : BTreeSet ℕ) → ((index : ℕ) → index < 0x10000 → contains nat_cmp indexes index ≡ contains nat_cmp others index)
    → has_each indexes others.keys ≡ true
all_has indexes others same =
    let test : ℕ → Bool = λ i. nat_le 0x10000 i || contains nat_cmp indexes i in
    list_all-from_AllPass test others.keys
    (λ k d lt. let i = slice_index_or others.keys k d in
    passes_by i (nat_le 0x10000 i) (contains nat_cmp indexes i) refl (λ low. same i low ∙ All-set_contains nat_cmp_total others k d lt))

same_bools : (a b : Bool) → (a ≡ true → b ≡ true) → (b ≡ true → a ≡ true) → a ≡ b
same_bools true b f g = sym (f refl)
same_bools false true f g = g refl
same_bools false false f g = refl

both_true : (a b : Bool) → (a && b) ≡ true → (a ≡ true) × (b ≡ true)
both_true true true h = (refl, refl)
both_true true false h = absurd (search (rules, h))
both_true false b h = absurd (search (rules, h))

-- the lists of a text name what a set has, where the two sets have each other's
pub listed_alike : (text : List ℕ) (named indexes : BTreeSet ℕ) (b : Bool) → AreListed text named → b ≡ (has_each named indexes.keys && has_each indexes named.keys)
    → IsTrue b ↔ ((index : ℕ) → index < 0x10000 → is_listed text index ≡ contains nat_cmp indexes index)
listed_alike text named indexes b l e = (λ t. there (both_true (has_each named indexes.keys) (has_each indexes named.keys) (sym e ∙ t)), λ same. e ∙ back same)
  where
    there : (has_each named indexes.keys ≡ true) × (has_each indexes named.keys ≡ true) → (index : ℕ) → index < 0x10000 → is_listed text index ≡ contains nat_cmp indexes index
    there h index low =
        sym (l.each index) ∙ same_bools (contains nat_cmp named index) (contains nat_cmp indexes index) (has_at indexes named h.1 index low) (has_at named indexes h.0 index low)

    back : ((index : ℕ) → index < 0x10000 → is_listed text index ≡ contains nat_cmp indexes index) → (has_each named indexes.keys && has_each indexes named.keys) ≡ true
    back same =
        let first : has_each named indexes.keys ≡ true = all_has named indexes (λ index low. l.each index ∙ same index low) in
        let second : has_each indexes named.keys ≡ true = all_has indexes named (λ index low. sym (l.each index ∙ same index low)) in
        rw (first, second) refl

-- ---- a text and a device

same_dictionary : (r : Result (List Entry) Refusal) (a b : List Entry) → r ≡ Ok a → r ≡ Ok b → a ≡ b
same_dictionary r a b e f = by_ok (sym e ∙ f)
  where
    by_ok : ◌≡◌ {A = Result (List Entry) Refusal} (Ok a) (Ok b) → a ≡ b
    by_ok g = cc

pub all_of : (text : List ℕ) (first last : List Entry) (device : Meaning) (b : Bool) → built text 1 ≡ Ok first → built text 127 ≡ Ok last
    → (IsTrue b ↔ HasAll text first last device) → IsTrue b ↔ IsOf text device
unfolding HasRates HasLists
all_of text first last device b f l h = (λ t. of (h.0 t), λ o. h.1 (all o))
  where
    of : HasAll text first last device → IsOf text device
    of a = record {
      dictionaries = λ node low high. built_between text device node low high (f ∙ ap (λ (dict : List Entry). Ok dict) a.0.0) (l ∙ ap (λ (dict : List Entry). Ok dict) a.0.1);
      rates = a.1.0;
      lists = a.1.1;
    }

    all : IsOf text device → HasAll text first last device
    all o = (
      (
        same_dictionary (built text 1) first (dictionary_for 1 device) f (o.dictionaries 1 (omega arith) (omega arith)),
        same_dictionary (built text 127) last (dictionary_for 127 device) l (o.dictionaries 127 (omega arith) (omega arith)),
      ),
      (o.rates, o.lists),
    )
