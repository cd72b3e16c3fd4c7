-- Sets of rates as lists, the slowest first.
use Rattle.std.proofs.Common.{◌≡◌, ◌↔◌, ◌⊎◌, ℕ, zero, suc, Bool, true, false, cond, ◌&&◌, ◌==◌, List, [], ◌∷◌, Contains, Result, Ok, Err, refl, sym, ap, ◌∙◌, arith, eq-eqb, eqb-true, ⊎_elim, filter, if◌then◌else◌, ◌||◌, inl, inr, zero-lt-suc, Option, Some, None, IfSome, IfNone, is_some}
use Rattle.std.proofs.lemmas.Map.Views.{Contains-from_any}
use Rattle.std.proofs.lemmas.List.Elements.{Contains-append_cases, Contains-append_right}
use Rattle.cop_frame.specs.declared.rates.Rate.{Rate}
use Rattle.cop_frame.specs.declared.rates.Rate.TheVariants.{Kbit10, Kbit20, Kbit50, Kbit125, Kbit250, Kbit500, Kbit800, Kbit1000}
use Rattle.cop_frame.specs.Rate.{place_of}
use Rattle.cop_frame.specs.RateSet.{all_rates}
use Rattle.cop_eds.proofs.RateLemmas.{all_contain}
use Rattle.cop_eds.specs.Rates.{support_of}
use Rattle.cop_eds.specs.declared.fault.Refusal as eds
use Rattle.cop_net.specs.Rates.{has_rate, in_order, is_some_rate}
use Rattle.cop_net.specs.Devices.{supports, is_supported}

rate_at : ℕ → Rate
rate_at n =
    if n == 0 then Kbit10 else if n == 1 then Kbit20 else if n == 2 then Kbit50 else if n == 3 then Kbit125 else
    if n == 4 then Kbit250 else if n == 5 then Kbit500 else if n == 6 then Kbit800 else Kbit1000

at_place : (r : Rate) → rate_at (place_of r) ≡ r
unfolding rate_at
at_place Kbit10 = refl
at_place Kbit20 = refl
at_place Kbit50 = refl
at_place Kbit125 = refl
at_place Kbit250 = refl
at_place Kbit500 = refl
at_place Kbit800 = refl
at_place Kbit1000 = refl

same_rate : (x y : Rate) → (place_of x == place_of y) ≡ true → x ≡ y
same_rate x y e = sym (at_place x) ∙ ap rate_at (eqb-true (place_of x) (place_of y) e) ∙ at_place y

pub in_it : (rates : List Rate) (r : Rate) → has_rate rates r ≡ true → Contains rates r
in_it rates r h = Contains-from_any {eq = λ x y. place_of x == place_of y} same_rate r rates h

or_true : (b c : Bool) → b ≡ true → (b || c) ≡ true
or_true true c e = refl
or_true false c e = cc

or_second : (b c : Bool) → c ≡ true → (b || c) ≡ true
or_second true c e = refl
or_second false c e = e

only : (x y : Rate) → Contains (x ∷ []) y → y ≡ x
only x y (zero, lt, e) = sym e
only x y (suc k, lt, e) = absurd (omega arith)

pub of_it : (rates : List Rate) (r : Rate) → Contains rates r → has_rate rates r ≡ true
of_it [] r h = absurd (omega (arith, h.1))
of_it (x ∷ rates) r h = ⊎_elim
    (λ one. or_true (place_of r == place_of x) (has_rate rates r) (eq-eqb (place_of r) (place_of x) (ap place_of (only x r one))))
    (λ rest. or_second (place_of r == place_of x) (has_rate rates r) (of_it rates r rest))
    (Contains-append_cases (x ∷ []) rates r h)

-- what both tests pass
filter_both : (p q s : Rate → Bool) → ((r : Rate) → p r ≡ (q r && s r)) → (xs : List Rate) → filter p xs ≡ filter s (filter q xs)
filter_both p q s h [] = refl
filter_both p q s h (x ∷ xs) = rw h (by_tests (q x) (s x) refl (filter_both p q s h xs))
  where
    by_tests : (b c : Bool) → s x ≡ c → filter p xs ≡ filter s (filter q xs) → cond (b && c) (x ∷ filter p xs) (filter p xs) ≡ filter s (cond b (x ∷ filter q xs) (filter q xs))
    by_tests true true e rest = rw e (ap (λ ys. x ∷ ys) rest)
    by_tests true false e rest = rw e rest
    by_tests false c e rest = rest

same_test : (a b c : Bool) → (a ≡ true) ↔ ((b ≡ true) × (c ≡ true)) → a ≡ (b && c)
same_test true true true h = refl
same_test true true false h = absurd (let e = (h.0 refl).1 in cc)
same_test true false c h = absurd (let e = (h.0 refl).0 in cc)
same_test false true true h = h.1 (refl, refl)
same_test false true false h = refl
same_test false false c h = refl

-- those of a set that pass a test
pub filtered : (old new : List Rate) (test : Rate → Bool) → ((r : Rate) → Contains new r ↔ (Contains old r × (test r ≡ true))) → in_order new ≡ filter test (in_order old)
unfolding in_order
filtered old new test h = filter_both (has_rate new) (has_rate old) test
    (λ r. same_test (has_rate new r) (has_rate old r) (test r)
    (λ e. let p = (h r).0 (in_it new r e) in (of_it old r p.0, p.1), λ p. of_it new r ((h r).1 (in_it old r p.0, p.1)))) all_rates

support : (r : Result Bool eds.Refusal) → (is_supported r ≡ true) ↔ (r ≡ Ok true)
support (Ok true) = (λ _. refl, λ _. refl)
support (Ok false) = (λ e. cc, λ e. cc)
support (Err x) = (λ e. cc, λ e. cc)

-- those of a set that a text supports
pub narrowed : (old new mine : List Rate) (text : List ℕ) → ((r : Rate) → Contains mine r ↔ (support_of text r ≡ Ok true))
    → ((r : Rate) → Contains new r ↔ (Contains old r × Contains mine r)) → in_order new ≡ filter (supports text) (in_order old)
narrowed old new mine text own both = filtered old new (supports text)
    (λ r. (
      λ h. let p = (both r).0 h in (p.0, (support (support_of text r)).1 ((own r).0 p.1)),
      λ p. (both r).1 (p.0, (own r).1 ((support (support_of text r)).0 p.1)),
    ))

-- a set of all rates
pub all_in_order : (rates : List Rate) → ((r : Rate) → Contains rates r) → in_order rates ≡ all_rates
unfolding in_order
all_in_order rates h =
    rw (
      of_it rates Kbit10 (h Kbit10),
      of_it rates Kbit20 (h Kbit20),
      of_it rates Kbit50 (h Kbit50),
      of_it rates Kbit125 (h Kbit125),
      of_it rates Kbit250 (h Kbit250),
      of_it rates Kbit500 (h Kbit500),
      of_it rates Kbit800 (h Kbit800),
      of_it rates Kbit1000 (h Kbit1000),
    ) refl

-- the rates inserted so far
abbrev pub each_rate : Rate → Result Bool ℕ
each_rate rate = Ok true

-- the rates in order are the same
pub same_members : (rates : List Rate) (r : Rate) → Contains (in_order rates) r ↔ Contains rates r
unfolding in_order
same_members rates r = (λ h. in_it rates r (passes (has_rate rates) all_rates r h), λ h. kept (has_rate rates) all_rates r (all_contain r) (of_it rates r h))
  where
    passes_if : (b : Bool) (p : Rate → Bool) (x : Rate) (xs : List Rate) (y : Rate) → p x ≡ b → (Contains xs y → p y ≡ true) → Contains (cond b (x ∷ xs) xs) y → p y ≡ true
    passes_if false p x xs y e rest c = rest c
    passes_if true p x xs y e rest c = ⊎_elim (λ one. ap p (only x y one) ∙ e) rest (Contains-append_cases (x ∷ []) xs y c)

    passes : (p : Rate → Bool) (xs : List Rate) (y : Rate) → Contains (filter p xs) y → p y ≡ true
    passes p [] y c = absurd (omega (arith, c.1))
    passes p (x ∷ xs) y c = passes_if (p x) p x (filter p xs) y refl (passes p xs y) c

    kept_if : (b : Bool) (x y : Rate) (ys : List Rate) → (x ≡ y → b ≡ true) → (y ≡ x) ⊎ Contains ys y → Contains (cond b (x ∷ ys) ys) y
    kept_if true x y ys h (inl e) = (0, zero-lt-suc _, sym e)
    kept_if true x y ys h (inr c) = Contains-append_right (x ∷ []) ys y c
    kept_if false x y ys h (inl e) = absurd (let g = h (sym e) in cc)
    kept_if false x y ys h (inr c) = c

    kept : (p : Rate → Bool) (xs : List Rate) (y : Rate) → Contains xs y → p y ≡ true → Contains (filter p xs) y
    kept p [] y c h = absurd (omega (arith, c.1))
    kept p (x ∷ xs) y c h =
        kept_if (p x) x y (filter p xs) (λ e. ap p e ∙ h) (⊎_elim (λ one. inl (only x y one)) (λ rest. inr (kept p xs y rest h)) (Contains-append_cases (x ∷ []) xs y c))

-- a set with a slowest rate has one in order, and none otherwise
pub some_member : (rates : List Rate) (r : Rate) → Contains rates r → is_some_rate rates ≡ true
some_member [] r h = absurd (omega (arith, h.1))
some_member (x ∷ rates) r h = refl

pub no_member : (rates : List Rate) → ((r : Rate) → Contains rates r → ⊥) → is_some_rate rates ≡ false
no_member [] h = refl
no_member (x ∷ rates) h = absurd (h x (0, zero-lt-suc _, refl))

pub has_one : (rates : List Rate) (o : Option Rate) → IfSome o (Contains rates) → IfNone o ((r : Rate) → Contains rates r → ⊥) → is_some o ≡ is_some_rate (in_order rates)
has_one rates (Some r) member absent = sym (some_member (in_order rates) r ((same_members rates r).1 member))
has_one rates None member absent = sym (no_member (in_order rates) (λ r h. absent r ((same_members rates r).0 h)))

-- one set has one order
pub same_order : (old new : List Rate) → ((r : Rate) → Contains new r ↔ Contains old r) → in_order new ≡ in_order old
unfolding in_order
same_order old new h = by_test (has_rate new) (has_rate old)
    (λ r. one_answer (has_rate new r) (has_rate old r) (λ e. of_it old r ((h r).0 (in_it new r e)), λ e. of_it new r ((h r).1 (in_it old r e)))) all_rates
  where
    one_answer : (a b : Bool) → (a ≡ true) ↔ (b ≡ true) → a ≡ b
    one_answer true true h = refl
    one_answer true false h = absurd (let e = h.0 refl in cc)
    one_answer false true h = absurd (let e = h.1 refl in cc)
    one_answer false false h = refl

    by_test : (p q : Rate → Bool) → ((r : Rate) → p r ≡ q r) → (xs : List Rate) → filter p xs ≡ filter q xs
    by_test p q h [] = refl
    by_test p q h (x ∷ xs) = rw h (ap (λ ys. cond (q x) (x ∷ ys) ys) (by_test p q h xs))

-- what is in a set and in itself
pub in_both : (rates both : List Rate) → ((r : Rate) → Contains both r ↔ (Contains rates r × Contains rates r)) → (r : Rate) → Contains both r ↔ Contains rates r
in_both rates both h r = (λ c. ((h r).0 c).0, λ c. (h r).1 (c, c))
