-- The lowest of the streams that may be sent, place by place.
use Rattle.std.proofs.Common.{◌≡◌, ℕ, ◌≤◌, ◌<◌, ◌⊎◌, inl, inr, List, [], ◌∷◌, length, refl, sym, ◌∙◌, ap, subst, arith, suc, zero, Bool, true, false, cond, ◌&&◌, nat_lt, get_or}
use Rattle.std.specs.Prelude.{Option, None, Some, slice_get}
use Rattle.std.proofs.lemmas.Bool.{cases_lt}
use Rattle.cop_rta.specs.declared.streams.Stream.{Stream}
use Rattle.cop_bus.proofs.Work.{true-lt, lt-true}
use Rattle.cop_bus.proofs.Demand.{and-left, and-right}
use Rattle.cop_bus.proofs.StepLemmas.{bool_cases}
use Rattle.cop_sim.specs.declared.behaviours.Offer.{Offer}
use Rattle.cop_sim.specs.declared.choosing.Sent.{Sent}
use Rattle.cop_bus.specs.Rings.{RingValue}
use Rattle.cop_sim.specs.Seats.{id_at, next_at, may_be_sent, IsPlaceOf, IsChosen, IsChosenSoFar, is_lower, lower_of}

pub got : {X : Type 0} (xs : List X) (i : ℕ) (x d : X) → slice_get xs i ≡ Some x → get_or xs i d ≡ x
got [] i x d e = absurd (cc)
got (y ∷ ys) zero x d e = some y x e
  where
    some : {X : Type 0} (y x : X) → Some y ≡ Some x → y ≡ x
    some y x e = cc
got (y ∷ ys) (suc i) x d e = got ys i x d e

pub id-got : (streams : List Stream) (i : ℕ) (k : Stream) → slice_get streams i ≡ Some k → id_at streams i ≡ k.id
id-got [] i k e = absurd (cc)
id-got (y ∷ ys) zero k e = (let q : y ≡ k = some y k e in ap (λ s. s.id) q)
  where
    some : (y x : Stream) → Some y ≡ Some x → y ≡ x
    some y x e = cc
id-got (y ∷ ys) (suc i) k e = id-got ys i k e

module _ {B : Type 0} (agrees : B → ℕ → ℕ → Bool) (streams : List Stream) (next : List (Option Offer)) (rings : List RingValue) (behaviours : List B) (tau z i id : ℕ) (may : Bool) (within : i < length streams) (its : id_at streams i ≡ id)
    (is : (k : Stream) (r : RingValue) (b : B) → IsPlaceOf streams rings behaviours i k r b → may_be_sent (agrees b) tau z (length r.waiting) (next_at next i) ≡ may) where
  last : (j : ℕ) → j < suc i → (j < i) ⊎ (j ≡ i)
  last j l = elim (cases_lt j i) [ inl a ↦ inl a | inr a ↦ inr (omega arith) ]

  at-last : (j : ℕ) (k : Stream) (r : RingValue) (b : B) → j ≡ i → IsPlaceOf streams rings behaviours j k r b → (may_be_sent (agrees b) tau z (length r.waiting) (next_at next j) ≡ may) × (k.id ≡ id)
  at-last j k r b e p =
      let q = subst (λ n. IsPlaceOf streams rings behaviours n k r b) e p in
      (ap (λ n. may_be_sent (agrees b) tau z (length r.waiting) (next_at next n)) e ∙ is k r b q, sym (id-got streams i k q.stream) ∙ its)

  taken : (s : Option Sent) → IsChosenSoFar agrees streams next rings behaviours tau z i s → may ≡ true → is_lower id s ≡ true →
      IsChosen agrees streams next rings behaviours tau z (suc i) (record { place = i; id = id })
  taken s h m low = record {
    its = its;
    within = within;
    may = λ k r b p. is k r b p ∙ m;
    lowest = λ j k r b l p t. elim (last j l) [
      | inr e ↦ (let w = (at-last j k r b e p).1 in omega (arith, w))
      | inl e ↦ go s h low j k r b e p t
    ];
  }
    where
      go : (s : Option Sent) → IsChosenSoFar agrees streams next rings behaviours tau z i s → is_lower id s ≡ true → (j : ℕ) (k : Stream) (r : RingValue) (b : B) → j < i → IsPlaceOf streams rings behaviours j k r b →
          may_be_sent (agrees b) tau z (length r.waiting) (next_at next j) ≡ true → id ≤ k.id
      go None h low j k r b e p t = (let f : true ≡ false = sym t ∙ h j k r b e p in absurd (cc))
      go (Some s) h low j k r b e p t = (let g = true-lt id s.id low in let f = h.lowest j k r b e p t in omega (arith, g, f))

  left : (s : Option Sent) → IsChosenSoFar agrees streams next rings behaviours tau z i s → (may && is_lower id s) ≡ false → IsChosenSoFar agrees streams next rings behaviours tau z (suc i) s
  left None h f = λ j k r b l p. elim (last j l) [
    | inl e ↦ h j k r b e p
    | inr e ↦ (at-last j k r b e p).0 ∙ (elim (bool_cases may) [ inr g ↦ g | inl g ↦ (let w : (true && true) ≡ false = sym (ap (λ v. v && true) g) ∙ f in absurd (cc)) ])
  ]
  left (Some s) h f = record {
    its = h.its;
    within = h.within;
    may = h.may;
    lowest = λ j k r b l p t. elim (last j l) [
      | inl e ↦ h.lowest j k r b e p t
      | inr e ↦ (let w = at-last j k r b e p in
          let m : may ≡ true = sym w.0 ∙ t in
          let g : nat_lt id s.id ≡ false = sym (ap (λ v. v && nat_lt id s.id) m) ∙ f in
          elim (cases_lt id s.id) [
            | inr n ↦ (let q = w.1 in omega (arith, n, q))
            | inl n ↦ (let v = lt-true id s.id n in let c : true ≡ false = sym v ∙ g in absurd (cc))
          ])
    ];
  }

  pub chosen-one : (s : Option Sent) → IsChosenSoFar agrees streams next rings behaviours tau z i s → IsChosenSoFar agrees streams next rings behaviours tau z (suc i) (lower_of s i id may)
  chosen-one s h = elim (bool_cases (may && is_lower id s)) [
    | inr f ↦ subst (IsChosenSoFar agrees streams next rings behaviours tau z (suc i)) (sym (ap (λ v. cond v (Some (record { place = i; id = id })) s) f)) (left s h f)
    | inl t ↦ subst (IsChosenSoFar agrees streams next rings behaviours tau z (suc i)) (sym (ap (λ v. cond v (Some (record { place = i; id = id })) s) t)) (taken s h (and-left may (is_lower id s) t) (and-right may (is_lower id s) t))
  ]

pub id-there : (streams : List Stream) (i : ℕ) (d : Stream) → i < length streams → id_at streams i ≡ (get_or streams i d).id
id-there [] i d l = absurd (omega arith)
id-there (k ∷ ks) zero d l = refl
id-there (k ∷ ks) (suc i) d l = id-there ks i d (omega arith)
