-- What the identifiers of rings tell.
use Rattle.std.proofs.Common.{◌≡◌, ◌≢◌, ℕ, zero, suc, ◌+◌, ◌<◌, ◌≤◌, ◌/◌, inl, inr, List, [], ◌∷◌, ◌++◌, drop, length, slice_get, slice_set, refl, sym, ◌∙◌, ap, subst, arith, Bool, true, false, cond, nat_lt, ◌||◌}
use Rattle.std.specs.Prelude.{Option, None, Some}
use Rattle.std.specs.Option.{is_some}
use Rattle.std.proofs.lemmas.Bool.{cases_Bool, cases_lt, cases_eq, lt-ltb, ltb-true, ltb-false}
use Rattle.std.proofs.lemmas.List.{length-append, length-drop}
use Rattle.std.proofs.lemmas.Option.{slice_get_within}
use Rattle.cop_rta.specs.declared.streams.Stream.{Stream}
use Rattle.cop_bus.specs.Rings.{RingValue, any_in, rings_of}
use Rattle.cop_bus.specs.declared.bus.Instance.{Instance}
use Rattle.cop_bus.specs.declared.queues.First.{First}
use Rattle.cop_bus.specs.IdSets.{holds, IsLowestHeld}
use Rattle.cop_bus.specs.Queues.{AreListed, IsKept, AreQueued, IsLowest, IsLowestOf}
use Rattle.cop_bus.proofs.AtPlace.{set-here, set-other, some-one}
use Rattle.cop_bus.proofs.PlacedLemmas.{ring-of}

-- ---- whether some instance waits

any-there : (rings : List RingValue) (i : ℕ) (v : RingValue) → slice_get rings i ≡ Some v → nat_lt 0 (length v.waiting) ≡ true → any_in rings ≡ true
any-there [] i v e l = absurd (cc)
any-there (r ∷ rings) zero v e l = (let q : r ≡ v = some-one (Some r) r v refl e in ap (λ b. b || any_in rings) (ap (λ (w : RingValue). nat_lt 0 (length w.waiting)) q ∙ l))
any-there (r ∷ rings) (suc i) v e l = last (nat_lt 0 (length r.waiting)) (any_in rings) (any-there rings i v e l)
  where
    last : (b c : Bool) → c ≡ true → (b || c) ≡ true
    last true c h = refl
    last false c h = h

none-any : (rings : List RingValue) → ((i : ℕ) (v : RingValue) → slice_get rings i ≡ Some v → nat_lt 0 (length v.waiting) ≡ false) → any_in rings ≡ false
none-any [] h = refl
none-any (r ∷ rings) h = ap (λ b. b || any_in rings) (h 0 r refl) ∙ none-any rings (λ i v e. h (suc i) v e)

-- ---- the lowest

true-false : (b : Bool) → b ≡ true → b ≡ false → ⊥
true-false true e f = absurd (cc)
true-false false e f = absurd (cc)

module _ (rings : List RingValue) (places ids : List ℕ) (q : AreQueued rings places ids) where
  pub any-held : (first : Option ℕ) → IsLowestHeld ids first → is_some first ≡ any_in rings
  any-held None none = sym (none-any rings (λ i r e. sym (q.each i r e).told ∙ none r.id))
  any-held (Some id) low = (let w = q.only id low.0 in
      sym (any-there rings w.0 w.1 w.2 (sym (q.each w.0 w.1 w.2).told ∙ ap (holds ids) w.3 ∙ low.0)))

  pub none-lowest : IsLowestHeld ids None → IsLowestOf rings None
  none-lowest none j r e = (let l = ltb-false 0 (length r.waiting) (sym (q.each j r e).told ∙ none r.id) in omega (arith, l))

  -- an identifier in the set has a place
  pub held-found : (id : ℕ) → holds ids id ≡ true → (i : ℕ) × (slice_get places id ≡ Some i) × (id < 65536)
  held-found id h = (let w = q.only id h in let k = q.each w.0 w.1 w.2 in
      (w.0, subst (λ n. slice_get places n ≡ Some w.0) w.3 k.found, subst (λ n. n < 65536) w.3 k.small))

  pub some-lowest : (id place : ℕ) → IsLowestHeld ids (Some id) → slice_get places id ≡ Some place → IsLowest rings (record { place = place; id = id })
  some-lowest id place low e =
      let w = q.only id low.0 in
      let k = q.each w.0 w.1 w.2 in
      let here : w.0 ≡ place = some-one (slice_get places id) w.0 place (subst (λ n. slice_get places n ≡ Some w.0) w.3 k.found) e in
      record {
        ring = w.1;
        here = subst (λ n. slice_get rings n ≡ Some w.1) here w.2;
        its = w.3;
        waits = ltb-true 0 (length w.1.waiting) (sym k.told ∙ ap (holds ids) w.3 ∙ low.0);
        lowest = λ j r f l. elim (cases_lt r.id id) [
          | inl m ↦ absurd (true-false (holds ids r.id) ((q.each j r f).told ∙ lt-ltb 0 (length r.waiting) l) (low.1 r.id m))
          | inr m ↦ m
        ];
      }

  -- ---- a ring that changes

  module _ (place : ℕ) (r r' : RingValue) (ids' : List ℕ) (here : slice_get rings place ≡ Some r) (same-id : r'.id ≡ r.id) (long : length ids' ≡ length ids)
      (told : holds ids' r.id ≡ nat_lt 0 (length r'.waiting)) (others : (id : ℕ) → id ≢ r.id → holds ids' id ≡ holds ids id) where
    now-here : slice_get (slice_set rings place r') place ≡ Some r'
    now-here = set-here rings place r' (slice_get_within rings place r here)

    pub queued-again : AreQueued (slice_set rings place r') places ids'
    queued-again = record {
      each = λ i s e. elim (cases_eq i place) [
        | inl f ↦ (let is : r' ≡ s = some-one (slice_get (slice_set rings place r') i) r' s (subst (λ n. slice_get (slice_set rings place r') n ≡ Some r') (sym f) now-here) e in
            subst (IsKept places ids' i) is (subst (λ n. IsKept places ids' n r') (sym f) mine))
        | inr d ↦ (let old : slice_get rings i ≡ Some s = sym (set-other rings place i r' d) ∙ e in
            let k = q.each i s old in
            record {
              found = k.found;
              room = let l = k.room in omega (arith, l, long);
              small = k.small;
              told = others s.id (λ g. d (some-one (slice_get places s.id) i place k.found (ap (slice_get places) g ∙ (q.each place r here).found))) ∙ k.told;
            })
      ];
      only = λ id h. elim (cases_eq id r.id) [
        | inl e ↦ (place, r', now-here, same-id ∙ sym e)
        | inr d ↦ (let w = q.only id (sym (others id d) ∙ h) in
            (w.0, w.1, set-other rings place w.0 r' (λ e. d (sym w.3 ∙ ap (λ (v : RingValue). v.id) (some-one (slice_get rings place) w.1 r (subst (λ n. slice_get rings n ≡ Some w.1) e w.2) here))) ∙ w.2, w.3))
      ];
    }
      where
        mine : IsKept places ids' place r'
        mine = (let k = q.each place r here in record {
          found = ap (slice_get places) same-id ∙ k.found;
          room = let l = k.room in subst (λ n. n / 64 < length ids') (sym same-id) (omega (arith, l, long));
          small = subst (λ n. n < 65536) (sym same-id) k.small;
          told = ap (holds ids') same-id ∙ told;
        })

-- ---- none waits at first

pub none-queued : (streams : List Stream) (places ids : List ℕ) → AreListed streams (length streams) places → length places ≤ 65536 → length places / 64 < length ids → ((i : ℕ) → holds ids i ≡ false) → AreQueued (rings_of streams) places ids
none-queued streams places ids listed few room none = record {
  each = λ i r e.
      let w = ring-of streams i r e in
      let found : slice_get places r.id ≡ Some i = ap (slice_get places) w.2 ∙ listed i w.0 (slice_get_within streams i w.0 w.1) w.1 in
      let within = slice_get_within places r.id i found in
      record {
        found = found;
        room = omega (arith, within, room);
        small = omega (arith, within, few);
        told = none r.id ∙ sym (ap (λ (xs : List Instance). nat_lt 0 (length xs)) w.3);
      };
  only = λ id h. absurd (true-false (holds ids id) h (none id));
}

-- one more stream is listed
pub listed-more : (streams : List Stream) (n : ℕ) (k : Stream) (places places' : List ℕ) → ((i : ℕ) (l : Stream) → slice_get streams i ≡ Some l → k.id ≡ l.id → n ≡ i) → slice_get streams n ≡ Some k →
    slice_get places' k.id ≡ Some n → ((id i : ℕ) → id ≢ k.id → slice_get places id ≡ Some i → slice_get places' id ≡ Some i) → AreListed streams n places → AreListed streams (n + 1) places'
listed-more streams n k places places' one here put others listed i l lt e = elim (cases_eq i n) [
  | inl f ↦ (let is : k ≡ l = some-one (slice_get streams i) k l (subst (λ m. slice_get streams m ≡ Some k) (sym f) here) e in
      ap (λ (s : Stream). slice_get places' s.id) (sym is) ∙ put ∙ ap Some (sym f))
  | inr d ↦ others l.id i (λ g. d (sym (one i l e (sym g)))) (listed i l (elim (cases_lt i n) [ inl m ↦ m | inr m ↦ absurd (d (omega (arith, m, lt))) ]) e)
]

-- ---- rings with one instance more, or one less

pub more-waits : (r r' : RingValue) (x : Instance) → r' ≡ record { id = r.id; waiting = r.waiting ++ x ∷ []; most = r.most } → nat_lt 0 (length r'.waiting) ≡ true
more-waits r r' x e = lt-ltb 0 (length r'.waiting) (let l = ap (λ (v : RingValue). length v.waiting) e in let n = length-append r.waiting (x ∷ []) in omega (arith, l, n))

-- a ring in which some still wait had some before
pub less-waits : (r r' : RingValue) → r' ≡ record { id = r.id; waiting = drop 1 r.waiting; most = r.most } → 0 < length r'.waiting → nat_lt 0 (length r.waiting) ≡ nat_lt 0 (length r'.waiting)
less-waits r r' e l = lt-ltb 0 (length r.waiting) (let m = ap (λ (v : RingValue). length v.waiting) e in let n = length-drop 1 r.waiting in omega (arith, l, m, n)) ∙ sym (lt-ltb 0 (length r'.waiting) l)
