-- Trials: streams changed one after the other, and halving.
use Rattle.std.proofs.Common.{◌≡◌, ◌∙◌, ◌↔◌, ◌⊎◌, inl, inr, ℕ, zero, suc, ◌+◌, ◌-◌, ◌<◌, ◌≤◌, IsTrue, Bool, List, [], ◌∷◌, ◌++◌, true, false, not, ◌&&◌, ◌==◌, nat_lt, map, length, slice_get, get_or, Option, Some, refl, sym, ap, subst, arith, le_refl, true≢false, ⊎_elim}
use Rattle.std.specs.Option.{option_map_or}
use Rattle.std.proofs.lemmas.Bool.{ne_eqb, eq-eqb}
use Rattle.std.proofs.lemmas.Bool.Decides.{nat_tests}
use Rattle.std.proofs.lemmas.List.Folds.{list_any_none}
use Rattle.std.proofs.lemmas.Option.{slice_get_cases, slice_get_within, slice_get-get_or}
use Rattle.cop_frame.specs.declared.rates.Rate.{Rate}
use Rattle.cop_rta.specs.declared.streams.Stream.{Stream}
use Rattle.cop_rta.specs.Entries.{Entry, entry_of}
use Rattle.cop_rta.specs.Streams.{AreDistinct, has_id}
use Rattle.cop_rta.proofs.IdentifierLemmas.{of_stream_at, two_apart, one_place}
use Rattle.cop_rta.proofs.MoreAbove.{passes_under_fewer}
use Rattle.cop_rta.specs.Test.{StreamPlace, Passes, place_by_id, flagged_place, is_flagged, is_above, has_lower_id}
use Rattle.cop_rta.specs.Witnesses.{under}
use Rattle.cop_cert.specs.Assignments.{id_at}
use Rattle.cop_room.specs.Changes.{AreChanged}
use Rattle.cop_room.specs.Keeping.{AllStillPass, IsKept, Holds, Fails, EndsBelow}

both : (same here : Bool) → not same ≡ true → here ≡ true → (not same && here) ≡ true
both same here other is = rw (other, is) refl

and_left : (a b : Bool) → (a && b) ≡ true → a ≡ true
and_left true b h = refl
and_left false b h = h

and_right : (a b : Bool) → (a && b) ≡ true → b ≡ true
and_right true b h = h
and_right false b h = absurd (true≢false (sym h))

not_less : (n : ℕ) → not (nat_lt n n) ≡ true
not_less n = grind (arith, nat_tests)

less_not_less : (m n : ℕ) → nat_lt m n ≡ true → not (nat_lt n m) ≡ true
less_not_less m n lt = grind (arith, nat_tests)

less_of : (m n : ℕ) → not (nat_lt n m) ≡ true → (m ≡ n → ⊥) → nat_lt m n ≡ true
less_of m n le apart = grind (arith, nat_tests)

-- what is not below is above
turned : (flags : List Bool) (k : ℕ) → k < length flags → is_flagged (map not flags) k ≡ not (is_flagged flags k)
turned [] k lt = absurd (omega (arith, lt))
turned (b ∷ flags) zero lt = refl
turned (b ∷ flags) (suc k) lt = turned flags k (omega (arith, lt))

lower_read : (streams : List Stream) (n k : ℕ) (s : Stream) → slice_get streams k ≡ Some s → option_map_or (λ (t : Stream). nat_lt t.id n) (slice_get streams k) false ≡ nat_lt (id_at streams k) n
lower_read streams n k s at = ap (λ (o : Option Stream). option_map_or (λ t. nat_lt t.id n) o false) at ∙ sym (ap (λ (o : Option Stream). nat_lt (option_map_or (λ t. t.id) o 0) n) at)

-- the stream at an index, with flags of those that have greater identifiers
module _ (streams : List Stream) (below : List Bool) (index : ℕ) (rate : Rate) (size : length below ≡ length streams)
    (flagged : (k : ℕ) → k < length streams → is_flagged below k ≡ nat_lt (id_at streams index) (id_at streams k)) where
  above_read : (k : ℕ) → k < length streams → is_flagged (map not below) k ≡ not (nat_lt (id_at streams index) (id_at streams k))
  above_read k lt = turned below k (omega (arith, lt, size)) ∙ ap not (flagged k lt)

  lower_is : (k : ℕ) → k < length streams → has_lower_id streams index k ≡ nat_lt (id_at streams k) (id_at streams index)
  lower_is k lt = ⊎_elim
      (λ o. lower_read streams (id_at streams index) k o.0 o.2)
      (λ past. absurd (let n = past.0 in omega (arith, n, lt)))
      (slice_get_cases streams k).1

  pub own_above : index < length streams → is_flagged (map not below) index ≡ true
  own_above lt = above_read index lt ∙ not_less (id_at streams index)

  abbrev by_id : StreamPlace
  by_id = place_by_id streams index rate

  not_below : (k : ℕ) → k < length streams → is_above by_id k ≡ true → is_above (under by_id (is_flagged (map not below))) k ≡ true
  not_below k lt h = both (k == index) (is_flagged (map not below) k) (and_left (not (k == index)) (has_lower_id streams index k) h)
      (above_read k lt ∙ less_not_less (id_at streams k) (id_at streams index) (sym (lower_is k lt) ∙ and_right (not (k == index)) (has_lower_id streams index k) h))

  pub passes_as : AreDistinct streams → index < length streams → (b : Bool) → (IsTrue b ↔ Passes (flagged_place streams (map not below) index rate)) → (IsTrue b ↔ Passes (place_by_id streams index rate))
  passes_as distinct inside b e = (
    (λ is. passes_under_fewer by_id (is_flagged (map not below)) inside not_below (e.0 is)),
    (λ passes. e.1 (passes_under_fewer (flagged_place streams (map not below) index rate) (has_lower_id streams index) inside is_lower passes)),
  )
    where
      is_lower : (k : ℕ) → k < length streams → (not (k == index) && is_flagged (map not below) k) ≡ true → (not (k == index) && has_lower_id streams index k) ≡ true
      is_lower k lt h =
          let other : not (k == index) ≡ true = and_left (not (k == index)) (is_flagged (map not below) k) h in
          let above : is_flagged (map not below) k ≡ true = and_right (not (k == index)) (is_flagged (map not below) k) h in
          both (k == index) (has_lower_id streams index k) other
          (lower_is k lt ∙ less_of (id_at streams k) (id_at streams index) (sym (above_read k lt) ∙ above)
          (λ same. apart k lt other (one_place streams distinct k index lt inside same)))
        where
          apart : (k : ℕ) → k < length streams → not (k == index) ≡ true → k ≡ index → ⊥
          apart k lt other same = true≢false (sym other ∙ ap not (eq-eqb k index same))

pub all_kept : (rate : Rate) (pdos : ℕ) (streams : List Stream) → pdos ≤ length streams → ((k : ℕ) → k < length streams → IsKept rate pdos streams k) → AllStillPass rate pdos streams
all_kept rate pdos streams count each = record {
  each = λ p first. each p (omega (arith, first, count)) (inl first);
  frames = λ f tested. each f tested.inside (inr tested);
}

pub one_kept : (rate : Rate) (pdos : ℕ) (streams : List Stream) (k : ℕ) → AllStillPass rate pdos streams → IsKept rate pdos streams k
one_kept rate pdos streams k all (inl first) = all.each k first
one_kept rate pdos streams k all (inr tested) = all.frames k tested

-- the first so many streams changed
pub record AreChangedSoFar (change : ℕ → Entry → Entry) (streams changed : List Stream) (n : ℕ) : Type 0 where
  pub as_many : length changed ≡ n
  pub each : (k : ℕ) (s t : Stream) → slice_get streams k ≡ Some s → slice_get changed k ≡ Some t → entry_of t ≡ change k (entry_of s)

pub none_changed : (change : ℕ → Entry → Entry) (streams : List Stream) → AreChangedSoFar change streams [] 0
none_changed change streams = record { as_many = refl; each = λ k s t at there. absurd (let lt = slice_get_within [] k t there in omega (arith, lt)) }

at_end : (xs : List Stream) (x : Stream) (k : ℕ) (t : Stream) → slice_get (xs ++ x ∷ []) k ≡ Some t → (slice_get xs k ≡ Some t) ⊎ ((k ≡ length xs) × (t ≡ x))
at_end [] x zero t e = inr (refl, cc)
at_end [] x (suc k) t e = absurd (let lt = slice_get_within [] k t e in omega (arith, lt))
at_end (y ∷ ys) x zero t e = inl e
at_end (y ∷ ys) x (suc k) t e = elim (at_end ys x k t e) [ inl a ↦ inl a | inr b ↦ inr (ap suc b.0, b.1) ]

one_longer : (xs : List Stream) (x : Stream) → length (xs ++ x ∷ []) ≡ length xs + 1
one_longer [] x = refl
one_longer (y ∷ ys) x = let e = one_longer ys x in omega (arith, e)

pub one_changed : (change : ℕ → Entry → Entry) (streams changed : List Stream) (n : ℕ) (s t : Stream) → AreChangedSoFar change streams changed n → slice_get streams n ≡ Some s → entry_of t ≡ change n (entry_of s)
    → AreChangedSoFar change streams (changed ++ t ∷ []) (n + 1)
one_changed change streams changed n s t before at is = record {
  as_many = one_longer changed t ∙ ap (λ m. m + 1) before.as_many;
  each = λ k a b at_k there. elim (at_end changed t k b there) [
    | inl old ↦ before.each k a b at_k old
    | inr new ↦ (let same : k ≡ n = new.0 ∙ before.as_many in
        let both : Some a ≡ Some s = sym at_k ∙ ap (slice_get streams) same ∙ at in
        let e : a ≡ s = cc in
        ap entry_of new.1 ∙ is ∙ ap (λ m. change m (entry_of s)) (sym same) ∙ ap (λ z. change k (entry_of z)) (sym e))
  ];
}

pub all_changed : (change : ℕ → Entry → Entry) (streams changed : List Stream) (n : ℕ) → n ≡ length streams → AreChangedSoFar change streams changed n → AreChanged change streams changed
all_changed change streams changed n all so_far = record { as_many = sym all ∙ sym so_far.as_many; each = so_far.each }

-- the next one has an identifier that none has yet, where changes keep identifiers
pub changed_is_new : (change : ℕ → Entry → Entry) (streams changed : List Stream) (n : ℕ) (s t : Stream) → ((k : ℕ) (e : Entry) → (change k e).id ≡ e.id) → AreDistinct streams
    → AreChangedSoFar change streams changed n → slice_get streams n ≡ Some s → t.id ≡ s.id → has_id changed t.id ≡ false
changed_is_new change streams changed n s t same_id distinct so_far at its =
    list_any_none (λ x. x.id == t.id) changed (λ j d inside. ne_eqb (get_or changed j d).id t.id (λ same. apart j d inside same))
  where
    apart : (j : ℕ) (d : Stream) → j < length changed → (get_or changed j d).id ≡ t.id → ⊥
    apart j d inside same =
        let n_in : n < length streams = slice_get_within streams n s at in
        let before : j < n = omega (arith, inside, so_far.as_many) in
        let j_in : j < length streams = omega (arith, before, n_in) in
        let is = so_far.each j (get_or streams j d) (get_or changed j d) (slice_get-get_or streams j d j_in) (slice_get-get_or changed j d inside) in
        let kept : (get_or changed j d).id ≡ (get_or streams j d).id = ap (λ (e : Entry). e.id) is ∙ same_id j (entry_of (get_or streams j d)) in
        two_apart streams distinct j n before n_in
        (of_stream_at streams j d j_in ∙ sym kept ∙ same ∙ its ∙ sym (ap (λ o. option_map_or (λ (x : Stream). x.id) o 0) at))

-- the search: it holds for the high number, or that is above all, and fails for the one before the low
pub record IsBetween (P : List Stream → Type 0) (change : ℕ → ℕ → Entry → Entry) (streams : List Stream) (least most low high : ℕ) : Type 0 where
  pub from : least ≤ low
  pub ordered : low ≤ high
  pub to : high ≤ most + 1
  pub holds : high ≤ most → Holds P (change high) streams
  pub fails : least < low → Fails P (change (low - 1)) streams

pub begins : (P : List Stream → Type 0) (change : ℕ → ℕ → Entry → Entry) (streams : List Stream) (least most : ℕ) → least ≤ most → IsBetween P change streams least most least (most + 1)
begins P change streams least most le = record {
  from = le_refl least;
  ordered = omega (arith, le);
  to = le_refl (most + 1);
  holds = λ h. absurd (omega (arith, h));
  fails = λ h. absurd (omega (arith, h));
}

module _ (P : List Stream → Type 0) (change : ℕ → ℕ → Entry → Entry) (streams : List Stream) (least most low high : ℕ) (between : IsBetween P change streams least most low high) where
  pub go_down : (middle : ℕ) (other : List Stream) → low ≤ middle → middle < high → AreChanged (change middle) streams other → P other → IsBetween P change streams least most low middle
  go_down middle other after before is passes = record {
    from = between.from;
    ordered = after;
    to = omega (arith, before, between.to);
    holds = λ _. record { changed = other; are_changed = is; holds = passes };
    fails = between.fails;
  }

  pub go_up : (middle : ℕ) (other : List Stream) → low ≤ middle → middle < high → AreChanged (change middle) streams other → (P other → ⊥) → IsBetween P change streams least most (middle + 1) high
  go_up middle other after before is fails =
      let same : middle ≡ middle + 1 - 1 = omega arith in
      record {
        from = omega (arith, between.from, after);
        ordered = omega (arith, before);
        to = between.to;
        holds = between.holds;
        fails = λ more. subst (λ (x : ℕ). Fails P (change x) streams) same (record { changed = other; are_changed = is; fails = fails });
      }

  pub ends_below : high ≤ low → high ≤ most → EndsBelow P change streams least high
  ends_below stop within =
      let same : low ≡ high = omega (arith, between.ordered, stop) in
      record {
        within = omega (arith, between.from, between.ordered);
        holds = between.holds within;
        next = subst (λ (x : ℕ). least < x → Fails P (change (x - 1)) streams) same between.fails;
      }

  pub ends_nowhere : least ≤ most → high ≤ low → most < high → Fails P (change most) streams
  ends_nowhere order stop beyond =
      let same : low - 1 ≡ most = omega (arith, between.ordered, stop, beyond, between.to) in
      subst (λ (x : ℕ). Fails P (change x) streams) same (between.fails (omega (arith, order, between.ordered, stop, beyond, between.to)))
