-- SYNC's response, and what a SYNC whose busy time is past the horizon does to all below it.
use Rattle.std.proofs.Common.{◌≡◌, ◌∙◌, ◌↔◌, ℕ, ◌+◌, ◌<◌, ◌≤◌, ◌⊎◌, inl, inr, Bool, true, false, ◌==◌, ◌||◌, if◌then◌else◌, List, length, slice_get, Option, Some, None, IfSome, refl, sym, ap, subst, arith, le_refl, le_trans, le_of_eq, zero-le, ⊎_elim}
use Rattle.std.specs.Prelude.{nat_lt}
use Rattle.std.specs.Option.{option_and_then, option_map_or}
use Rattle.std.proofs.lemmas.Bool.{eqb-true}
use Rattle.std.proofs.lemmas.Bool.Decides.{nat_tests}
use Rattle.std.proofs.lemmas.Option.{slice_get_cases}
use Rattle.cop_frame.specs.declared.rates.Rate.{Rate}
use Rattle.cop_rta.specs.declared.streams.Stream.{Stream}
use Rattle.cop_rta.specs.Streams.{place_of_id}
use Rattle.cop_rta.specs.Test.{StreamPlace, place_by_id, has_lower_id, of_stream, jitter_of, busy_at, horizon, greatest_response, sync_id, sync_place, sync_response, ahead_of}
use Rattle.cop_rta.specs.Paces.{most_ahead}
use Rattle.cop_rta.specs.TestLemmas.{busy_at-mono}
use Rattle.cop_rta.specs.Verdict.{IsLong}
use Rattle.cop_rta.specs.Jittered.{busy_by, PassesWith}
use Rattle.cop_rta.specs.Covers.{is_not_below, beside, Covers, AreNoShorter}
use Rattle.cop_rta.specs.Greatest.{HasGreatest}
use Rattle.cop_rta.proofs.LeastLemmas.{least_from}
use Rattle.cop_rta.proofs.QueueLemmas.{busy_at_pos}
use Rattle.cop_rta.proofs.PlaceLemmas.{place_within}
use Rattle.cop_rta.proofs.IdentifierLemmas.{place_has_id}
use Rattle.cop_rta.proofs.CoversLemmas.{busy_covered}
use Rattle.cop_rta.proofs.GreatestLemmas.{has_greatest, greatest_response_is, greatest_most, none_is_long}

pub place_inside : (streams : List Stream) (id i : ℕ) → place_of_id streams id ≡ Some i → i < length streams
place_inside streams id i e = subst (λ o. IfSome o (λ k. k < length streams)) e (place_within streams id)

module _ (streams : List Stream) (rate : Rate) where
  pub sync_response_is : (r : ℕ) → (sync_response streams rate ≡ Some r ↔ (i : ℕ) × (place_of_id streams sync_id ≡ Some i) × HasGreatest (sync_place streams rate i) r)
  unfolding sync_response
  sync_response_is r = (λ e. to (place_of_id streams sync_id) refl e, λ h. from h.0 h.1 h.2)
    where
      to : (o : Option ℕ) → place_of_id streams sync_id ≡ o → option_and_then (λ i. greatest_response (sync_place streams rate i)) o ≡ Some r →
          (i : ℕ) × (place_of_id streams sync_id ≡ Some i) × HasGreatest (sync_place streams rate i) r
      to None at e = absurd (cc)
      to (Some i) at e = (i, at, (greatest_response_is (sync_place streams rate i) (place_inside streams sync_id i at) r).0 e)

      from : (i : ℕ) → place_of_id streams sync_id ≡ Some i → HasGreatest (sync_place streams rate i) r → sync_response streams rate ≡ Some r
      from i at h = ap (option_and_then (λ i. greatest_response (sync_place streams rate i))) at ∙ (greatest_response_is (sync_place streams rate i) (place_inside streams sync_id i at) r).1 h

  pub sync_response_none : sync_response streams rate ≡ None ↔ ((i : ℕ) → place_of_id streams sync_id ≡ Some i → IsLong (sync_place streams rate i))
  unfolding sync_response
  sync_response_none = (
    λ e i at. (none_is_long (sync_place streams rate i) (place_inside streams sync_id i at)).0 (sym (ap (option_and_then (λ i. greatest_response (sync_place streams rate i))) at) ∙ e),
    λ h. from (place_of_id streams sync_id) refl h,
  )
    where
      from : (o : Option ℕ) → place_of_id streams sync_id ≡ o → ((i : ℕ) → place_of_id streams sync_id ≡ Some i → IsLong (sync_place streams rate i)) →
          option_and_then (λ i. greatest_response (sync_place streams rate i)) o ≡ None
      from None at h = refl
      from (Some i) at h = (none_is_long (sync_place streams rate i) (place_inside streams sync_id i at)).1 (h i at)

  -- what is ahead, where SYNC has a response and where it has none
  pub ahead_is : (r : ℕ) → sync_response streams rate ≡ Some r → ahead_of streams rate ≡ r
  unfolding ahead_of
  ahead_is r e = rw e refl

  pub ahead_none : sync_response streams rate ≡ None → ahead_of streams rate ≡ 0
  unfolding ahead_of
  ahead_none e = rw e refl

  -- no more than SYNC's jitter and its busy time
  pub ahead_small : ahead_of streams rate ≤ most_ahead
  ahead_small = go (sync_response streams rate) refl
    where
      go : (o : Option ℕ) → sync_response streams rate ≡ o → ahead_of streams rate ≤ most_ahead
      go None e = rw (ahead_none e) zero-le
      go (Some r) e =
          let w = (sync_response_is r).0 e in
          rw (ahead_is r e) (greatest_most (sync_place streams rate w.0) (place_inside streams sync_id w.0 w.1) zero-le r w.2)

-- a place whose streams above and own are among those of another that has a busy time within the horizon has a greatest response
pub covered_greatest : (J : Stream → ℕ) (p : StreamPlace) (above : ℕ → Bool) (index ahead t : ℕ) → AreNoShorter p.ahead J → p.index < length p.streams → index < length p.streams →
    Covers p above index → 1 ≤ t → t ≤ horizon → busy_by J (beside p above index ahead) t ≤ t → (r : ℕ) × HasGreatest p r
covered_greatest J p above index ahead t longer inside there covers one_on within closed =
    let u = least_from (busy_at p) 1 t (record { mono = busy_at-mono p }) (busy_at_pos p inside) one_on (le_trans (busy_covered J p above index ahead t longer inside there covers one_on) closed) in
    (_, has_greatest p inside u.0 u.1 (le_trans u.2 within))

-- so none passes that covers one whose busy time is past it
pub long_rules_out : (J : Stream → ℕ) (p : StreamPlace) (above : ℕ → Bool) (index ahead : ℕ) → AreNoShorter p.ahead J → p.index < length p.streams → index < length p.streams →
    Covers p above index → IsLong p → PassesWith J (beside p above index ahead) → ⊥
long_rules_out J p above index ahead longer inside there covers long passes =
    let g = covered_greatest J p above index ahead passes.time longer inside there covers passes.busy.within passes.within (le_of_eq (sym passes.busy.solves)) in
    let l = long g.1.time g.1.busy in
    let w = g.1.within in
    omega (arith, l, w)

pub jitters_no_shorter : (less more : ℕ) → less ≤ more → AreNoShorter less (jitter_of more)
jitters_no_shorter less more le s = go (s.every == 0)
  where
    go : (b : Bool) → (if b then s.jitter else less + s.jitter) ≤ (if b then s.jitter else more + s.jitter)
    go true = le_refl s.jitter
    go false = omega (arith, le)

-- by identifiers a lower one is covered
module _ (streams : List Stream) (rate : Rate) (i index : ℕ) (a m : Stream) (at_i : slice_get streams i ≡ Some a) (at_index : slice_get streams index ≡ Some m) (lower : a.id < m.id) where
  id_at : (k : ℕ) (s : Stream) → slice_get streams k ≡ Some s → of_stream (λ s. s.id) streams k ≡ s.id
  id_at k s e = ap (λ o. option_map_or (λ s. s.id) o 0) e

  below_m : (k : ℕ) (s : Stream) → slice_get streams k ≡ Some s → s.id < m.id → has_lower_id streams index k ≡ true
  below_m k s e lt =
      ap (λ o. option_map_or (λ s. nat_lt s.id (of_stream (λ s. s.id) streams index)) o false) e ∙ ap (λ n. nat_lt s.id n) (id_at index m at_index) ∙ is_lt s.id m.id lt
    where
      is_lt : (x y : ℕ) → x < y → nat_lt x y ≡ true
      is_lt x y h = grind (arith, nat_tests)

  from_lower : (k : ℕ) (s : Stream) → slice_get streams k ≡ Some s → has_lower_id streams i k ≡ true → s.id < a.id
  from_lower k s e h =
      is_lt s.id a.id (sym (ap (λ n. nat_lt s.id n) (id_at i a at_i)) ∙ sym (ap (λ o. option_map_or (λ s. nat_lt s.id (of_stream (λ s. s.id) streams i)) o false) e) ∙ h)
    where
      is_lt : (x y : ℕ) → nat_lt x y ≡ true → x < y
      is_lt x y h = grind (arith, nat_tests)

  pub lower_covered : Covers (sync_place streams rate i) (has_lower_id streams index) index
  lower_covered k inside h = ⊎_elim (λ s. one s.0 s.2) (λ past. absurd (omega (arith, past.0, inside))) (slice_get_cases streams k).1
    where
      or_right : (x y : Bool) → y ≡ true → (x || y) ≡ true
      or_right true y e = refl
      or_right false y e = e

      either : (x y : Bool) → (x || y) ≡ true → (x ≡ true) ⊎ (y ≡ true)
      either true y e = inl refl
      either false y e = inr e

      one : (s : Stream) → slice_get streams k ≡ Some s → is_not_below (beside (sync_place streams rate i) (has_lower_id streams index) index 0) k ≡ true
      one s e = or_right (k == index) (has_lower_id streams index k) (below_m k s e (elim (either (k == i) (has_lower_id streams i k) h) [
        | inl own ↦ (let same : k ≡ i = eqb-true k i own in let both : Some s ≡ Some a = sym e ∙ subst (λ n. slice_get streams n ≡ Some a) (sym same) at_i in let t : s ≡ a = cc in
            subst (λ z. z.id < m.id) (sym t) lower)
        | inr low ↦ (let l = from_lower k s e low in omega (arith, l, lower))
      ]))

-- a stream that passes, whatever is ahead, has a SYNC above it that has its greatest response
pub sync_responds : (streams : List Stream) (rate : Rate) (ahead i index : ℕ) (m : Stream) → place_of_id streams sync_id ≡ Some i → slice_get streams index ≡ Some m → sync_id < m.id → index < length streams →
    PassesWith (jitter_of ahead) (place_by_id streams index rate) → (r : ℕ) × HasGreatest (sync_place streams rate i) r
sync_responds streams rate ahead i index m at at_index lower there passes =
    let inside = place_inside streams sync_id i at in
    ⊎_elim
    (λ s. (let a : Stream = s.0 in
    let its : a.id ≡ sync_id = sym (ap (λ o. option_map_or (λ s. s.id) o 0) s.2) ∙ place_has_id streams sync_id i at in
    covered_greatest (jitter_of ahead) (sync_place streams rate i) (has_lower_id streams index) index (ahead_of streams rate) passes.time (jitters_no_shorter 0 ahead zero-le) inside there
    (lower_covered streams rate i index a m s.2 at_index (omega (arith, its, lower))) passes.busy.within passes.within (le_of_eq (sym passes.busy.solves))))
    (λ past. absurd (omega (arith, past.0, inside)))
    (slice_get_cases streams i).1
