-- For each stream of a plan there is a run in which all streams obey and an instance of it is sent.
use Rattle.std.proofs.Common.{◌≡◌, ℕ, zero, suc, ◌+◌, ◌*◌, ◌≤◌, ◌<◌, ◌⊎◌, inl, inr, List, [], ◌∷◌, length, get_or, refl, sym, ap, subst, ◌∙◌, arith, Bool, true, Some, All, Any, AllPairs, Contains, mul-pos}
use Rattle.std.specs.Prelude.{filter, slice_get, ◌==◌}
use Rattle.std.specs.Option.{ForSome}
use Rattle.std.proofs.lemmas.Bool.{cases_lt, eq-eqb}
use Rattle.std.proofs.lemmas.List.{get_or_default}
use Rattle.std.proofs.lemmas.List.Elements.{All-nil, All-cons, All-contains}
use Rattle.cop_frame.specs.declared.rates.Rate.{Rate}
use Rattle.cop_frame.specs.Rate.{ticks_of}
use Rattle.cop_frame.proofs.LengthLemmas.{worst_bits-least, least_bits-most}
use Rattle.cop_rta.specs.declared.streams.Stream.{Stream}
use Rattle.cop_rta.specs.Greatest.{AreSynced}
use Rattle.cop_rta.specs.Streams.{AreDistinct, place_of_id}
use Rattle.cop_rta.specs.Test.{of_stream, sync_id}
use Rattle.cop_rta.proofs.IdentifierLemmas.{of_stream_at, one_place, place_has_id}
use Rattle.cop_rta.proofs.QueueLemmas.{ticks_pos}
use Rattle.cop_rta.proofs.SyncLemmas.{place_inside}
use Rattle.cop_bus.specs.Run.{Instance, Waits, Runs, IsKnown, IsSentBefore, IsLegal, IsSync, IsQueuedInTime, ComesBefore, IsObeying, worst_bits, HasLengthOf}
use Rattle.cop_sim.specs.Guarantee.{IsSentIn}

-- ---- short lists

some_only : (P : ℕ → Type 0) (n : ℕ) → P n → ForSome (Some n) P
some_only P n p d e = let same : n ≡ d = cc in subst P same p

module _ {X : Type 0} where
  all_one : (P : X → Type 0) (x : X) → P x → All P (x ∷ [])
  all_one P x p = All-cons P x [] p (All-nil P)

  all_two : (P : X → Type 0) (x y : X) → P x → P y → All P (x ∷ y ∷ [])
  all_two P x y p q = All-cons P x (y ∷ []) p (all_one P y q)

  no_pair : (R : X → X → Type 0) (x : X) → AllPairs R (x ∷ [])
  no_pair R x i j d lt h = absurd (omega (arith, lt, h))

  one_pair : (R : X → X → Type 0) (x y : X) → R x y → AllPairs R (x ∷ y ∷ [])
  one_pair R x y r zero zero d lt h = absurd (omega (arith, lt))
  one_pair R x y r zero (suc zero) d lt h = r
  one_pair R x y r zero (suc (suc j)) d lt h = absurd (omega (arith, h))
  one_pair R x y r (suc i) zero d lt h = absurd (omega (arith, lt))
  one_pair R x y r (suc i) (suc j) d lt h = absurd (omega (arith, lt, h))

first_of : (p : Instance → Bool) (x : Instance) (xs : List Instance) → p x ≡ true → slice_get (filter p (x ∷ xs)) 0 ≡ Some x
first_of p x xs h = rw h refl

-- ---- an instance that is sent

abbrev sent : Stream → ℕ → ℕ → ℕ → Instance
sent k event queued start = record { id = k.id; event = event; queued = queued; bits = worst_bits k.bytes; len = k.bytes; start = Some start }

module _ (rate : Rate) (streams : List Stream) (distinct : AreDistinct streams) where
  abbrev tau : ℕ
  tau = ticks_of rate

  cost : Stream → ℕ
  cost k = worst_bits k.bytes * tau

  cost_is : (k : Stream) → cost k ≡ worst_bits k.bytes * tau
  unfolding cost
  cost_is k = refl

  cost_some : (k : Stream) → 0 < cost k
  unfolding cost
  cost_some k = mul-pos (let least = worst_bits-least k.bytes in omega (arith, least)) (ticks_pos rate)

  -- the stream with an identifier is one
  the_one : (k : Stream) → Contains streams k → All (λ j. j.id ≡ k.id → j ≡ k) streams
  the_one k at j d low same =
      let own : get_or streams at.0 d ≡ k = get_or_default streams at.0 d k at.1 ∙ at.2 in
      let ids : of_stream (λ s. s.id) streams j ≡ of_stream (λ s. s.id) streams at.0 =
      of_stream_at streams j d low ∙ same ∙ sym (ap (λ (s : Stream). s.id) own) ∙ sym (of_stream_at streams at.0 d at.1) in
      ap (λ n. get_or streams n d) (one_place streams distinct j at.0 low at.1 ids) ∙ own

  has_length : (k : Stream) (event queued start : ℕ) → HasLengthOf k (sent k event queued start)
  has_length k event queued start = record { not_shorter = least_bits-most k.bytes; not_longer = omega arith; same_bytes = refl }

  is_known : (k : Stream) → Contains streams k → (event queued start : ℕ) → IsKnown streams (sent k event queued start)
  is_known k at event queued start = record {
    some_stream = (at.0, k, at.1, at.2, refl);
    length = λ j d low same. subst (λ (s : Stream). HasLengthOf s (sent k event queued start)) (sym (the_one k at j d low same)) (has_length k event queued start);
  }

  -- ---- one that events send

  module _ (k : Stream) (at : Contains streams k) (plain : k.every ≡ 0) where
    abbrev alone : Instance
    alone = sent k 0 0 0

    abbrev run_of_one : List Instance
    run_of_one = alone ∷ []

    waits_alone : Waits alone 0
    waits_alone = (omega arith, some_only (λ s. 0 ≤ s) 0 (omega arith))

    runs_alone : (x : ℕ) → x ≤ 0 → Runs tau alone x
    runs_alone x low = let some = cost_some k in let is = cost_is k in (0, refl, omega arith, omega (arith, low, some, is))

    legal_alone : IsLegal tau streams (cost k) run_of_one
    legal_alone = record {
      known = all_one (IsKnown streams) alone (is_known k at 0 0 0);
      in_order = no_pair (λ y z. y.id ≡ z.id → IsSentBefore y z) alone;
      one_at_a_time = no_pair (λ y z. (x : ℕ) → Runs tau y x → Runs tau z x → ⊥) alone;
      asked_for = all_one (λ y. ForSome y.start (λ s. Any (λ z. Waits z s) run_of_one)) alone (some_only (λ s. Any (λ z. Waits z s) run_of_one) 0 (0, alone, omega arith, refl, waits_alone));
      joined = all_one (λ y. ForSome y.start (λ s. y.queued < s + tau)) alone (some_only (λ s. 0 < s + tau) 0 (omega (arith, ticks_pos rate)));
      by_priority = all_one (λ y. ForSome y.start (λ s. All (λ z. Waits z s → y.id ≤ z.id) run_of_one)) alone
          (some_only (λ s. All (λ z. Waits z s → k.id ≤ z.id) run_of_one) 0 (all_one (λ z. Waits z 0 → k.id ≤ z.id) alone (λ w. omega arith)));
      never_idle = λ x low. all_one (λ z. Waits z x → Any (λ y. Runs tau y x) run_of_one) alone (λ w. (0, alone, omega arith, refl, runs_alone x (w.1 0 refl)));
    }

    in_time_alone : IsQueuedInTime tau (cost k) run_of_one k alone
    in_time_alone = record {
      anchor = record { mark = 0; from = 0 };
      is_anchor = record { by_event = λ e. (refl, refl); by_sync = λ some. absurd (omega (arith, some, plain)) };
      after_anchor = omega arith;
      within_jitter = omega arith;
    }

    obeying_alone : All (IsObeying tau (cost k) run_of_one) streams
    obeying_alone j d low = record {
      in_time = all_one (λ y. y.id ≡ (get_or streams j d).id → IsQueuedInTime tau (cost k) run_of_one (get_or streams j d) y) alone
          (λ its. subst (λ (s : Stream). IsQueuedInTime tau (cost k) run_of_one s alone) (sym (the_one k at j d low (sym its))) in_time_alone);
      in_order = no_pair (λ y z. y.id ≡ (get_or streams j d).id → z.id ≡ (get_or streams j d).id → ComesBefore tau (cost k) run_of_one (get_or streams j d) y z) alone;
    }

    sent_alone : IsSentIn rate streams k
    sent_alone = record {
      until = cost k;
      run = run_of_one;
      legal = legal_alone;
      obeying = obeying_alone;
      sent = (0, alone, omega arith, refl, (refl, (let is = cost_is k in omega (arith, is))));
    }

  -- ---- one that SYNC sends: SYNC itself, and the instance at its end

  module _ (m k : Stream) (sync : Contains streams m) (at : Contains streams k) (its : m.id ≡ sync_id) (plain : m.every ≡ 0) (some : 1 ≤ k.every) where
    abbrev first : Instance
    first = sent m 0 0 0

    abbrev next : Instance
    next = sent k 0 (cost m) (cost m)

    abbrev run_of_two : List Instance
    run_of_two = first ∷ next ∷ []

    abbrev until : ℕ
    until = cost m + cost k

    apart : m.id ≡ k.id → ⊥
    apart same = omega (arith, same, its, k.synchronous_id some)

    apart_so : (id : ℕ) → m.id ≡ id → k.id ≡ id → ⊥
    apart_so id a b = apart (a ∙ sym b)

    runs_first : (x : ℕ) → x ≤ 0 → Runs tau first x
    runs_first x low = let a = cost_some m in let is = cost_is m in (0, refl, omega arith, omega (arith, low, a, is))

    runs_next : (x : ℕ) → cost m ≤ x → x ≤ cost m → Runs tau next x
    runs_next x above below = let a = cost_some k in let is = cost_is k in (cost m, refl, above, omega (arith, below, a, is))

    never_both : (x : ℕ) → Runs tau first x → Runs tau next x → ⊥
    never_both x a b =
        let start : 0 ≡ a.0 = cc_of 0 a.0 a.1 in
        let later : cost m ≡ b.0 = cc_of (cost m) b.0 b.1 in
        let is = cost_is m in
        omega (arith, a.3, b.2, start, later, is)
      where
        cc_of : (n s : ℕ) → Some n ≡ Some s → n ≡ s
        cc_of n s e = cc

    legal_two : IsLegal tau streams until run_of_two
    legal_two = record {
      known = all_two (IsKnown streams) first next (is_known m sync 0 0 0) (is_known k at 0 (cost m) (cost m));
      in_order = one_pair (λ y z. y.id ≡ z.id → IsSentBefore y z) first next (λ same. absurd (apart same));
      one_at_a_time = one_pair (λ y z. (x : ℕ) → Runs tau y x → Runs tau z x → ⊥) first next never_both;
      asked_for = all_two (λ y. ForSome y.start (λ s. Any (λ z. Waits z s) run_of_two)) first next
          (some_only (λ s. Any (λ z. Waits z s) run_of_two) 0 (0, first, omega arith, refl, (omega arith, some_only (λ s. 0 ≤ s) 0 (omega arith))))
          (some_only (λ s. Any (λ z. Waits z s) run_of_two) (cost m) (1, next, omega arith, refl, (omega arith, some_only (λ s. cost m ≤ s) (cost m) (omega arith))));
      joined = all_two (λ y. ForSome y.start (λ s. y.queued < s + tau)) first next
          (some_only (λ s. 0 < s + tau) 0 (omega (arith, ticks_pos rate))) (some_only (λ s. cost m < s + tau) (cost m) (omega (arith, ticks_pos rate)));
      by_priority = all_two (λ y. ForSome y.start (λ s. All (λ z. Waits z s → y.id ≤ z.id) run_of_two)) first next
          (some_only (λ s. All (λ z. Waits z s → m.id ≤ z.id) run_of_two) 0 (all_two (λ z. Waits z 0 → m.id ≤ z.id) first next (λ w. omega arith) (λ w. absurd (omega (arith, w.0, cost_some m)))))
          (some_only (λ s. All (λ z. Waits z s → k.id ≤ z.id) run_of_two) (cost m) (all_two (λ z. Waits z (cost m) → k.id ≤ z.id) first next (λ w. absurd (let low : cost m ≤ 0 = w.1 0 refl in omega (arith, low, cost_some m))) (λ w. omega arith)));
      never_idle = λ x low. all_two (λ z. Waits z x → Any (λ y. Runs tau y x) run_of_two) first next
          (λ w. (0, first, omega arith, refl, runs_first x (w.1 0 refl)))
          (λ w. (1, next, omega arith, refl, runs_next x w.0 (w.1 (cost m) refl)));
    }

    first_in_time : IsQueuedInTime tau until run_of_two m first
    first_in_time = record {
      anchor = record { mark = 0; from = 0 };
      is_anchor = record { by_event = λ e. (refl, refl); by_sync = λ more. absurd (omega (arith, more, plain)) };
      after_anchor = omega arith;
      within_jitter = omega arith;
    }

    is_sync : IsSync tau until run_of_two 0 0 (cost m)
    is_sync = record {
      sync = first;
      here = first_of (λ y. y.id == sync_id) first (next ∷ []) (eq-eqb m.id sync_id its);
      event_is = refl;
      start = 0;
      starts = refl;
      ends = (let is = cost_is m in omega (arith, is));
      by_end = omega arith;
    }

    next_in_time : IsQueuedInTime tau until run_of_two k next
    next_in_time = record {
      anchor = record { mark = 0; from = cost m };
      is_anchor = record { by_event = λ none. absurd (omega (arith, none, some)); by_sync = λ more. is_sync };
      after_anchor = omega arith;
      within_jitter = omega arith;
    }

    obeying_two : All (IsObeying tau until run_of_two) streams
    obeying_two j d low = record {
      in_time = all_two (λ y. y.id ≡ (get_or streams j d).id → IsQueuedInTime tau until run_of_two (get_or streams j d) y) first next
          (λ own. subst (λ (s : Stream). IsQueuedInTime tau until run_of_two s first) (sym (the_one m sync j d low (sym own))) first_in_time)
          (λ own. subst (λ (s : Stream). IsQueuedInTime tau until run_of_two s next) (sym (the_one k at j d low (sym own))) next_in_time);
      in_order = one_pair (λ y z. y.id ≡ (get_or streams j d).id → z.id ≡ (get_or streams j d).id → ComesBefore tau until run_of_two (get_or streams j d) y z) first next
          (λ a b. absurd (apart_so (get_or streams j d).id a b));
    }

    sent_after : IsSentIn rate streams k
    sent_after = record {
      until = until;
      run = run_of_two;
      legal = legal_two;
      obeying = obeying_two;
      sent = (1, next, omega arith, refl, (refl, (let is = cost_is k in omega (arith, is))));
    }

  -- each stream has one of both
  pub each_is_sent : AreSynced streams → (k : Stream) → Contains streams k → IsSentIn rate streams k
  each_is_sent synced k at = go (cases_lt 0 k.every)
    where
      by_sync : 1 ≤ k.every → IsSentIn rate streams k
      by_sync some =
          let found = All-contains (λ s. 1 ≤ s.every → (i : ℕ) × (place_of_id streams sync_id ≡ Some i) × (s.period ≡ s.every * of_stream (λ t. t.period) streams i)) streams k synced.each at some in
          let inside : found.0 < length streams = place_inside streams sync_id found.0 found.1 in
          let m = get_or streams found.0 k in
          let its : m.id ≡ sync_id = sym (of_stream_at streams found.0 k inside) ∙ place_has_id streams sync_id found.0 found.1 in
          sent_after m k (found.0, inside, get_or_default streams found.0 m k inside) at its (plain m its (cases_lt 0 m.every)) some
        where
          plain : (m : Stream) → m.id ≡ sync_id → (0 < m.every) ⊎ (m.every ≤ 0) → m.every ≡ 0
          plain m its (inl more) = absurd (omega (arith, its, m.synchronous_id more))
          plain m its (inr none) = omega (arith, none)

      go : (0 < k.every) ⊎ (k.every ≤ 0) → IsSentIn rate streams k
      go (inl some) = by_sync some
      go (inr none) = sent_alone k at (omega (arith, none))
