-- Hand-overs that are apart are events that are apart.
use Rattle.std.proofs.Common.{◌≡◌, ℕ, ◌+◌, ◌≤◌, ◌<◌, Bool, true, false, cond, List, [], ◌∷◌, get_or, Option, refl, sym, ap, subst, ◌∙◌, arith, All, Any, ◌==◌, filter, slice_get, eqb-true}
use Rattle.std.specs.Option.{ForSome}
use Rattle.std.proofs.lemmas.List.Elements.{All-map}
use Rattle.cop_rta.specs.declared.streams.Stream.{Stream}
use Rattle.cop_rta.specs.Test.{sync_id}
use Rattle.cop_bus.specs.declared.anchors.Anchor.{Anchor}
use Rattle.cop_bus.specs.Run.{Instance, Runs, Waits, HasLengthOf, IsKnown, IsSentBefore, IsLegal, IsAnchor, IsQueuedInTime, ComesBefore, IsObeying, IsSync, gap_of}
use Rattle.cop_held.specs.Held.{AreHeldApart, redated_one, redated}
use Rattle.cop_held.proofs.MapLemmas.{pairs_map, any_map}

some_weaker : {A : Type 0} (P Q : A → Type 0) → ((a : A) → P a → Q a) → (o : Option A) → ForSome o P → ForSome o Q
some_weaker P Q f o h = λ x e. f x (h x e)

-- ---- a run whose events are others is as legal

module _ (tau until : ℕ) (streams : List Stream) (held : ℕ → Bool) (run : List Instance) (h : IsLegal tau streams until run) where
  length_kept : (k : Stream) (y : Instance) → HasLengthOf k y → HasLengthOf k (redated_one held y)
  length_kept k y x = record { not_shorter = x.not_shorter; not_longer = x.not_longer; same_bytes = x.same_bytes }

  known_kept : (y : Instance) → IsKnown streams y → IsKnown streams (redated_one held y)
  known_kept y x = record { some_stream = x.some_stream; length = λ i d lt same. length_kept (get_or streams i d) y (x.length i d lt same) }

  pub still_legal : IsLegal tau streams until (redated held run)
  still_legal = record {
    known = All-map (IsKnown streams) (redated_one held) run (λ i d lt. known_kept (get_or run i d) (h.known i d lt));
    in_order = pairs_map (redated_one held) (λ y z. y.id ≡ z.id → IsSentBefore y z) run h.in_order;
    one_at_a_time = pairs_map (redated_one held) (λ y z. (x : ℕ) → Runs tau y x → Runs tau z x → ⊥) run h.one_at_a_time;
    asked_for = All-map (λ y. ForSome y.start (λ s. Any (λ z. Waits z s) (redated held run))) (redated_one held) run
        (λ i d lt. some_weaker (λ s. Any (λ z. Waits z s) run) (λ s. Any (λ z. Waits z s) (redated held run)) (λ s a. any_map (redated_one held) (λ z. Waits z s) run a) (get_or run i d).start (h.asked_for i d lt));
    joined = All-map (λ y. ForSome y.start (λ s. y.queued < s + tau)) (redated_one held) run h.joined;
    by_priority = All-map (λ y. ForSome y.start (λ s. All (λ z. Waits z s → y.id ≤ z.id) (redated held run))) (redated_one held) run
        (λ i d lt. some_weaker (λ s. All (λ z. Waits z s → (get_or run i d).id ≤ z.id) run) (λ s. All (λ z. Waits z s → (get_or run i d).id ≤ z.id) (redated held run))
        (λ s a. All-map (λ z. Waits z s → (get_or run i d).id ≤ z.id) (redated_one held) run a) (get_or run i d).start (h.by_priority i d lt));
    never_idle = λ x lt. All-map (λ z. Waits z x → Any (λ y. Runs tau y x) (redated held run)) (redated_one held) run (λ i d l w. any_map (redated_one held) (λ y. Runs tau y x) run (h.never_idle x lt i d l w));
  }

-- ---- streams that are held obey

gap_is : (k : Stream) → k.every ≡ 0 → gap_of k ≡ k.period
gap_is k every = rw every refl

module _ (tau until : ℕ) (held : ℕ → Bool) (run : List Instance) (k : Stream) (every : k.every ≡ 0) where
  module _ (is : held k.id ≡ true) (apart : AreHeldApart k.period k.id run) where
    event_is : (y : Instance) → y.id ≡ k.id → (redated_one held y).event ≡ y.queued
    event_is y same = let h : held y.id ≡ true = ap held same ∙ is in rw h refl

    in_time_one : (y : Instance) → y.id ≡ k.id → IsQueuedInTime tau until (redated held run) k (redated_one held y)
    in_time_one y same = record {
      anchor = record { mark = y.queued; from = y.queued };
      is_anchor = record { by_event = λ e. (sym (event_is y same), sym (event_is y same)); by_sync = λ one. absurd (omega (arith, one, every)) };
      after_anchor = omega arith;
      within_jitter = omega arith;
    }

    comes : (y z : Instance) → y.queued + k.period ≤ z.queued → y.id ≡ k.id → z.id ≡ k.id → ComesBefore tau until (redated held run) k (redated_one held y) (redated_one held z)
    comes y z far sy sz = record {
      far = λ d e a b.
          let p : d.mark ≡ y.queued = (a.by_event every).0 ∙ event_is y sy in
          let q : e.mark ≡ z.queued = (b.by_event every).0 ∙ event_is z sz in
          let g = gap_is k every in
          omega (arith, p, q, g, far);
      queued_first = omega (arith, far);
    }

    pub held_obeys : IsObeying tau until (redated held run) k
    held_obeys = record {
      in_time = All-map (λ y. y.id ≡ k.id → IsQueuedInTime tau until (redated held run) k y) (redated_one held) run (λ i d lt same. in_time_one (get_or run i d) same);
      in_order = pairs_map (redated_one held) (λ y z. y.id ≡ k.id → z.id ≡ k.id → ComesBefore tau until (redated held run) k y z) run
          (λ i j d lt inside sy sz. comes (get_or run i d) (get_or run j d) (apart i j d lt inside sy sz) sy sz);
    }

-- ---- the others obey as before, where SYNC is not held

abbrev is_sync : Instance → Bool
is_sync y = y.id == sync_id

module _ (held : ℕ → Bool) (free : held sync_id ≡ false) where
  one_kept : (x : Instance) → (x.id == sync_id) ≡ true → redated_one held x ≡ x
  one_kept x t = let same : x.id ≡ sync_id = eqb-true x.id sync_id t in let h : held x.id ≡ false = ap held same ∙ free in rw h refl

  same_syncs : (run : List Instance) → filter is_sync (redated held run) ≡ filter is_sync run
  same_syncs [] = refl
  same_syncs (x ∷ xs) = by_test (x.id == sync_id) refl (same_syncs xs)
    where
      by_test : (b : Bool) → (x.id == sync_id) ≡ b → filter is_sync (redated held xs) ≡ filter is_sync xs
          → cond b (redated_one held x ∷ filter is_sync (redated held xs)) (filter is_sync (redated held xs)) ≡ cond b (x ∷ filter is_sync xs) (filter is_sync xs)
      by_test true t rest = ap (λ a. a ∷ filter is_sync (redated held xs)) (one_kept x t) ∙ ap (λ l. x ∷ l) rest
      by_test false t rest = rest

  module _ (tau until : ℕ) (run : List Instance) where
    sync_there : (number event ended : ℕ) → IsSync tau until run number event ended → IsSync tau until (redated held run) number event ended
    sync_there number event ended x = record {
      sync = x.sync;
      here = ap (λ l. slice_get l number) (same_syncs run) ∙ x.here;
      event_is = x.event_is;
      start = x.start;
      starts = x.starts;
      ends = x.ends;
      by_end = x.by_end;
    }

    sync_back : (number event ended : ℕ) → IsSync tau until (redated held run) number event ended → IsSync tau until run number event ended
    sync_back number event ended x = record {
      sync = x.sync;
      here = ap (λ l. slice_get l number) (sym (same_syncs run)) ∙ x.here;
      event_is = x.event_is;
      start = x.start;
      starts = x.starts;
      ends = x.ends;
      by_end = x.by_end;
    }

    module _ (k : Stream) (is : held k.id ≡ false) where
      event_kept : (y : Instance) → y.id ≡ k.id → (redated_one held y).event ≡ y.event
      event_kept y same = let h : held y.id ≡ false = ap held same ∙ is in rw h refl

      there : (y : Instance) (e : Anchor) → y.id ≡ k.id → IsAnchor tau until run k y e → IsAnchor tau until (redated held run) k (redated_one held y) e
      there y e same a = record {
        by_event = λ z. let own = a.by_event z in (own.0 ∙ sym (event_kept y same), own.1 ∙ sym (event_kept y same));
        by_sync = λ one. subst (λ event. IsSync tau until (redated held run) e.mark event e.from) (sym (event_kept y same)) (sync_there e.mark y.event e.from (a.by_sync one));
      }

      back : (y : Instance) (e : Anchor) → y.id ≡ k.id → IsAnchor tau until (redated held run) k (redated_one held y) e → IsAnchor tau until run k y e
      back y e same a = record {
        by_event = λ z. let own = a.by_event z in (own.0 ∙ event_kept y same, own.1 ∙ event_kept y same);
        by_sync = λ one. sync_back e.mark y.event e.from (subst (λ event. IsSync tau until (redated held run) e.mark event e.from) (event_kept y same) (a.by_sync one));
      }

      in_time_kept : (y : Instance) → y.id ≡ k.id → IsQueuedInTime tau until run k y → IsQueuedInTime tau until (redated held run) k (redated_one held y)
      in_time_kept y same x = record { anchor = x.anchor; is_anchor = there y x.anchor same x.is_anchor; after_anchor = x.after_anchor; within_jitter = x.within_jitter }

      order_kept : (y z : Instance) → y.id ≡ k.id → z.id ≡ k.id → ComesBefore tau until run k y z → ComesBefore tau until (redated held run) k (redated_one held y) (redated_one held z)
      order_kept y z sy sz c = record { far = λ a b m n. c.far a b (back y a sy m) (back z b sz n); queued_first = c.queued_first }

      pub others_obey : IsObeying tau until run k → IsObeying tau until (redated held run) k
      others_obey obeys = record {
        in_time = All-map (λ y. y.id ≡ k.id → IsQueuedInTime tau until (redated held run) k y) (redated_one held) run (λ i d lt same. in_time_kept (get_or run i d) same (obeys.in_time i d lt same));
        in_order = pairs_map (redated_one held) (λ y z. y.id ≡ k.id → z.id ≡ k.id → ComesBefore tau until (redated held run) k y z) run
            (λ i j d lt inside sy sz. order_kept (get_or run i d) (get_or run j d) sy sz (obeys.in_order i j d lt inside sy sz));
      }
