-- What the instances of a run hang on, in the run with the disturbances among its instances.
use Rattle.std.proofs.Common.{◌≡◌, ◌≢◌, ◌∙◌, ℕ, ◌+◌, ◌*◌, inl, inr, List, [], ◌∷◌, ◌++◌, map, refl, sym, ap, arith, Option, Some, None, get_or, slice_get, Bool, true, false, cond, ◌==◌}
use Rattle.std.specs.Prelude.{Contains, All, AllPairs, filter, option_map}
use Rattle.std.specs.List.{AllByRecursion as Each}
use Rattle.std.proofs.lemmas.List.{append-nil}
use Rattle.std.proofs.lemmas.List.Elements.{All-from_recursion, All-contains, filter-append}
use Rattle.std.proofs.lemmas.Option.{slice_get-map}
use Rattle.cop_rta.specs.declared.streams.Stream.{Stream}
use Rattle.cop_rta.specs.Test.{sync_id}
use Rattle.cop_bus.specs.declared.anchors.Anchor.{Anchor}
use Rattle.cop_bus.specs.Run.{Instance, IsSync, IsAnchor, IsQueuedInTime, ComesBefore, IsObeying, IsKnown}
use Rattle.cop_bus.proofs.Totals.{Pairs, Pairs-from_AllPairs, AllPairs-from_Pairs, Each-from_Contains}
use Rattle.cop_bus.proofs.Synced.{at_index}
use Rattle.cop_errors.specs.Errors.{Disturbance}
use Rattle.cop_rta.specs.UpLemmas.{up_id, up_id-cases}
use Rattle.cop_rta.specs.Errors.{HasNoOne, up}
use Rattle.cop_errors.specs.Extended.{up_instance, hit_instance, hit_instances, extended}
use Rattle.cop_errors.proofs.Lists.{Each-mapped, Each-append, Pairs-mapped, Pairs-append}
use Rattle.cop_rta.proofs.TestedLemmas.{up_id-injective}
use Rattle.cop_rta.proofs.BusLemmas.{up_id-sync}
use Rattle.cop_errors.proofs.Up.{up_id-not_zero, known_not_one, Each-hits}

abbrev is_sync : Instance → Bool
is_sync y = y.id == sync_id

kept_run : (run : List Instance) → filter is_sync (map up_instance run) ≡ map up_instance (filter is_sync run)
kept_run [] = refl
kept_run (y ∷ run) = go (is_sync y) (up_id-sync y.id) (kept_run run)
  where
    go : (b : Bool) → is_sync (up_instance y) ≡ b → filter is_sync (map up_instance run) ≡ map up_instance (filter is_sync run) →
        cond (is_sync (up_instance y)) (up_instance y ∷ filter is_sync (map up_instance run)) (filter is_sync (map up_instance run)) ≡ map up_instance (cond b (y ∷ filter is_sync run) (filter is_sync run))
    go true e r = ap (λ c. cond c (up_instance y ∷ filter is_sync (map up_instance run)) (filter is_sync (map up_instance run))) e ∙ ap (λ ys. up_instance y ∷ ys) r
    go false e r = ap (λ c. cond c (up_instance y ∷ filter is_sync (map up_instance run)) (filter is_sync (map up_instance run))) e ∙ r

kept_hits : (hits : List Disturbance) (events : List ℕ) → filter is_sync (hit_instances hits events) ≡ []
kept_hits [] events = refl
kept_hits (h ∷ hits) [] = kept_hits hits []
kept_hits (h ∷ hits) (e ∷ events) = kept_hits hits events

module _ (run : List Instance) (hits : List Disturbance) (events : List ℕ) where
  abbrev more : List Instance
  more = extended run hits events

  -- its SYNCs are those of the run
  pub kept_more : filter is_sync more ≡ map up_instance (filter is_sync run)
  kept_more = filter-append is_sync (map up_instance run) (hit_instances hits events)
      ∙ ap (λ ys. filter is_sync (map up_instance run) ++ ys) (kept_hits hits events)
      ∙ append-nil (filter is_sync (map up_instance run))
      ∙ kept_run run

  sync_number : (n : ℕ) → slice_get (filter is_sync more) n ≡ option_map up_instance (slice_get (filter is_sync run) n)
  sync_number n = ap (λ ys. slice_get ys n) kept_more ∙ slice_get-map up_instance (filter is_sync run) n

  pub sync_still : (tau until n event ended : ℕ) → IsSync tau until run n event ended → IsSync tau until more n event ended
  sync_still tau until n event ended y = record {
    sync = up_instance y.sync;
    here = sync_number n ∙ ap (option_map up_instance) y.here;
    event_is = y.event_is;
    start = y.start;
    starts = y.starts;
    ends = y.ends;
    by_end = y.by_end;
  }

  pub sync_before : (tau until n event ended : ℕ) → IsSync tau until more n event ended → IsSync tau until run n event ended
  sync_before tau until n event ended y = go (slice_get (filter is_sync run) n) refl
    where
      go : (o : Option Instance) → slice_get (filter is_sync run) n ≡ o → IsSync tau until run n event ended
      go None e = absurd (let f : option_map up_instance None ≡ Some y.sync = sym (sync_number n ∙ ap (option_map up_instance) e) ∙ y.here in cc)
      go (Some s) e =
          let f : Some (up_instance s) ≡ Some y.sync = sym (sync_number n ∙ ap (option_map up_instance) e) ∙ y.here in
          let same : up_instance s ≡ y.sync = cc in
          record {
            sync = s;
            here = e;
            event_is = ap (λ z. z.event) same ∙ y.event_is;
            start = y.start;
            starts = ap (λ z. z.start) same ∙ y.starts;
            ends = ap (λ z. y.start + z.bits * tau) same ∙ y.ends;
            by_end = y.by_end;
          }

  pub anchor_still : (tau until : ℕ) (k : Stream) (y : Instance) (a : Anchor) → IsAnchor tau until run k y a → IsAnchor tau until more (up k) (up_instance y) a
  anchor_still tau until k y a h = record { by_event = h.by_event; by_sync = λ l. sync_still tau until a.mark y.event a.from (h.by_sync l) }

  pub anchor_before : (tau until : ℕ) (k : Stream) (y : Instance) (a : Anchor) → IsAnchor tau until more (up k) (up_instance y) a → IsAnchor tau until run k y a
  anchor_before tau until k y a h = record { by_event = h.by_event; by_sync = λ l. sync_before tau until a.mark y.event a.from (h.by_sync l) }

  -- a fact of each instance
  pub all_extended : (P : Instance → Type 0) → ((y : Instance) → Contains run y → P (up_instance y)) → Each P (hit_instances hits events) → All P more
  all_extended P f g = All-from_recursion P more
      (Each-append P (map up_instance run) (hit_instances hits events)
      (Each-mapped up_instance P run (Each-from_Contains (λ y. P (up_instance y)) run f)) g)

  -- and of each two
  pub pairs_extended : (R : Instance → Instance → Type 0) → Pairs (λ y z. R (up_instance y) (up_instance z)) run → Pairs R (hit_instances hits events) →
      ((y : Instance) → (h : Disturbance) (a : ℕ) → R (up_instance y) (hit_instance h a)) → AllPairs R more
  pairs_extended R f g a = AllPairs-from_Pairs R more
      (Pairs-append R (map up_instance run) (hit_instances hits events) (Pairs-mapped up_instance R run f) g
      (Each-mapped up_instance (λ y. Each (R y) (hit_instances hits events)) run (Each-from_Contains (λ y. Each (R (up_instance y)) (hit_instances hits events)) run
      (λ y c. Each-hits (R (up_instance y)) hits events (Each-from_Contains (λ h. (a : ℕ) → R (up_instance y) (hit_instance h a)) hits (λ h d. a y h))))))

  -- a stream that obeys still does
  pub obeys_still : (tau until : ℕ) (streams : List Stream) (k : Stream) → HasNoOne streams → All (IsKnown streams) run → Contains streams k → IsObeying tau until run k → IsObeying tau until more (up k)
  obeys_still tau until streams k free known in' obeys = record {
    in_time = all_extended (λ y. y.id ≡ up_id k.id → IsQueuedInTime tau until more (up k) y)
        (λ y c e. (let t = All-contains (λ y. y.id ≡ k.id → IsQueuedInTime tau until run k y) run y obeys.in_time c (own y c e) in
        record { anchor = t.anchor; is_anchor = anchor_still tau until k y t.anchor t.is_anchor; after_anchor = t.after_anchor; within_jitter = t.within_jitter }))
        (Each-hits (λ y. y.id ≡ up_id k.id → IsQueuedInTime tau until more (up k) y) hits events
        (Each-from_Contains (λ h. (a : ℕ) → 0 ≡ up_id k.id → IsQueuedInTime tau until more (up k) (hit_instance h a)) hits (λ h d a e. absurd (up_id-not_zero k.id (sym e)))));
    in_order = pairs_extended (λ y z. y.id ≡ up_id k.id → z.id ≡ up_id k.id → ComesBefore tau until more (up k) y z)
        (Pairs-from_AllPairs (λ y z. up_id y.id ≡ up_id k.id → up_id z.id ≡ up_id k.id → ComesBefore tau until more (up k) (up_instance y) (up_instance z)) run
        (λ i j d l h e f. (let y : Instance = get_or run i d in let z : Instance = get_or run j d in
        let b = obeys.in_order i j d l h (own y (at_index run i d (omega (arith, l, h))) e) (own z (at_index run j d (omega (arith, l, h))) f) in
        record { far = λ a c p q. b.far a c (anchor_before tau until k y a p) (anchor_before tau until k z c q); queued_first = b.queued_first })))
        (Each-none hits events)
        (λ y h a e f. absurd (up_id-not_zero k.id (sym f)));
  }
    where
      not_one : k.id ≢ 1
      not_one = All-contains (λ k. k.id ≢ 1) streams k free in'

      own : (y : Instance) → Contains run y → up_id y.id ≡ up_id k.id → y.id ≡ k.id
      own y c e = up_id-injective y.id k.id (known_not_one streams y free (All-contains (IsKnown streams) run y known c)) not_one e

      Each-none : (hits : List Disturbance) (events : List ℕ) → Pairs (λ y z. y.id ≡ up_id k.id → z.id ≡ up_id k.id → ComesBefore tau until more (up k) y z) (hit_instances hits events)
      Each-none [] events = tt
      Each-none (h ∷ hits) [] = (
        Each-hits (λ z. 0 ≡ up_id k.id → z.id ≡ up_id k.id → ComesBefore tau until more (up k) (hit_instance h h.start) z) hits []
            (Each-from_Contains (λ g. (a : ℕ) → 0 ≡ up_id k.id → 0 ≡ up_id k.id → ComesBefore tau until more (up k) (hit_instance h h.start) (hit_instance g a)) hits (λ g d a e f. absurd (up_id-not_zero k.id (sym e)))),
        Each-none hits [],
      )
      Each-none (h ∷ hits) (b ∷ events) = (
        Each-hits (λ z. 0 ≡ up_id k.id → z.id ≡ up_id k.id → ComesBefore tau until more (up k) (hit_instance h b) z) hits events
            (Each-from_Contains (λ g. (a : ℕ) → 0 ≡ up_id k.id → 0 ≡ up_id k.id → ComesBefore tau until more (up k) (hit_instance h b) (hit_instance g a)) hits (λ g d a e f. absurd (up_id-not_zero k.id (sym e)))),
        Each-none hits events,
      )
