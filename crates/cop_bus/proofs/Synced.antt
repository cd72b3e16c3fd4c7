-- In a run with synchronous streams the streams are spread, with SYNC's response in front of the latencies: so the response-time test is sound of it.
use Rattle.std.proofs.Common.{◌≡◌, ◌∙◌, ℕ, zero, suc, ◌+◌, ◌-◌, ◌*◌, ◌≤◌, ◌<◌, inl, inr, List, length, get_or, slice_get, Option, Some, None, refl, sym, ap, subst, arith, true, cond}
use Rattle.std.specs.Prelude.{Contains, All, IsSome, filter, ◌==◌, if◌then◌else◌}
use Rattle.std.specs.Option.{ForSome, option_map_or}
use Rattle.std.specs.Int.{div_ceil}
use Rattle.std.proofs.Math.Nat.{mul-le-mul_right}
use Rattle.std.proofs.lemmas.Bool.{cases_lt, eq-eqb, ne_eqb}
use Rattle.std.proofs.lemmas.List.{get_or_default}
use Rattle.std.proofs.lemmas.List.Elements.{recursion_from_All, All-from_recursion, All-contains}
use Rattle.std.proofs.lemmas.Option.{slice_get_within, slice_get_cases}
use Rattle.cop_frame.specs.declared.rates.Rate.{Rate}
use Rattle.cop_frame.specs.Rate.{ticks_of}
use Rattle.cop_rta.specs.declared.streams.Stream.{Stream}
use Rattle.cop_rta.specs.Streams.{place_of_id}
use Rattle.cop_rta.specs.Test.{of_stream, place_by_id, sync_id, sync_place, sync_response, ahead_of, jitter_of}
use Rattle.cop_rta.specs.Greatest.{HasGreatest, AreSynced}
use Rattle.cop_rta.proofs.QueueLemmas.{ticks_pos}
use Rattle.cop_rta.proofs.IdentifierLemmas.{place_has_id}
use Rattle.cop_rta.proofs.JitteredLemmas.{passes_with}
use Rattle.cop_rta.proofs.SyncLemmas.{place_inside, sync_response_is, sync_responds, ahead_is}
use Rattle.cop_bus.specs.Run.{Instance, IsKnown, IsLegal, IsOnTime, IsSync, IsQueuedInTime, IsObeying, IsRunAbove, HasResponseAbove, jitter_at, PassesById, waiting}
use Rattle.cop_bus.specs.Spread.{IsQueuedWithin, IsApart, IsSpread}
use Rattle.cop_bus.proofs.Totals.{Pairs-from_AllPairs, Pairs-map, Each-map, Each-from_Contains}
use Rattle.cop_bus.proofs.Numbered.{Pairs-kept, kept_is, numbers_apart}
use Rattle.cop_bus.proofs.Hanging.{low_is_async, hangs_on_event}
use Rattle.cop_bus.proofs.Work.{true-eq}
use Rattle.cop_bus.proofs.Test.{meets, meets_greatest}
use Rattle.cop_bus.proofs.Sound.{sound_by, started_sound_by, takes-time, in_streams}
use Rattle.cop_bus.proofs.Waiting.{waiting-bound}

-- the test of a stream's kind
not_synced : (k : Stream) (A : Type 0) (x y : A) → k.every ≡ 0 → (if k.every == 0 then x else y) ≡ x
not_synced k A x y e = ap (λ b. cond b x y) (eq-eqb k.every 0 e)

synced_is : (k : Stream) (A : Type 0) (x y : A) → 1 ≤ k.every → (if k.every == 0 then x else y) ≡ y
synced_is k A x y l = ap (λ b. cond b x y) (ne_eqb k.every 0 (λ e. omega arith))

pub jitter-own : (ahead : ℕ) (k : Stream) → k.every ≡ 0 → jitter_of ahead k ≡ k.jitter
jitter-own ahead k e = not_synced k ℕ k.jitter (ahead + k.jitter) e

pub jitter-synced : (ahead : ℕ) (k : Stream) → 1 ≤ k.every → jitter_of ahead k ≡ ahead + k.jitter
jitter-synced ahead k l = synced_is k ℕ k.jitter (ahead + k.jitter) l

-- an element of a list by its index
pub at_index : {X : Type 0} (xs : List X) (i : ℕ) (d : X) → i < length xs → Contains xs (get_or xs i d)
at_index xs i d l = (i, l, get_or_default xs i (get_or xs i d) d l)

module _ (tau until : ℕ) (run : List Instance) where
  -- the instances of a stream that hang on their events are spread as they are
  pub spread_by_event : (J : Stream → ℕ) (k : Stream) → k.every ≡ 0 → J k ≡ k.jitter → IsObeying tau until run k → IsSpread J run k
  spread_by_event J k async same obeys = record {
    in_time = All-from_recursion (λ y. y.id ≡ k.id → IsQueuedWithin (J k) y) run (Each-map (λ y. y.id ≡ k.id → IsQueuedInTime tau until run k y) (λ y. y.id ≡ k.id → IsQueuedWithin (J k) y) run
        (λ y h i. let t = h i in let e = t.is_anchor.by_event async in let a = t.after_anchor in let b = t.within_jitter in
        record { after_event = omega (arith, e.1, a); within_jitter = omega (arith, e.1, b, same) })
        (recursion_from_All (λ y. y.id ≡ k.id → IsQueuedInTime tau until run k y) run obeys.in_time));
    in_order = λ i j d l h e f. let b = obeys.in_order i j d l h e f in
        let y : Instance = get_or run i d in
        let z : Instance = get_or run j d in
        let g = b.far (record { mark = y.event; from = y.event }) (record { mark = z.event; from = z.event }) (hangs_on_event tau until run k y async) (hangs_on_event tau until run k z async) in
        let gap = not_synced k ℕ k.period k.every async in
        record { period_apart = omega (arith, g, gap); queued_first = b.queued_first };
  }

-- SYNC
module _ (rate : Rate) (streams : List Stream) (until : ℕ) (run : List Instance) (i : ℕ) (sync : Stream) (legal : IsLegal (ticks_of rate) streams until run)
    (obeying : All (λ k. k.id ≤ sync.id → IsObeying (ticks_of rate) until run k) streams) (its : slice_get streams i ≡ Some sync) (is_sync : sync.id ≡ sync_id) where
  spread_upto : All (λ k. k.id ≤ sync.id → IsSpread (jitter_of 0) run k) streams
  spread_upto = All-from_recursion (λ k. k.id ≤ sync.id → IsSpread (jitter_of 0) run k) streams
      (Each-map (λ k. k.id ≤ sync.id → IsObeying (ticks_of rate) until run k) (λ k. k.id ≤ sync.id → IsSpread (jitter_of 0) run k) streams
      (λ k f l. (let async = low_is_async k (omega (arith, l, is_sync)) in spread_by_event (ticks_of rate) until run (jitter_of 0) k async (jitter-own 0 k async) (f l)))
      (recursion_from_All (λ k. k.id ≤ sync.id → IsObeying (ticks_of rate) until run k) streams obeying))

  -- each SYNC that starts by the run's end ends by its response after its event
  pub syncs_respond : (r : ℕ) → HasGreatest (sync_place streams rate i) r → All (λ y. y.id ≡ sync.id → ForSome y.start (λ s. s ≤ until → s + y.bits * ticks_of rate ≤ y.event + r)) run
  syncs_respond r has = All-from_recursion (λ y. y.id ≡ sync.id → ForSome y.start (λ s. s ≤ until → s + y.bits * ticks_of rate ≤ y.event + r)) run
      (Each-map (λ y. y.id ≡ sync.id → ForSome (Some r) (λ d. ForSome y.start (λ s. s ≤ until → s + y.bits * ticks_of rate ≤ y.event + d))) (λ y. y.id ≡ sync.id → ForSome y.start (λ s. s ≤ until → s + y.bits * ticks_of rate ≤ y.event + r)) run
      (λ y f e. f e r refl)
      (recursion_from_All (λ y. y.id ≡ sync.id → ForSome (Some r) (λ d. ForSome y.start (λ s. s ≤ until → s + y.bits * ticks_of rate ≤ y.event + d))) run
      (started_sound_by (jitter_of 0) rate streams until run sync legal spread_upto (in_streams streams i sync its) (Some r) (meets_greatest streams i rate sync its r has))))

  sync_obeys : IsObeying (ticks_of rate) until run sync
  sync_obeys = All-contains (λ k. k.id ≤ sync.id → IsObeying (ticks_of rate) until run k) streams sync obeying (in_streams streams i sync its) (omega arith)

  sync_spread : IsSpread (jitter_of 0) run sync
  sync_spread = let async = low_is_async sync (omega (arith, is_sync)) in spread_by_event (ticks_of rate) until run (jitter_of 0) sync async (jitter-own 0 sync async) sync_obeys

  -- the events of two SYNCs lie as many periods apart as their numbers
  pub syncs_apart : (a b d e ended ended' : ℕ) → IsSync (ticks_of rate) until run a d ended → IsSync (ticks_of rate) until run b e ended' → a < b → d + (b - a) * sync.period ≤ e
  syncs_apart a b d e ended ended' y z l =
      let n = numbers_apart sync.period (filter (λ y. y.id == sync_id) run) a b y.sync z.sync
      (Pairs-kept (λ y. y.id == sync_id) (λ y z. y.event + sync.period ≤ z.event) run
      (Pairs-map (λ y z. y.id ≡ sync.id → z.id ≡ sync.id → IsApart sync.period y z) (λ y z. (y.id == sync_id) ≡ true → (z.id == sync_id) ≡ true → y.event + sync.period ≤ z.event) run
      (λ y z f p q. (f (true-eq y.id sync_id p ∙ sym is_sync) (true-eq z.id sync_id q ∙ sym is_sync)).period_apart)
      (Pairs-from_AllPairs (λ y z. y.id ≡ sync.id → z.id ≡ sync.id → IsApart sync.period y z) run sync_spread.in_order)))
      l y.here z.here in
      omega (arith, n, y.event_is, z.event_is)

  -- where an instance hangs on a SYNC, that SYNC's transfer ends by the response after the event, and not before the event
  pub sync_ends : (r : ℕ) → HasGreatest (sync_place streams rate i) r → (a event ended : ℕ) → IsSync (ticks_of rate) until run a event ended → (event ≤ ended) × (ended ≤ event + r)
  sync_ends r has a event ended y =
      let w = kept_is (λ y. y.id == sync_id) run a y.sync y.here in
      let id : y.sync.id ≡ sync.id = true-eq y.sync.id sync_id w.1 ∙ sym is_sync in
      let known = All-contains (IsKnown streams) run y.sync legal.known w.0 in
      let long = takes-time (ticks_of rate) streams y.sync (ticks_pos rate) known in
      let one_bit : ticks_of rate ≤ y.sync.bits * ticks_of rate = bit y.sync.bits (ticks_of rate) long in
      let joined = All-contains (λ y. ForSome y.start (λ s. y.queued < s + ticks_of rate)) run y.sync legal.joined w.0 y.start y.starts in
      let queued = All-contains (λ y. y.id ≡ sync.id → IsQueuedWithin (jitter_of 0 sync) y) run y.sync sync_spread.in_time w.0 id in
      let after = queued.after_event in
      let answer = All-contains (λ y. y.id ≡ sync.id → ForSome y.start (λ s. s ≤ until → s + y.bits * ticks_of rate ≤ y.event + r)) run y.sync (syncs_respond r has) w.0 id y.start y.starts
      (let e = y.by_end in omega (arith, e, y.ends)) in
      (omega (arith, one_bit, joined, after, y.ends, y.event_is), omega (arith, answer, y.ends, y.event_is))
    where
      bit : (n t : ℕ) → 1 ≤ n * t → t ≤ n * t
      bit zero t h = absurd (omega arith)
      bit (suc n) t h = omega arith

  -- so the instances of a synchronous stream are spread, with the response in front of the latency
  pub spread_by_sync_end : (r : ℕ) → HasGreatest (sync_place streams rate i) r → (J : Stream → ℕ) (k : Stream) → 1 ≤ k.every → k.period ≡ k.every * sync.period → J k ≡ r + k.jitter →
      IsObeying (ticks_of rate) until run k → IsSpread J run k
  spread_by_sync_end r has J k synced period same obeys = record {
    in_time = All-from_recursion (λ y. y.id ≡ k.id → IsQueuedWithin (J k) y) run (Each-map (λ y. y.id ≡ k.id → IsQueuedInTime (ticks_of rate) until run k y) (λ y. y.id ≡ k.id → IsQueuedWithin (J k) y) run
        (λ y h id. let t = h id in
        let e = sync_ends r has t.anchor.mark y.event t.anchor.from (t.is_anchor.by_sync synced) in
        let a = t.after_anchor in let b = t.within_jitter in
        record { after_event = omega (arith, e.0, a); within_jitter = omega (arith, e.1, b, same) })
        (recursion_from_All (λ y. y.id ≡ k.id → IsQueuedInTime (ticks_of rate) until run k y) run obeys.in_time));
    in_order = λ a b d l h e f.
        let y : Instance = get_or run a d in
        let z : Instance = get_or run b d in
        let c = obeys.in_order a b d l h e f in
        let p = All-contains (λ y. y.id ≡ k.id → IsQueuedInTime (ticks_of rate) until run k y) run y obeys.in_time (at_index run a d (omega (arith, l, h))) e in
        let q = All-contains (λ y. y.id ≡ k.id → IsQueuedInTime (ticks_of rate) until run k y) run z obeys.in_time (at_index run b d h) f in
        let g = c.far p.anchor q.anchor p.is_anchor q.is_anchor in
        let gap = synced_is k ℕ k.period k.every synced in
        let lt : p.anchor.mark < q.anchor.mark = omega (arith, g, gap, synced) in
        let n = syncs_apart p.anchor.mark q.anchor.mark y.event z.event p.anchor.from q.anchor.from (p.is_anchor.by_sync synced) (q.is_anchor.by_sync synced) lt in
        let m : k.every * sync.period ≤ (q.anchor.mark - p.anchor.mark) * sync.period = mul-le-mul_right sync.period (omega (arith, g, gap)) in
        record { period_apart = omega (arith, n, m, period); queued_first = c.queued_first };
  }

-- a run in which the stream m and those above it obey, where SYNC has a response
module _ (rate : Rate) (streams : List Stream) (until : ℕ) (run : List Instance) (top : ℕ) (legal : IsLegal (ticks_of rate) streams until run)
    (obeying : All (λ k. k.id ≤ top → IsObeying (ticks_of rate) until run k) streams) (synced : AreSynced streams)
    (responds : (i : ℕ) → place_of_id streams sync_id ≡ Some i → (k : Stream) → Contains streams k → k.id ≤ top → 1 ≤ k.every → HasGreatest (sync_place streams rate i) (ahead_of streams rate)) where
  one : (k : Stream) → Contains streams k → k.id ≤ top → IsSpread (jitter_at streams rate) run k
  one k c upto = elim (cases_lt 0 k.every) [
    | inr z ↦ (let async : k.every ≡ 0 = omega arith in spread_by_event (ticks_of rate) until run (jitter_at streams rate) k async (jitter-own (ahead_of streams rate) k async) mine)
    | inl s ↦ (let w = All-contains (λ s. 1 ≤ s.every → (i : ℕ) × (place_of_id streams sync_id ≡ Some i) × (s.period ≡ s.every * of_stream (λ t. t.period) streams i)) streams k synced.each c s in
        let inside = place_inside streams sync_id w.0 w.1 in
        elim (slice_get_cases streams w.0).1 [
          | inr past ↦ absurd (omega (arith, past.0, inside))
          | inl there ↦ (let sync : Stream = there.0 in
              let id : sync.id ≡ sync_id = sym (ap (λ o. option_map_or (λ s. s.id) o 0) there.2) ∙ place_has_id streams sync_id w.0 w.1 in
              let period : k.period ≡ k.every * sync.period = w.2 ∙ ap (λ o. k.every * option_map_or (λ s. s.period) o 0) there.2 in
              let high = k.synchronous_id s in
              spread_by_sync_end rate streams until run w.0 sync legal
              (All-from_recursion (λ k. k.id ≤ sync.id → IsObeying (ticks_of rate) until run k) streams (Each-map (λ k. k.id ≤ top → IsObeying (ticks_of rate) until run k) (λ k. k.id ≤ sync.id → IsObeying (ticks_of rate) until run k) streams
              (λ k f l. f (omega (arith, l, id, high, upto))) (recursion_from_All (λ k. k.id ≤ top → IsObeying (ticks_of rate) until run k) streams obeying)))
              there.2 id (ahead_of streams rate) (responds w.0 w.1 k c upto s) (jitter_at streams rate) k s period (jitter-synced (ahead_of streams rate) k s) mine)
        ])
  ]
    where
      mine : IsObeying (ticks_of rate) until run k
      mine = All-contains (λ k. k.id ≤ top → IsObeying (ticks_of rate) until run k) streams k obeying c upto

  pub spread_upto_top : All (λ k. k.id ≤ top → IsSpread (jitter_at streams rate) run k) streams
  spread_upto_top = All-from_recursion (λ k. k.id ≤ top → IsSpread (jitter_at streams rate) run k) streams (Each-from_Contains (λ k. k.id ≤ top → IsSpread (jitter_at streams rate) run k) streams one)

-- the response that is ahead is SYNC's, where it has any
pub greatest_ahead : (streams : List Stream) (rate : Rate) (i r : ℕ) → place_of_id streams sync_id ≡ Some i → HasGreatest (sync_place streams rate i) r → HasGreatest (sync_place streams rate i) (ahead_of streams rate)
greatest_ahead streams rate i r at has = subst (HasGreatest (sync_place streams rate i)) (sym (ahead_is streams rate r ((sync_response_is streams rate r).1 (i, at, has)))) has

pub spread_by_sync : (rate : Rate) (streams : List Stream) (until : ℕ) (run : List Instance) (index : ℕ) (m : Stream) → IsRunAbove rate streams until run index m → AreSynced streams → HasResponseAbove rate streams m →
    All (λ k. k.id ≤ m.id → IsSpread (jitter_at streams rate) run k) streams
spread_by_sync rate streams until run index m legal synced answers =
    spread_upto_top rate streams until run m.id legal.legal legal.obeying synced
    (λ i at k c l s. let r = answer_is (sync_response streams rate) (All-contains (λ k. k.id ≤ m.id → 1 ≤ k.every → IsSome (sync_response streams rate)) streams k answers c l s) in
    let w = (sync_response_is streams rate r.0).0 r.1 in let same : w.0 ≡ i = (let e : Some w.0 ≡ Some i = sym w.1 ∙ at in cc) in
    greatest_ahead streams rate i r.0 at (subst (λ n. HasGreatest (sync_place streams rate n) r.0) same w.2))
  where
    answer_is : (o : Option ℕ) → IsSome o → (r : ℕ) × (o ≡ Some r)
    answer_is None h = absurd (cc)
    answer_is (Some r) h = (r, refl)

-- below SYNC what passes shows that SYNC has a response
pub spread_where_passes : (rate : Rate) (streams : List Stream) (until : ℕ) (run : List Instance) (index : ℕ) (m : Stream) → IsRunAbove rate streams until run index m → AreSynced streams → PassesById rate streams index →
    All (λ k. k.id ≤ m.id → IsSpread (jitter_at streams rate) run k) streams
spread_where_passes rate streams until run index m legal synced passes =
    spread_upto_top rate streams until run m.id legal.legal legal.obeying synced
    (λ i at k c l s. let high = k.synchronous_id s in
    let g = sync_responds streams rate (ahead_of streams rate) i index m at legal.stream (omega (arith, high, l)) (slice_get_within streams index m legal.stream) ((passes_with (place_by_id streams index rate)).0 passes) in
    greatest_ahead streams rate i g.0 at g.1)

module _ (rate : Rate) (streams : List Stream) (until : ℕ) (run : List Instance) (index : ℕ) (m : Stream) (legal : IsRunAbove rate streams until run index m) (synced : AreSynced streams) (passes : PassesById rate streams index) where
  pub sound : All (λ y. y.id ≡ m.id → IsOnTime (ticks_of rate) until m.deadline y) run
  sound = sound_by (jitter_at streams rate) rate streams until run m legal.legal (spread_where_passes rate streams until run index m legal synced passes) (in_streams streams index m legal.stream) m.deadline
      (meets (jitter_at streams rate) streams index rate m legal.stream ((passes_with (place_by_id streams index rate)).0 passes))

  pub started_sound : All (λ y. y.id ≡ m.id → ForSome m.deadline (λ d. ForSome y.start (λ s. s ≤ until → s + y.bits * ticks_of rate ≤ y.event + d))) run
  started_sound = started_sound_by (jitter_at streams rate) rate streams until run m legal.legal (spread_where_passes rate streams until run index m legal synced passes) (in_streams streams index m legal.stream) m.deadline
      (meets (jitter_at streams rate) streams index rate m legal.stream ((passes_with (place_by_id streams index rate)).0 passes))

  pub waits_bounded : ForSome m.deadline (λ d. (x : ℕ) → x ≤ until → waiting m.id x run ≤ div_ceil d m.period)
  waits_bounded = waiting-bound (jitter_at streams rate) rate streams until run m legal.legal (spread_where_passes rate streams until run index m legal synced passes) (in_streams streams index m legal.stream) m.deadline
      (meets (jitter_at streams rate) streams index rate m legal.stream ((passes_with (place_by_id streams index rate)).0 passes))
