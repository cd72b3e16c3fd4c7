-- What passes with the errors above it is on time in each run whose disturbances are rare.
use Rattle.std.proofs.Common.{◌≡◌, ◌≢◌, ◌∙◌, ℕ, zero, suc, ◌+◌, ◌*◌, ◌≤◌, ◌<◌, inl, inr, List, [], ◌∷◌, ◌++◌, map, refl, sym, ap, subst, arith, le_refl, zero-le, Option, Some, None, length, slice_get, Bool, true, false, cond, ◌==◌, if◌then◌else◌}
use Rattle.std.specs.Prelude.{Contains, All, ◌&&◌, option_map}
use Rattle.std.specs.Option.{ForSome, option_map_or}
use Rattle.std.specs.Int.{div_ceil}
use Rattle.std.proofs.lemmas.Bool.{eq-eqb, eqb-true}
use Rattle.std.proofs.lemmas.List.Elements.{All-from_recursion, All-contains}
use Rattle.std.proofs.lemmas.Option.{slice_get_cases}
use Rattle.cop_frame.specs.declared.rates.Rate.{Rate}
use Rattle.cop_frame.specs.Rate.{ticks_of}
use Rattle.cop_rta.specs.declared.streams.Stream.{Stream}
use Rattle.cop_rta.specs.Streams.{place_of_id}
use Rattle.cop_rta.specs.Test.{of_stream, sync_id}
use Rattle.cop_rta.specs.Greatest.{AreSynced}
use Rattle.cop_rta.proofs.QueueLemmas.{ticks_pos}
use Rattle.cop_rta.proofs.SyncLemmas.{place_inside}
use Rattle.cop_bus.specs.Run.{Instance, IsObeying, IsRunAbove, IsOnTime, PassesById, waits, waiting}
use Rattle.cop_bus.proofs.Totals.{total, total-append, total-sum_by, Each-from_Contains}
use Rattle.cop_bus.proofs.Demand.{and-left, and-right, and-true}
use Rattle.cop_bus.proofs.Synced.{sound, started_sound, waits_bounded}
use Rattle.cop_rta.specs.declared.errors.Errors.{Errors}
use Rattle.cop_errors.specs.Errors.{Disturbance, AreRare, IsDisturbed}
use Rattle.cop_rta.specs.UpLemmas.{up_id}
use Rattle.cop_rta.specs.Errors.{HasNoOne, up, errors_stream, tested}
use Rattle.cop_errors.specs.Extended.{up_instance, hit_instances, extended}
use Rattle.cop_errors.proofs.Lists.{Each-mapped, Each-append, Contains-left, Contains-mapped}
use Rattle.cop_rta.proofs.BusLemmas.{up_id-lower, slice_up, place_up}
use Rattle.cop_errors.proofs.Legal.{legal_more}
use Rattle.cop_errors.proofs.Extended.{obeys_still}
use Rattle.cop_errors.proofs.Rare.{rare_obeys}

-- a fact of each stream of the tested set
pub each_tested : (e : Errors) (streams : List Stream) (P : Stream → Type 0) → ((k : Stream) → Contains streams k → P (up k)) → P (errors_stream e) → All P (tested (Some e) streams)
each_tested e streams P f g = All-from_recursion P (tested (Some e) streams)
    (Each-append P (map up streams) (errors_stream e ∷ [])
    (Each-mapped up P streams (Each-from_Contains (λ k. P (up k)) streams f)) (g, tt))

pub synced_still : (e : Errors) (streams : List Stream) → AreSynced streams → AreSynced (tested (Some e) streams)
synced_still e streams synced = record {
  each = each_tested e streams (λ s. 1 ≤ s.every → (i : ℕ) × (place_of_id (tested (Some e) streams) sync_id ≡ Some i) × (s.period ≡ s.every * of_stream (λ t. t.period) (tested (Some e) streams) i))
      (λ k c l. (let w = All-contains (λ s. 1 ≤ s.every → (i : ℕ) × (place_of_id streams sync_id ≡ Some i) × (s.period ≡ s.every * of_stream (λ t. t.period) streams i)) streams k synced.each c l in
      (w.0, place_up streams (errors_stream e ∷ []) w.0 w.1, w.2 ∙ ap (λ n. k.every * n) (period w.0 (place_inside streams sync_id w.0 w.1)))))
      (λ l. absurd (omega (arith, l)));
}
  where
    period : (i : ℕ) → i < length streams → of_stream (λ t. t.period) streams i ≡ of_stream (λ t. t.period) (tested (Some e) streams) i
    period i inside = elim (slice_get_cases streams i).1 [
      | inr past ↦ absurd (omega (arith, past.0, inside))
      | inl there ↦ ap (λ o. option_map_or (λ t. t.period) o 0) there.2 ∙ sym (ap (λ o. option_map_or (λ t. t.period) o 0) (slice_up streams (errors_stream e ∷ []) i there.0 there.2))
    ]

module _ (rate : Rate) (e : Errors) (streams : List Stream) (until : ℕ) (run : List Instance) (hits : List Disturbance) (events : List ℕ) (index : ℕ) (m : Stream)
    (stream : slice_get streams index ≡ Some m) (free : HasNoOne streams) (disturbed : IsDisturbed (ticks_of rate) streams until run hits)
    (rare : AreRare e.period e.jitter events hits) (obeying : All (λ k. k.id ≤ m.id → IsObeying (ticks_of rate) until run k) streams)
    (synced : AreSynced streams) (passes : PassesById rate (tested (Some e) streams) index) where
  abbrev more : List Instance
  more = extended run hits events

  above : IsRunAbove rate (tested (Some e) streams) until more index (up m)
  above = record {
    stream = slice_up streams (errors_stream e ∷ []) index m stream;
    legal = legal_more (ticks_of rate) e streams until run hits events (ticks_pos rate) free disturbed;
    obeying = each_tested e streams (λ k. k.id ≤ up_id m.id → IsObeying (ticks_of rate) until more k)
        (λ k c l. obeys_still run hits events (ticks_of rate) until streams k free disturbed.known c
        (All-contains (λ k. k.id ≤ m.id → IsObeying (ticks_of rate) until run k) streams k obeying c (up_id-lower k.id m.id (All-contains (λ k. k.id ≢ 1) streams k free c) l)))
        (λ l. rare_obeys (ticks_of rate) until e run hits events rare disturbed.rising);
  }

  pub on_time_through : All (λ y. y.id ≡ m.id → IsOnTime (ticks_of rate) until m.deadline y) run
  on_time_through = All-from_recursion (λ y. y.id ≡ m.id → IsOnTime (ticks_of rate) until m.deadline y) run
      (Each-from_Contains (λ y. y.id ≡ m.id → IsOnTime (ticks_of rate) until m.deadline y) run
      (λ y c is. All-contains (λ y. y.id ≡ up_id m.id → IsOnTime (ticks_of rate) until m.deadline y) more (up_instance y)
      (sound rate (tested (Some e) streams) until more index (up m) above (synced_still e streams synced) passes)
      (Contains-left (map up_instance run) (hit_instances hits events) (up_instance y) (Contains-mapped up_instance run y c)) (ap up_id is)))

  pub started_through : All (λ y. y.id ≡ m.id → ForSome m.deadline (λ d. ForSome y.start (λ s. s ≤ until → s + y.bits * ticks_of rate ≤ y.event + d))) run
  started_through = All-from_recursion (λ y. y.id ≡ m.id → ForSome m.deadline (λ d. ForSome y.start (λ s. s ≤ until → s + y.bits * ticks_of rate ≤ y.event + d))) run
      (Each-from_Contains (λ y. y.id ≡ m.id → ForSome m.deadline (λ d. ForSome y.start (λ s. s ≤ until → s + y.bits * ticks_of rate ≤ y.event + d))) run
      (λ y c is. All-contains (λ y. y.id ≡ up_id m.id → ForSome m.deadline (λ d. ForSome y.start (λ s. s ≤ until → s + y.bits * ticks_of rate ≤ y.event + d))) more (up_instance y)
      (started_sound rate (tested (Some e) streams) until more index (up m) above (synced_still e streams synced) passes)
      (Contains-left (map up_instance run) (hit_instances hits events) (up_instance y) (Contains-mapped up_instance run y c)) (ap up_id is)))

  pub few_wait_through : ForSome m.deadline (λ d. (x : ℕ) → x ≤ until → waiting m.id x run ≤ div_ceil d m.period)
  few_wait_through d is x by =
      let most = waits_bounded rate (tested (Some e) streams) until more index (up m) above (synced_still e streams synced) passes d is x by in
      let a = total-sum_by (λ y. cond (p y) 1 0) run in
      let b = total-sum_by (λ y. cond (q y) 1 0) more in
      let c = total-append (λ y. cond (q y) 1 0) (map up_instance run) (hit_instances hits events) in
      let f = total-mapped run in
      omega (arith, most, a, b, c, f)
    where
      p : Instance → Bool
      p y = (y.id == m.id) && waits x y

      q : Instance → Bool
      q y = (y.id == up_id m.id) && waits x y

      still : (y : Instance) → cond (p y) 1 0 ≤ cond (q (up_instance y)) 1 0
      still y = go (p y) refl
        where
          go : (b : Bool) → p y ≡ b → cond b 1 0 ≤ cond (q (up_instance y)) 1 0
          go false h = zero-le
          go true h =
              let id : y.id ≡ m.id = eqb-true y.id m.id (and-left (y.id == m.id) (waits x y) h) in
              let t : q (up_instance y) ≡ true = and-true (up_id y.id == up_id m.id) (waits x y) (eq-eqb (up_id y.id) (up_id m.id) (ap up_id id)) (and-right (y.id == m.id) (waits x y) h) in
              subst (λ b. 1 ≤ cond b 1 0) (sym t) (le_refl 1)

      total-mapped : (ys : List Instance) → total (λ y. cond (p y) 1 0) ys ≤ total (λ y. cond (q y) 1 0) (map up_instance ys)
      total-mapped [] = zero-le
      total-mapped (y ∷ ys) = let r = total-mapped ys in let s = still y in omega (arith, r, s)
