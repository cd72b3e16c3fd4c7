-- A transfer ends, and what is at hand after it: of the streams that waited for the SYNC that it may be the next offers, too.
use Rattle.std.proofs.Common.{◌≡◌, ℕ, ◌+◌, ◌-◌, ◌*◌, ◌≤◌, inl, inr, List, [], ◌∷◌, ◌++◌, length, get_or, slice_get, Option, Some, None, Contains, Bool, true, false, cond, refl, sym, ap, ◌∙◌, subst, arith, suc, nat_lt}
use Rattle.std.specs.Prelude.{◌==◌, ◌&&◌}
use Rattle.std.specs.Option.{option_and_then}
use Rattle.std.proofs.lemmas.Bool.{cases_lt, ne_eqb}
use Rattle.cop_frame.specs.declared.rates.Rate.{Rate}
use Rattle.cop_frame.specs.Rate.{ticks_of}
use Rattle.cop_rta.specs.declared.streams.Stream.{Stream}
use Rattle.cop_rta.specs.Test.{sync_id}
use Rattle.cop_rta.proofs.QueueLemmas.{ticks_pos}
use Rattle.cop_bus.specs.declared.steps.Step.{Step}
use Rattle.cop_bus.specs.declared.steps.Step.TheVariants.{End}
use Rattle.cop_bus.specs.Trace.{is_queue, is_start, count_to, running}
use Rattle.cop_bus.specs.Ends.{Ended, is_end, sync_number}
use Rattle.cop_bus.specs.Rings.{RingValue}
use Rattle.cop_bus.proofs.Appended.{now-one}
use Rattle.cop_bus.proofs.AtPlace.{some-one, contained}
use Rattle.cop_bus.proofs.Demand.{and-left, and-right, and-true}
use Rattle.cop_bus.proofs.Work.{eq-true, true-eq, lt-true, true-lt}
use Rattle.cop_bus.proofs.StepLemmas.{bool_cases}
use Rattle.cop_plan.specs.Values.{PlanValue}
use Rattle.cop_sim.specs.declared.behaviours.Offer.{Offer}
use Rattle.cop_sim.specs.declared.cues.Cue.TheVariants.{Own, Sync}
use Rattle.cop_sim.specs.declared.faults.SimFault.TheVariants.{Disobeys as DisobeysAt}
use Rattle.cop_sim.specs.Cues.{cue_after, awaited_sync, cue_by, cue_of, answer_in, from_of}
use Rattle.cop_sim.specs.Syncs.{SyncsValue, AreNoted, is_noted, with_end, noted_cue, is_awaited}
use Rattle.cop_sim.specs.Play.{Actor, actors_of, streams_of, queued_at, queue_step, queued_before, by_end, next_offer, obeys, obeys_after, IsPartialPlay}
use Rattle.cop_sim.specs.Going.{Goes}
use Rattle.cop_sim.specs.Seats.{next_at, answer_of, asks}
use Rattle.cop_sim.specs.Sinks.{IsCause}
use Rattle.cop_sim.specs.Stages.{AtHand, queues, IsHeld, IsSeat, flipped, IsAwaited, IsAt, IsCuedPlace, AreCued, CueFault, with_ended, IsEnded}
use Rattle.cop_sim.proofs.Cued.{EndQueued, sync-stays, sync-there, sync-new, sync-before, before-kept, before-moment, cue-at, cue-kept, cue-async, fill-none, obeys-none}
use Rattle.cop_sim.proofs.Noted.{ends-count, noted-end, some-there, noted-cue-is}
use Rattle.cop_sim.proofs.Kept.{count-kept, count-raised, answer-kept, obeys-by}
use Rattle.cop_sim.proofs.Goes as Ends
use Rattle.cop_sim.proofs.Goes.{by-now}
use Rattle.cop_sim.proofs.Plays.{partial}
use Rattle.cop_sim.proofs.Held.{held-other}
use Rattle.cop_sim.proofs.Places as Places

pub pos : (rate : Rate) → 1 ≤ ticks_of rate
pos rate = let p = ticks_pos rate in omega (arith, p)

-- a transfer by its identifier first
pub flipped-is : (o : Option (ℕ × ℕ)) (at id : ℕ) → flipped o ≡ Some (at, id) → o ≡ Some (id, at)
flipped-is None at id e = absurd (cc)
flipped-is (Some r) at id e = (let p : (r.1, r.0) ≡ (at, id) = some (r.1, r.0) (at, id) e in let a : r.1 ≡ at = ap (λ (v : ℕ × ℕ). v.0) p in let b : r.0 ≡ id = ap (λ (v : ℕ × ℕ). v.1) p in
    ap (λ n. Some (n, r.1)) b ∙ ap (λ n. Some (id, n)) a)
  where
    some : (x y : ℕ × ℕ) → Some x ≡ Some y → x ≡ y
    some x y e = cc

pub flipped-none : (o : Option (ℕ × ℕ)) → flipped o ≡ None → o ≡ None
flipped-none None e = refl
flipped-none (Some r) e = absurd (cc)

-- what is at hand of a stream that a step does not queue, by its ring after the step, where it waits for what it did
pub seat-kept : {B : Type 0} (offer : B → ℕ → Option Offer) (agrees : B → ℕ → ℕ → Bool) (until : ℕ) (steps : List Step) (x : Step) (a : Actor) (b : B) (next : Option Offer) (r r' : RingValue) (queued : ℕ) →
    is_queue a.stream.id x ≡ false → cue_of (steps ++ x ∷ []) (length (steps ++ x ∷ [])) a.stream ≡ cue_of steps (length steps) a.stream → r'.most ≡ r.most → IsHeld until (steps ++ x ∷ []) a next r' →
    IsSeat offer agrees until steps a b next r queued → IsSeat offer agrees until (steps ++ x ∷ []) a b next r' queued
seat-kept offer agrees until steps x a b next r r' queued f cue most held s =
    let q = count-kept (is_queue a.stream.id) steps x f in
    record {
      held = held;
      most = most ∙ s.most;
      count = s.count ∙ sym q;
      rest = λ j. s.rest j ∙ ap (λ n. a.offer (n + (asks (cue_of steps (length steps) a.stream) + j))) (sym q)
          ∙ ap (λ c. a.offer (queues a.stream.id (steps ++ x ∷ []) + (asks c + j))) (sym cue);
      same = s.same;
      obeying = λ o e. obeys-by steps x a.stream o f cue ∙ s.obeying o e;
    }

pub seat-still : {B : Type 0} (offer : B → ℕ → Option Offer) (agrees : B → ℕ → ℕ → Bool) (until : ℕ) (steps : List Step) (x : Step) (a : Actor) (b : B) (next : Option Offer) (r : RingValue) (queued : ℕ) →
    is_queue a.stream.id x ≡ false → is_start a.stream.id x ≡ false → cue_of (steps ++ x ∷ []) (length (steps ++ x ∷ [])) a.stream ≡ cue_of steps (length steps) a.stream →
    IsSeat offer agrees until steps a b next r queued → IsSeat offer agrees until (steps ++ x ∷ []) a b next r queued
seat-still offer agrees until steps x a b next r queued f g cue s =
    seat-kept offer agrees until steps x a b next r r queued f cue refl
    (held-other until steps x a next next r f g (s.held.offer ∙ sym (ap (option_and_then (by_end until)) (answer-kept steps x a f cue))) s.held) s

pub seat-other : {B : Type 0} (offer : B → ℕ → Option Offer) (agrees : B → ℕ → ℕ → Bool) (until : ℕ) (steps : List Step) (x : Step) (a : Actor) (b : B) (next : Option Offer) (r : RingValue) (queued : ℕ) →
    is_queue a.stream.id x ≡ false → is_start a.stream.id x ≡ false → is_end sync_id x ≡ false → EndQueued steps → IsSeat offer agrees until steps a b next r queued → IsSeat offer agrees until (steps ++ x ∷ []) a b next r queued
seat-other offer agrees until steps x a b next r queued f g e few s = seat-still offer agrees until steps x a b next r queued f g (cue-kept a.stream steps x f e few) s

-- where nothing is ahead no joiner is awaited
pub none-awaited : (actors : List Actor) (next : List (Option Offer)) (steps ahead : List Step) (joined : Option ℕ) → IsAwaited actors next steps ahead joined → ahead ≡ [] → joined ≡ None
none-awaited actors next steps ahead None w e = refl
none-awaited actors next steps ahead (Some i) w e = (let z : [] ≡ queue_step (w.0).stream.id (w.3).0 ∷ [] = sym e ∙ (w.3).2 in absurd (cc))

module _ {B : Type 0} (offer : B → ℕ → Option Offer) (agrees : B → ℕ → ℕ → Bool) (plan : PlanValue) (until : ℕ) (firsts bs : List B) (h : AtHand) (steps : List Step) (at : IsAt offer agrees plan until firsts bs h steps) where
  abbrev actors : List Actor
  actors = actors_of offer agrees plan.streams firsts

  module _ (e id : ℕ) (runs : h.running ≡ Some (e, id)) (within : e ≤ until) (later : (a : Actor) → Contains actors a → (o : Offer) → next_offer until steps (length steps) a ≡ Some o → e ≤ queued_at o) where
    abbrev x : Step
    x = End id e

    runs-so : running (ticks_of plan.rate) (steps ++ at.ahead) (length steps) ≡ Some (id, e)
    runs-so = flipped-is (running (ticks_of plan.rate) (steps ++ at.ahead) (length steps)) e id (sym at.runs ∙ runs)

    none : at.ahead ≡ []
    none = Ends.none_ahead (ticks_of plan.rate) (pos plan.rate) actors until (Places.there offer agrees plan until firsts bs h steps at) steps at.ahead at.goes id e runs-so within later

    after : h.joined ≡ None
    after = none-awaited actors h.next steps at.ahead h.joined at.awaited none

    goes : Goes (ticks_of plan.rate) actors until (steps ++ x ∷ []) []
    goes = Ends.ended (ticks_of plan.rate) (pos plan.rate) actors until (Places.there offer agrees plan until firsts bs h steps at) steps at.ahead at.goes id e runs-so within later

    pub partial-after : IsPartialPlay (ticks_of plan.rate) actors until (steps ++ x ∷ [])
    partial-after = partial plan.rate actors (Places.distinct offer agrees plan until firsts bs h steps at) until (steps ++ x ∷ []) [] goes

    noted-after : AreNoted (steps ++ x ∷ []) (with_end h.syncs id e)
    noted-after = noted-end steps h.syncs id e at.noted

    -- ---- where no SYNC ends for which a stream waits

    unnoted-cue : is_noted h.syncs id ≡ false → (i : ℕ) (a : Actor) → slice_get actors i ≡ Some a → cue_of (steps ++ x ∷ []) (length (steps ++ x ∷ [])) a.stream ≡ cue_of steps (length steps) a.stream
    unnoted-cue f i a p = elim (cases_lt 0 a.stream.every) [
      | inr z ↦ (let async : a.stream.every ≡ 0 = omega arith in cue-async a.stream (steps ++ x ∷ []) (length (steps ++ x ∷ [])) async ∙ sym (cue-async a.stream steps (length steps) async))
      | inl s ↦ (let t : h.syncs.synchronous ≡ true = at.synchronous ∙ some-there plan.streams i a.stream (Places.stream-of offer agrees plan until firsts bs h steps at i a p) s in
          cue-kept a.stream steps x refl (sym (ap (λ b. b && (id == sync_id)) t) ∙ f) at.goes.ended)
    ]

    -- ---- where it does

    module _ (noted : is_noted h.syncs id ≡ true) where
      its : id ≡ sync_id
      its = true-eq id sync_id (and-right h.syncs.synchronous (id == sync_id) noted)

      synchronous : h.syncs.synchronous ≡ true
      synchronous = and-left h.syncs.synchronous (id == sync_id) noted

      abbrev v : SyncsValue
      v = with_end h.syncs id e

      abbrev ends : ℕ
      ends = count_to (is_end sync_id) steps (length steps)

      one-more-ends : length v.ends ≡ suc ends
      one-more-ends =
          let c = ap (λ (t : List ℕ). length t) (noted-after.ends synchronous) ∙ ends-count (steps ++ x ∷ []) in
          let r = count-raised (is_end sync_id) steps x (eq-true id sync_id its) in omega (arith, c, r)

      module _ (i : ℕ) (a : Actor) (p : slice_get actors i ≡ Some a) (n : ℕ) (number : n ≡ queues a.stream.id steps) where
        abbrev k : Stream
        k = a.stream

        there : slice_get plan.streams i ≡ Some k
        there = Places.stream-of offer agrees plan until firsts bs h steps at i a p

        c : Contains actors a
        c = contained actors i a p

        same-count : queues k.id (steps ++ x ∷ []) ≡ n
        same-count = count-kept (is_queue k.id) steps x refl ∙ sym number

        pub cue-is : noted_cue v k n ≡ cue_of (steps ++ x ∷ []) (length (steps ++ x ∷ [])) k
        cue-is = noted-cue-is (steps ++ x ∷ []) v plan.streams i k n noted-after at.synchronous there ∙ ap (cue_by (steps ++ x ∷ []) k) (sym same-count) ∙ sym (cue-at k (steps ++ x ∷ []))

        -- it does not wait for this SYNC
        other-cue : is_awaited v k n ≡ false → cue_of (steps ++ x ∷ []) (length (steps ++ x ∷ [])) k ≡ cue_of steps (length steps) k
        other-cue f = elim (cases_lt 0 k.every) [
          | inr z ↦ (let async : k.every ≡ 0 = omega arith in cue-async k (steps ++ x ∷ []) (length (steps ++ x ∷ [])) async ∙ sym (cue-async k steps (length steps) async))
          | inl s ↦ (let q = go s (sync_number steps (awaited_sync k n)) refl in
              cue-at k (steps ++ x ∷ []) ∙ ap (cue_by (steps ++ x ∷ []) k) same-count ∙ ap (λ o. cond (k.every == 0) Own (cue_after o)) q ∙ ap (cue_by steps k) number ∙ sym (cue-at k steps))
        ]
          where
            not-it : 1 ≤ k.every → awaited_sync k n ≡ ends → ⊥
            not-it s m =
                let w : suc n * k.every ≡ length v.ends = (let o = one-more-ends in let t = mul-pos n k.every s in omega (arith, m, o, t)) in
                let t : true ≡ false = sym (and-true (nat_lt 0 k.every) (suc n * k.every == length v.ends) (lt-true 0 k.every s) (eq-true (suc n * k.every) (length v.ends) w)) ∙ f in absurd (cc)
              where
                mul-pos : (n e : ℕ) → 1 ≤ e → 1 ≤ suc n * e
                mul-pos n e l = omega arith

            go : 1 ≤ k.every → (o : Option Ended) → sync_number steps (awaited_sync k n) ≡ o → sync_number (steps ++ x ∷ []) (awaited_sync k n) ≡ sync_number steps (awaited_sync k n)
            go s (Some t) g = sync-stays steps (x ∷ []) (awaited_sync k n) t g ∙ sym g
            go s None g = still (sync_number (steps ++ x ∷ []) (awaited_sync k n)) refl ∙ sym g
              where
                still : (o : Option Ended) → sync_number (steps ++ x ∷ []) (awaited_sync k n) ≡ o → o ≡ None
                still None q = refl
                still (Some t) q = absurd (not-it s (sync-new steps id e (awaited_sync k n) t g at.goes.ended q).2)

        -- it waits for it
        module _ (awaits : is_awaited v k n ≡ true) where
          s : 1 ≤ k.every
          s = true-lt 0 k.every (and-left (nat_lt 0 k.every) (suc n * k.every == length v.ends) awaits)

          last : awaited_sync k n ≡ ends
          last = (let w = true-eq (suc n * k.every) (length v.ends) (and-right (nat_lt 0 k.every) (suc n * k.every == length v.ends) awaits) in let o = one-more-ends in omega (arith, w, o))

          -- it waited till then
          waited : asks (cue_of steps (length steps) k) ≡ 0
          waited =
              ap asks (cue-at k steps ∙ ap (λ b. cond b Own (cue_after (sync_number steps (awaited_sync k (queues k.id steps))))) (ne_eqb k.every 0 (λ z. (let l = s in omega (arith, z, l))))
              ∙ ap cue_after (ap (λ m. sync_number steps (awaited_sync k m)) (sym number) ∙ go (sync_number steps (awaited_sync k n)) refl))
            where
              go : (o : Option Ended) → sync_number steps (awaited_sync k n) ≡ o → o ≡ None
              go None q = refl
              go (Some t) q = (let l = sync-before steps (awaited_sync k n) t q in let m = last in absurd (omega (arith, l, m)))

          -- and now the SYNC has ended
          abbrev sync : (t : Ended) × (sync_number (steps ++ x ∷ []) (awaited_sync k n) ≡ Some t)
          sync = sync-there (steps ++ x ∷ []) goes.ended (awaited_sync k n) (let r = count-raised (is_end sync_id) steps x (eq-true id sync_id its) in let m = last in omega (arith, r, m))

          cue-now : cue_of (steps ++ x ∷ []) (length (steps ++ x ∷ [])) k ≡ Sync (sync.0).event e
          cue-now =
              cue-at k (steps ++ x ∷ []) ∙ ap (cue_by (steps ++ x ∷ []) k) same-count ∙ ap (λ b. cond b Own (cue_after (sync_number (steps ++ x ∷ []) (awaited_sync k n)))) (ne_eqb k.every 0 (λ z. (let l = s in omega (arith, z, l))))
              ∙ ap cue_after sync.1 ∙ ap (Sync (sync.0).event) (go (sync_number steps (awaited_sync k n)) refl)
            where
              go : (o : Option Ended) → sync_number steps (awaited_sync k n) ≡ o → (sync.0).at ≡ e
              go None q = (sync-new steps id e (awaited_sync k n) sync.0 q at.goes.ended sync.1).0
              go (Some t) q = (let l = sync-before steps (awaited_sync k n) t q in let m = last in absurd (omega (arith, l, m)))

          -- what was queued before was queued by then
          early : (b : Offer) → queued_before k.id (steps ++ x ∷ []) (length (steps ++ x ∷ [])) ≡ Some b → queued_at b ≤ e
          early b q =
              let f = before-kept k.id steps x refl in
              let m = before-moment steps a (at.goes.offers a c) b (sym f ∙ q) in
              let t = by-now (ticks_of plan.rate) (streams_of actors) until steps at.ahead at.goes.fine (length steps - suc m.0) m.0 (let l = m.1 in omega arith) in
              let u = at.goes.unfinished (id, e) runs-so in
              let w = m.2 in omega (arith, t, u, w)

          pub answer-is : {C : Type 0} (f : C → ℕ → Option Offer) (w : C) → f w 0 ≡ a.offer n → answer_of f until (noted_cue v k n) None w ≡ next_offer until (steps ++ x ∷ []) (length (steps ++ x ∷ [])) a
          answer-is f w g =
              let before = queued_before k.id (steps ++ x ∷ []) (length (steps ++ x ∷ [])) in
              ap (option_and_then (by_end until)) (ap (λ u. answer_in u None (f w 0)) (cue-is ∙ cue-now) ∙ ap (answer_in (Sync (sync.0).event e) None) g
              ∙ fill-none (sync.0).event e before (a.offer n) (λ b q. early b q)
              ∙ ap (λ u. answer_in u before (a.offer n)) (sym cue-now) ∙ ap (λ m. answer_in (cue_of (steps ++ x ∷ []) (length (steps ++ x ∷ [])) k) before (a.offer m)) (sym same-count))

          -- whether it obeys does not hang on what was before
          pub obeys-is-none : (o : Offer) → next_offer until (steps ++ x ∷ []) (length (steps ++ x ∷ [])) a ≡ Some o → obeys_after (steps ++ x ∷ []) (length (steps ++ x ∷ [])) k o ≡ obeys k None (from_of (noted_cue v k n) o) o
          obeys-is-none o q =
              let before = queued_before k.id (steps ++ x ∷ []) (length (steps ++ x ∷ [])) in
              let l = Ends.comes-later (ticks_of plan.rate) (pos plan.rate) actors until (Places.there offer agrees plan until firsts bs h steps at) steps at.ahead at.goes id e runs-so within later a c o q in
              obeys-none k before (from_of (cue_of (steps ++ x ∷ []) (length (steps ++ x ∷ [])) k) o) o s (λ b f. (let m = early b f in omega (arith, m, l)))
              ∙ ap (λ u. obeys k None (from_of u o) o) (sym cue-is)

        -- what is at hand of it then
        pub cued-seat : (b c : B) (r : RingValue) (next' : Option Offer) → IsSeat offer agrees until steps a b (next_at h.next i) r n → IsCuedPlace offer agrees until v k n (next_at h.next i) next' b c →
            IsSeat offer agrees until (steps ++ x ∷ []) a c next' r n
        cued-seat b c r next' seat place = elim (bool_cases (is_awaited v k n)) [
          | inr f ↦ (let w = place.other f in
              subst (λ (u : Option Offer). IsSeat offer agrees until (steps ++ x ∷ []) a c u r n) (sym w.1)
              (subst (λ (u : B). IsSeat offer agrees until (steps ++ x ∷ []) a u (next_at h.next i) r n) (sym w.0) (seat-still offer agrees until steps x a b (next_at h.next i) r n refl refl (other-cue f) seat)))
          | inl t ↦ (let w = place.asked t in
              let z = waited t in
              let first : offer b 0 ≡ a.offer n = seat.rest 0 ∙ ap a.offer (let e : queues k.id steps + (asks (cue_of steps (length steps) k) + 0) ≡ n = omega (arith, z, number) in e) in
              let is = answer-is t offer b first in
              record {
                held = held-other until steps x a (next_at h.next i) next' r refl refl (w.1 ∙ is) seat.held;
                most = seat.most;
                count = sym same-count;
                rest = λ j. w.0.rest j ∙ seat.rest (asks (noted_cue v k n) + j)
                    ∙ ap a.offer (let c = ap asks cue-is in let q = same-count in
                    let e : queues k.id steps + (asks (cue_of steps (length steps) k) + (asks (noted_cue v k n) + j)) ≡ queues k.id (steps ++ x ∷ []) + (asks (cue_of (steps ++ x ∷ []) (length (steps ++ x ∷ [])) k) + j) = omega (arith, z, number, c, q) in e);
                same = λ z u. w.0.same z u ∙ seat.same z u;
                obeying = λ o q. obeys-is-none t o (sym (w.1 ∙ is) ∙ q) ∙ w.2 o q;
              })
        ]

      -- an answer that does not obey
      pub end-disobeys : (i n m : ℕ) (failed : Bool) → CueFault offer until plan.streams (with_ended h e id) bs (DisobeysAt i n) → IsCause plan actors m until failed (DisobeysAt i n)
      end-disobeys i n m failed q =
          let a = Places.actor-there offer agrees plan until firsts bs h steps at i q.0 in
          let s = Places.seat-of offer agrees plan until firsts bs h steps at i a.0 a.1 in
          let w = q.2 a.0.stream s.0 (Places.stream-of offer agrees plan until firsts bs h steps at i a.0 a.1) s.2 in
          let number = q.1 ∙ s.4.count in
          let z = waited i a.0 a.1 n number w.0 in
          let first : offer s.0 0 ≡ a.0.offer n = s.4.rest 0 ∙ ap a.0.offer (let e : queues a.0.stream.id steps + (asks (cue_of steps (length steps) a.0.stream) + 0) ≡ n = omega (arith, z, number) in e) in
          let next = sym (answer-is i a.0 a.1 n number w.0 offer s.0 first) ∙ (w.1).1 in (
            a.0,
            a.1,
            record {
              its = contained actors i a.0 a.1;
              steps = steps ++ x ∷ [];
              partial = partial-after;
              number = same-count i a.0 a.1 n number;
              offer = (w.1).0;
              is_next = next;
              breaks = obeys-is-none i a.0 a.1 n number w.0 (w.1).0 next ∙ (w.1).2;
            },
          )

    -- ---- the stage after it

    module _ (next' : List (Option Offer)) (cs : List B) (long : length next' ≡ length plan.streams) (many : length cs ≡ length plan.streams)
        (seats' : (i : ℕ) (a : Actor) (b : B) (r : RingValue) → slice_get actors i ≡ Some a → slice_get cs i ≡ Some b → slice_get h.rings i ≡ Some r → IsSeat offer agrees until (steps ++ x ∷ []) a b (next_at next' i) r (get_or h.queued i 0)) where
      after-end : IsAt offer agrees plan until firsts cs (record (with_ended h e id) { next = next' }) (steps ++ x ∷ [])
      after-end = record {
        planned = at.planned;
        distinct = at.distinct;
        firsts_are = at.firsts_are;
        ahead = [];
        goes = goes;
        sized = record { ids = at.sized.ids; next = long; rings = at.sized.rings; queued = at.sized.queued };
        ids_are = at.ids_are;
        behaviours_are = many;
        seats = seats';
        runs = sym (ap flipped (Ends.runs-after (ticks_of plan.rate) (pos plan.rate) actors until (Places.there offer agrees plan until firsts bs h steps at) steps at.ahead at.goes id e runs-so within later));
        now_is = sym (now-one steps x);
        awaited = subst (IsAwaited actors next' (steps ++ x ∷ []) []) (sym after) refl;
        noted = noted-after;
        synchronous = at.synchronous;
      }

    pub ended-at : (h' : AtHand) (cs : List B) → IsEnded offer agrees until plan.streams e id h h' bs cs → IsAt offer agrees plan until firsts cs h' (steps ++ x ∷ [])
    ended-at h' cs q = elim (bool_cases (is_noted h.syncs id)) [
      | inr f ↦ (let w = q.other f in
          subst (λ (v : AtHand). IsAt offer agrees plan until firsts cs v (steps ++ x ∷ [])) (sym w.0)
          (subst (λ (v : List B). IsAt offer agrees plan until firsts v (with_ended h e id) (steps ++ x ∷ [])) (sym w.1)
          (after-end h.next bs at.sized.next at.behaviours_are (λ i a b r p s t. seat-still offer agrees until steps x a b (next_at h.next i) r (get_or h.queued i 0) refl refl (unnoted-cue f i a p) (at.seats i a b r p s t)))))
      | inl t ↦ (let w = q.asked t in
          subst (λ (v : AtHand). IsAt offer agrees plan until firsts cs v (steps ++ x ∷ [])) (sym w.others)
          (after-end h'.next cs (w.long ∙ at.sized.next) (w.many ∙ at.behaviours_are) (seats-of t h' cs w)))
    ]
      where
        seats-of : is_noted h.syncs id ≡ true → (h' : AtHand) (cs : List B) → AreCued offer agrees until plan.streams (with_ended h e id) h' bs cs (length plan.streams) → (i : ℕ) (a : Actor) (b : B) (r : RingValue) →
            slice_get actors i ≡ Some a → slice_get cs i ≡ Some b → slice_get h.rings i ≡ Some r → IsSeat offer agrees until (steps ++ x ∷ []) a b (next_at h'.next i) r (get_or h.queued i 0)
        seats-of t h' cs w i a b r p f s =
            let l = Places.within offer agrees plan until firsts bs h steps at i a p in
            let v = Places.behaviour-there offer agrees plan until firsts bs h steps at i l in
            let seat = at.seats i a v.0 r p v.1 s in
            let z = w.each i a.stream v.0 l (Places.stream-of offer agrees plan until firsts bs h steps at i a p) v.1 in
            let same : z.0 ≡ b = some-one (slice_get cs i) z.0 b z.1 f in
            subst (λ (u : B). IsSeat offer agrees until (steps ++ x ∷ []) a u (next_at h'.next i) r (get_or h.queued i 0)) same
            (cued-seat t i a p (get_or h.queued i 0) seat.count v.0 z.0 r (next_at h'.next i) seat z.2)
