-- Each turn takes one step of the play.
use Rattle.std.proofs.Common.{◌≡◌, ℕ, zero, ◌-◌, ◌≤◌, ◌<◌, ◌^◌, inl, inr, List, [], ◌∷◌, ◌++◌, length, get_or, slice_get, Option, Some, None, Result, Ok, Err, IsErrAnd, Contains, Bool, true, false, nat_lt, cond, refl, sym, ap, ◌∙◌, subst, arith, suc}
use Rattle.std.proofs.lemmas.Option.{slice_get_within}
use Rattle.cop_frame.specs.Rate.{ticks_of}
use Rattle.cop_rta.specs.declared.streams.Stream.{Stream}
use Rattle.cop_bus.specs.declared.steps.Step.{Step}
use Rattle.cop_bus.specs.declared.steps.Step.TheVariants as step
use Rattle.cop_bus.specs.Trace.{is_queue, count_to}
use Rattle.cop_bus.specs.Rings.{RingValue, any_in}
use Rattle.cop_bus.proofs.Work.{lt-true, true-lt}
use Rattle.cop_bus.proofs.Found.{or-left}
use Rattle.cop_bus.proofs.Accepts.{or_cases}
use Rattle.cop_plan.specs.Values.{PlanValue}
use Rattle.cop_sim.specs.declared.behaviours.Offer.{Offer}
use Rattle.cop_sim.specs.declared.due.Due.{Due}
use Rattle.cop_sim.specs.declared.choosing.Sent.{Sent}
use Rattle.cop_sim.specs.declared.playing.Event.{Event}
use Rattle.cop_sim.specs.declared.playing.Event.TheVariants.{End, Queue, Start, Nothing}
use Rattle.cop_sim.specs.declared.faults.SimFault.{SimFault}
use Rattle.cop_sim.specs.declared.faults.SimFault.TheVariants.{Count, Disobeys as DisobeysAt, Backlog, Sink, Memory}
use Rattle.cop_sim.specs.Events.{IsNextEvent}
use Rattle.cop_sim.specs.Play.{Actor, actors_of, queued_at, queue_step, next_offer, obeys, IsPartialPlay}
use Rattle.cop_sim.specs.Cues.{from_of}
use Rattle.cop_sim.specs.Syncs.{noted_cue}
use Rattle.cop_sim.specs.Sinks.{IsCause}
use Rattle.cop_sim.specs.Seats.{next_at, IsDueTo, IsDueSoFar, IsChosen, IsChosenSoFar, IsPlaceOf}
use Rattle.cop_sim.specs.Hands.{AreTheirs}
use Rattle.cop_sim.specs.Stages.{AtHand, IsAt, IsQueued, QueueFault, IsEnded, EndFault, IsStarted, IsFault, IsTurned}
use Rattle.cop_sim.proofs.Plays.{partial}
use Rattle.cop_sim.proofs.Places as Places
use Rattle.cop_sim.proofs.Ending as Ending
use Rattle.cop_sim.proofs.Queues as Queues
use Rattle.cop_sim.proofs.Starting as Starting
use Rattle.cop_sim.proofs.Finishing as Finishing

count-short : (p : Step → Bool) (xs : List Step) (i : ℕ) → count_to p xs i ≤ i
count-short p [] i = omega arith
count-short p (x ∷ xs) zero = omega arith
count-short p (x ∷ xs) (suc i) = let h = count-short p xs i in let o = one (p x) in omega (arith, h, o)
  where
    one : (b : Bool) → cond b 1 0 ≤ 1
    one true = omega arith
    one false = omega arith

-- a ring that is not empty
some-ring : (rs : List RingValue) → any_in rs ≡ true → (i : ℕ) × (r : RingValue) × (slice_get rs i ≡ Some r) × (0 < length r.waiting)
some-ring [] e = absurd (cc)
some-ring (r ∷ rs) e = elim (or_cases (nat_lt 0 (length r.waiting)) (any_in rs) e) [
  | inl t ↦ (0, r, refl, true-lt 0 (length r.waiting) t)
  | inr t ↦ (let w = some-ring rs t in (suc w.0, w.1, w.2, w.3))
]

module _ {B S : Type 0} (offer : B → ℕ → Option Offer) (agrees : B → ℕ → ℕ → Bool) (takes : S → Step → S → Type 0) (plan : PlanValue) (until : ℕ) (firsts bs : List B) (h : AtHand) (steps : List Step) (at : IsAt offer agrees plan until firsts bs h steps) where
  abbrev actors : List Actor
  actors = actors_of offer agrees plan.streams firsts

  pub partial-now : IsPartialPlay (ticks_of plan.rate) actors until steps
  partial-now = partial plan.rate actors (Places.distinct offer agrees plan until firsts bs h steps at) until steps at.ahead at.goes

  pub turned-sink : (failed : Bool) (s t : S) (fault : SimFault) → fault ≡ Sink → failed ≡ true → IsFault takes plan actors until failed s t steps fault
  turned-sink failed s t fault e f = subst (IsFault takes plan actors until failed s t steps) (sym e) (record { cause = f; left = partial-now })

  -- each ring is that of the stream at its place
  pub theirs : AreTheirs plan.streams h.rings
  theirs j k r e f =
      let l = slice_get_within plan.streams j k e in
      let a = Places.actor-there offer agrees plan until firsts bs h steps at j l in
      let b = Places.behaviour-there offer agrees plan until firsts bs h steps at j l in
      let s = at.seats j a.0 b.0 r a.1 b.1 f in
      let q = some-stream a.0.stream k (sym (Places.stream-of offer agrees plan until firsts bs h steps at j a.0 a.1) ∙ e) in
      s.held.its ∙ ap (λ (v : Stream). v.id) q
    where
      some-stream : (x y : Stream) → Some x ≡ Some y → x ≡ y
      some-stream x y e = cc

  module _ (due : Option Due) (first : IsDueSoFar plan.streams h.next (length h.next) due) where
    module _ (e id : ℕ) (event : IsNextEvent h.running due (any_in h.rings) h.now until (End id e)) where
      later-ones : (a : Actor) → Contains actors a → (o : Offer) → next_offer until steps (length steps) a ≡ Some o → e ≤ queued_at o
      later-ones = Places.after-due offer agrees plan until firsts bs h steps at due first e event.2

      pub turned-end : (cs : List B) (h' : AtHand) (failed : Bool) (s t : S) → IsEnded offer agrees until plan.streams e id h h' bs cs → takes s (step.End id e) t → IsTurned offer agrees takes plan until firsts cs h' failed s t steps (Ok true)
      turned-end cs h' failed s t q taken = (step.End id e, Ending.ended-at offer agrees plan until firsts bs h steps at e id event.0 event.1 later-ones h' cs q, taken)

      pub end-fault : (failed : Bool) (s t : S) (fault : SimFault) → EndFault offer takes until plan.streams e id h bs s t fault → (fault ≡ Sink → failed ≡ true) → IsFault takes plan actors until failed s t steps fault
      end-fault failed s t (DisobeysAt stream instance) q f = record {
        cause = Ending.end-disobeys offer agrees plan until firsts bs h steps at e id event.0 event.1 later-ones q.0 stream instance (length plan.streams) failed q.2;
        left = (step.End id e, Ending.partial-after offer agrees plan until firsts bs h steps at e id event.0 event.1 later-ones, q.1);
      }
      end-fault failed s t (Backlog n) q f = absurd q
      end-fault failed s t Sink q f = record { cause = f refl; left = partial-now }
      end-fault failed s t Count q f = absurd q
      end-fault failed s t Memory q f = record { cause = tt; left = (step.End id e, Ending.partial-after offer agrees plan until firsts bs h steps at e id event.0 event.1 later-ones, q) }

    pub turned-nothing : (bs' : List B) (h' : AtHand) (failed : Bool) (s : S) → IsNextEvent h.running due (any_in h.rings) h.now until Nothing → IsTurned offer agrees takes plan until firsts bs' h' failed s s steps (Ok false)
    turned-nothing bs' h' failed s event = (Finishing.finished offer agrees plan until firsts bs h steps at due first event, refl)

    module _ (d : Due) (event : IsNextEvent h.running due (any_in h.rings) h.now until (Queue d)) (short : length steps < 2 ^ 64 - 1) where
      here : IsDueTo plan.streams h.next (length h.next) d
      here = subst (IsDueSoFar plan.streams h.next (length h.next)) event.0 first

      low : d.place < length plan.streams
      low = let n = at.sized.next in let l = here.within in omega (arith, n, l)

      abbrev found : (a : Actor) × (slice_get actors d.place ≡ Some a)
      found = Places.actor-there offer agrees plan until firsts bs h steps at d.place low

      room : get_or h.queued d.place 0 < 2 ^ 64 - 1
      room =
          let s = Places.seat-of offer agrees plan until firsts bs h steps at d.place found.0 found.1 in
          let c = s.4.count in let n = count-short (is_queue found.0.stream.id) steps (length steps) in omega (arith, c, n, short)

      step-is : queue_step d.id d.offer ≡ queue_step found.0.stream.id d.offer
      step-is = ap (λ n. queue_step n d.offer) (Queues.its offer agrees plan until firsts bs h steps at d here event.1 event.2 found.0 found.1)

      in-time : queued_at d.offer ≤ until
      in-time = Queues.in-time offer agrees plan until firsts bs h steps at d here event.1 event.2 found.0 found.1

      pub turned-queue : (h' : AtHand) (cs : List B) (failed : Bool) (s t : S) → IsQueued offer agrees until plan.streams d h h' bs cs →
          ((o : Offer) (k : Stream) → next_at h'.next d.place ≡ Some o → slice_get plan.streams d.place ≡ Some k → obeys k (Some d.offer) (from_of (noted_cue h'.syncs k (get_or h'.queued d.place 0)) o) o ≡ true) →
          (queued_at d.offer ≤ until → takes s (queue_step d.id d.offer) t) → IsTurned offer agrees takes plan until firsts cs h' failed s t steps (Ok true)
      turned-queue h' cs failed s t q again taken = (
        queue_step found.0.stream.id d.offer,
        Queues.after-queue offer agrees plan until firsts bs h steps at d here event.1 event.2 found.0 found.1 h' cs q again room,
        subst (λ x. takes s x t) step-is (taken in-time),
      )

      pub queue-fault : (failed : Bool) (s t : S) (fault : SimFault) → QueueFault offer takes until plan.streams d h bs s t fault → (fault ≡ Sink → failed ≡ true) → IsFault takes plan actors until failed s t steps fault
      queue-fault failed s t (Backlog id) q f = record {
        cause = subst (λ n. IsCause plan actors (length plan.streams) until failed (Backlog n)) (sym q.0) (Queues.after-full offer agrees plan until firsts bs h steps at d here event.1 event.2 found.0 found.1 q.1 failed);
        left = (partial-now, q.2);
      }
      queue-fault failed s t (DisobeysAt stream instance) q f =
          let v = Places.seat-of offer agrees plan until firsts bs h steps at d.place found.0 found.1 in
          let k = Places.stream-of offer agrees plan until firsts bs h steps at d.place found.0 found.1 in
          let w = q.3 found.0.stream v.0 k v.2 in
          let r = Queues.after-disobeys offer agrees plan until firsts bs h steps at d here event.1 event.2 found.0 found.1 instance (q.1 room) failed w.0 w.1 w.2 in
          record {
            cause = subst (λ n. IsCause plan actors (length plan.streams) until failed (DisobeysAt n instance)) (sym q.0) r.0;
            left = (queue_step found.0.stream.id d.offer, r.1, subst (λ x. takes s x t) step-is (q.2 in-time));
          }
      queue-fault failed s t Sink q f = record { cause = f refl; left = partial-now }
      queue-fault failed s t Count q f = absurd q
      queue-fault failed s t Memory q f = record {
        cause = tt;
        left = (queue_step found.0.stream.id d.offer, Queues.partial-after offer agrees plan until firsts bs h steps at d here event.1 event.2 found.0 found.1, subst (λ x. takes s x t) step-is (q in-time));
      }

    module _ (event : IsNextEvent h.running due (any_in h.rings) h.now until Start) where
      -- one of those that wait or join is chosen
      pub chosen-some : IsChosenSoFar agrees plan.streams h.next h.rings bs (ticks_of plan.rate) h.now (length plan.streams) None → ⊥
      chosen-some none =
          let w = some-ring h.rings event.1 in
          let l : w.0 < length plan.streams = (let n = at.sized.rings in let m = slice_get_within h.rings w.0 w.1 w.2 in omega (arith, n, m)) in
          let a = Places.actor-there offer agrees plan until firsts bs h steps at w.0 l in
          let b = Places.behaviour-there offer agrees plan until firsts bs h steps at w.0 l in
          let p : IsPlaceOf plan.streams h.rings bs w.0 a.0.stream w.1 b.0 = record { stream = Places.stream-of offer agrees plan until firsts bs h steps at w.0 a.0 a.1; ring = w.2; behaviour = b.1 } in
          let f = none w.0 a.0.stream w.1 b.0 l p in
          let t = or-left (nat_lt 0 (length w.1.waiting)) _ (lt-true 0 (length w.1.waiting) w.3) in
          let z : true ≡ false = sym t ∙ f in absurd (cc)

      module _ (s : Sent) (chosen : IsChosen agrees plan.streams h.next h.rings bs (ticks_of plan.rate) h.now (length plan.streams) s) where
        abbrev sent : (a : Actor) × (slice_get actors s.place ≡ Some a)
        sent = Places.actor-there offer agrees plan until firsts bs h steps at s.place chosen.within

        pub turned-start : (h' : AtHand) (cs : List B) (failed : Bool) (u t : S) → cs ≡ bs → IsStarted (ticks_of plan.rate) s h h' → takes u (step.Start s.id h.now) t → IsTurned offer agrees takes plan until firsts cs h' failed u t steps (Ok true)
        turned-start h' cs failed u t same st taken =
            let i = Starting.its offer agrees plan until firsts bs h steps at event.0 event.1 event.2 due first event.3 s chosen sent.0 sent.1 in (
              step.Start sent.0.stream.id h.now,
              subst (λ (v : List B). IsAt offer agrees plan until firsts v h' (steps ++ step.Start sent.0.stream.id h.now ∷ [])) (sym same)
                  (Starting.after-start offer agrees plan until firsts bs h steps at event.0 event.1 event.2 due first event.3 s chosen sent.0 sent.1 h' st),
              subst (λ n. takes u (step.Start n h.now) t) i taken,
            )

-- ---- the same by what each call was given

pub event-here : (running : Option (ℕ × ℕ)) (due : Option Due) (waits : Bool) (rings : List RingValue) (now until : ℕ) (event : Event) → waits ≡ any_in rings → IsNextEvent running due waits now until event → IsNextEvent running due (any_in rings) now until event
event-here running due waits rings now until event e h = subst (λ (b : Bool). IsNextEvent running due b now until event) e h

pub chosen-here : {B : Type 0} (agrees : B → ℕ → ℕ → Bool) (bs : List B) (ss tt : List Stream) (next : List (Option Offer)) (due : Option Due) (rings : List RingValue) (tau tau' now : ℕ) (o : Option Sent) → ss ≡ tt → tau ≡ tau' →
    (IsDueSoFar ss next (length next) due → AreTheirs ss rings → IsChosenSoFar agrees ss next rings bs tau now (length ss) o) →
    IsDueSoFar tt next (length next) due → AreTheirs tt rings → IsChosenSoFar agrees tt next rings bs tau' now (length tt) o
chosen-here agrees bs ss tt next due rings tau tau' now o e i h =
    subst (λ (t : ℕ). IsDueSoFar tt next (length next) due → AreTheirs tt rings → IsChosenSoFar agrees tt next rings bs t now (length tt) o) i
    (subst (λ (s : List Stream). IsDueSoFar s next (length next) due → AreTheirs s rings → IsChosenSoFar agrees s next rings bs tau now (length s) o) e h)

pub err-turned : {B S : Type 0} (offer : B → ℕ → Option Offer) (agrees : B → ℕ → ℕ → Bool) (takes : S → Step → S → Type 0) (plan : PlanValue) (until : ℕ) (firsts bs : List B) (h : AtHand) (failed : Bool) (s t : S) (steps : List Step) (r : Result Bool SimFault) (fault : SimFault) →
    IsErrAnd r (λ f. f ≡ fault) → IsFault takes plan (actors_of offer agrees plan.streams firsts) until failed s t steps fault → IsTurned offer agrees takes plan until firsts bs h failed s t steps r
err-turned offer agrees takes plan until firsts bs h failed s t steps (Ok v) fault e f = absurd e
err-turned offer agrees takes plan until firsts bs h failed s t steps (Err v) fault e f = subst (IsFault takes plan (actors_of offer agrees plan.streams firsts) until failed s t steps) (sym e) f
