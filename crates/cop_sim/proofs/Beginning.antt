-- Before the first step: each behaviour was asked once.
use Rattle.std.proofs.Common.{◌≡◌, ℕ, zero, ◌+◌, ◌<◌, inl, inr, List, [], ◌∷◌, ◌++◌, length, get_or, slice_get, slice_set, replicate, Option, Some, None, Result, Ok, Err, IsErrAnd, IfErr, Bool, true, false, refl, sym, ap, ◌∙◌, subst, arith, suc, length-append, map}
use Rattle.std.specs.Option.{ForSome}
use Rattle.std.proofs.lemmas.Bool.{cases_lt}
use Rattle.std.proofs.lemmas.Option.{slice_get_within, get_or_from_slice_get}
use Rattle.std.proofs.lemmas.List.{length-map, length-set}
use Rattle.std.proofs.Math.ListN.{get_or-append}
use Rattle.std.proofs.Math.Seq.{get_or-append_seam}
use Rattle.cop_frame.specs.Rate.{ticks_of}
use Rattle.cop_rta.specs.declared.streams.Stream.{Stream}
use Rattle.cop_rta.specs.Streams.{AreDistinct}
use Rattle.cop_bus.specs.declared.bus.Instance.{Instance}
use Rattle.cop_bus.specs.Rings.{RingValue, most_of, rings_of}
use Rattle.cop_plan.specs.Values.{PlanValue}
use Rattle.cop_plan.specs.Planned.{IsPlanned}
use Rattle.cop_sim.specs.declared.behaviours.Offer.{Offer}
use Rattle.cop_bus.specs.declared.steps.Step.{Step}
use Rattle.cop_sim.specs.declared.faults.SimFault.{SimFault}
use Rattle.cop_sim.specs.declared.faults.SimFault.TheVariants.{Count, Disobeys as DisobeysAt, Backlog, Sink, Memory}
use Rattle.cop_sim.specs.Play.{Actor, actors_of, obeys, IsPartialPlay}
use Rattle.cop_sim.specs.Cues.{from_of}
use Rattle.cop_sim.specs.Seats.{next_at, answer_of, asks, IsCued}
use Rattle.cop_sim.specs.declared.cues.Cue.{Cue}
use Rattle.cop_sim.specs.Sinks.{IsCause, Took, LeftOff}
use Rattle.cop_sim.specs.Stages.{no_syncs, IsSeat, IsAt, actor_of, first_cue, IsFirst, AreFirst, FirstFault, IsLeft}
use Rattle.cop_sim.proofs.Plays.{begins, nothing-yet}
use Rattle.cop_bus.proofs.AtPlace.{set-here, set-other, there-is, some-one, contained}
use Rattle.cop_sim.proofs.Places.{actor-at, stream-at}

module _ {B : Type 0} (offer : B → ℕ → Option Offer) (agrees : B → ℕ → ℕ → Bool) (until : ℕ) (streams : List Stream) (bs : List B) where
  -- one more was asked
  pub first-more : (cs ds : List B) (next : List (Option Offer)) (n : ℕ) (s : Stream) (o : Option Offer) → AreFirst offer agrees until streams bs cs next n → n < length bs → s ≡ get_or streams n s →
      ((b : B) → slice_get cs n ≡ Some b → (c : B) × (ds ≡ slice_set cs n c) × IsFirst offer agrees until s b c o) →
      AreFirst offer agrees until streams bs ds (next ++ o ∷ []) (n + 1)
  first-more cs ds next n s o h low is ask =
      let b = there-is cs n (let m = h.many in omega (arith, low, m)) in
      let c = ask b.0 b.1 in
      let size : n < length cs = (let m = h.many in omega (arith, low, m)) in
      record {
        long = length-append next (o ∷ []) ∙ (let l = h.long in omega (arith, l));
        many = ap (λ (v : List B). length v) c.1 ∙ length-set cs n c.0 ∙ h.many;
        first = λ i k v l e f. elim (cases_lt i n) [
          | inl m ↦ (let w = h.first i k v m e f in
              let q : slice_get ds i ≡ Some w.0 = ap (λ (v : List B). slice_get v i) c.1 ∙ set-other cs n i c.0 (λ z. (let p = m in omega (arith, z, p))) ∙ w.1 in
              let r : next_at (next ++ o ∷ []) i ≡ next_at next i = get_or-append next (o ∷ []) None i (let p = h.long in omega (arith, m, p)) in
              (w.0, q, subst (λ (t : Option Offer). IsFirst offer agrees until k v w.0 t) (sym r) w.2))
          | inr m ↦ (let z : i ≡ n = omega (arith, l, m) in
              let g : slice_get cs n ≡ Some v = h.rest n (omega arith) ∙ subst (λ j. slice_get bs j ≡ Some v) z f in
              let same : b.0 ≡ v = some-one (slice_get cs n) b.0 v b.1 g in
              let stream : s ≡ k = is ∙ get_or_from_slice_get streams n k s (subst (λ j. slice_get streams j ≡ Some k) z e) in
              let here : slice_get ds i ≡ Some c.0 = subst (λ j. slice_get ds j ≡ Some c.0) (sym z) (ap (λ (v : List B). slice_get v n) c.1 ∙ set-here cs n c.0 size) in
              let last : next_at (next ++ o ∷ []) i ≡ o = ap (next_at (next ++ o ∷ [])) (z ∙ sym h.long) ∙ get_or-append_seam next o [] None in (
                c.0,
                here,
                subst (λ (t : Option Offer). IsFirst offer agrees until k v c.0 t) (sym last)
                    (subst (λ (t : Stream). IsFirst offer agrees until t v c.0 o) stream (subst (λ (t : B). IsFirst offer agrees until s t c.0 o) same c.2)),
              ))
        ];
        rest = λ i l. ap (λ (v : List B). slice_get v i) c.1 ∙ set-other cs n i c.0 (λ z. (let p = l in omega (arith, z, p))) ∙ h.rest i (omega (arith, l));
      }

-- a behaviour that was asked for its first answer
pub first-asked : {B : Type 0} (offer : B → ℕ → Option Offer) (agrees : B → ℕ → ℕ → Bool) (until : ℕ) (k : Stream) (cue : Cue) → cue ≡ first_cue k → (bs cs : List B) (place : ℕ) (o : Option Offer) →
    ((b : B) → slice_get bs place ≡ Some b → (c : B) × (cs ≡ slice_set bs place c) × IsCued offer agrees cue b c) → ((b : B) → slice_get bs place ≡ Some b → o ≡ answer_of offer until cue None b) →
    ForSome o (λ o. obeys k None (from_of cue o) o ≡ true) → (b : B) → slice_get bs place ≡ Some b → (c : B) × (cs ≡ slice_set bs place c) × IsFirst offer agrees until k b c o
first-asked offer agrees until k cue e bs cs place o asked answer fine b f =
    let w = asked b f in (
      w.0,
      w.1,
      record {
        asked = subst (λ (u : Cue). IsCued offer agrees u b w.0) e w.2;
        next_is = answer b f ∙ ap (λ u. answer_of offer until u None b) e;
        obeying = λ p q. ap (λ u. obeys k None (from_of u p) p) (sym e) ∙ fine p q;
      },
    )

-- what an actor was made of
first-at : {B : Type 0} (offer : B → ℕ → Option Offer) (agrees : B → ℕ → ℕ → Bool) (ks : List Stream) (bs : List B) (i : ℕ) (a : Actor) → slice_get (actors_of offer agrees ks bs) i ≡ Some a → (f : B) × (slice_get bs i ≡ Some f) × (actor_of offer agrees a.stream f ≡ a)
first-at offer agrees [] bs i a e = absurd (cc)
first-at offer agrees (k ∷ ks) [] i a e = absurd (cc)
first-at offer agrees (k ∷ ks) (b ∷ bs) zero a e = (let p : actor_of offer agrees k b ≡ a = cc in (b, refl, ap (λ (v : Actor). actor_of offer agrees v.stream b) (sym p) ∙ p))
first-at offer agrees (k ∷ ks) (b ∷ bs) (suc i) a e = first-at offer agrees ks bs i a e

zeros : (xs : List ℕ) (i : ℕ) → ((k : ℕ) → get_or xs k 0 ≡ 0) → get_or xs i 0 ≡ 0
zeros xs i h = h i

abbrev pub ids_of : List Stream → List ℕ
ids_of ks = map (λ k. k.id) ks

-- nothing waits in the rings at first
ring-at : (ks : List Stream) (i : ℕ) (k : Stream) (r : RingValue) → slice_get ks i ≡ Some k → slice_get (rings_of ks) i ≡ Some r → (r.id ≡ k.id) × (r.waiting ≡ []) × (r.most ≡ most_of k)
ring-at [] i k r e f = absurd (cc)
ring-at (l ∷ ks) zero k r e f = (let p : l ≡ k = cc in let q : record { id = l.id; waiting = []; most = most_of l } ≡ r = cc in
    (ap (λ (v : RingValue). v.id) (sym q) ∙ ap (λ (v : Stream). v.id) p, ap (λ (v : RingValue). v.waiting) (sym q), ap (λ (v : RingValue). v.most) (sym q) ∙ ap most_of p))
ring-at (l ∷ ks) (suc i) k r e f = ring-at ks i k r e f

module _ {B : Type 0} (offer : B → ℕ → Option Offer) (agrees : B → ℕ → ℕ → Bool) (plan : PlanValue) (until : ℕ) (bs cs : List B) (next : List (Option Offer)) (queued : List ℕ) where
  -- no step was taken
  pub begun : IsPlanned plan → AreDistinct plan.streams → length bs ≡ length plan.streams → AreFirst offer agrees until plan.streams bs cs next (length plan.streams) → length queued ≡ length plan.streams → ((k : ℕ) → get_or queued k 0 ≡ 0) →
      IsAt offer agrees plan until bs cs (record { ids = ids_of plan.streams; next = next; rings = rings_of plan.streams; queued = queued; running = None; joined = None; now = 0; syncs = no_syncs plan.streams }) []
  begun planned distinct count firsts many zero-each = record {
    planned = planned;
    distinct = distinct;
    firsts_are = count;
    ahead = [];
    goes = begins (ticks_of plan.rate) (actors_of offer agrees plan.streams bs) until;
    sized = record { ids = length-map plan.streams _; next = firsts.long; rings = length-map plan.streams _; queued = many };
    ids_are = refl;
    behaviours_are = firsts.many ∙ count;
    seats = seat;
    runs = refl;
    now_is = refl;
    awaited = refl;
    noted = record { events = λ s. refl; ends = λ s. refl };
    synchronous = refl;
  }
    where
      seat : (i : ℕ) (a : Actor) (b : B) (r : RingValue) → slice_get (actors_of offer agrees plan.streams bs) i ≡ Some a → slice_get cs i ≡ Some b → slice_get (rings_of plan.streams) i ≡ Some r →
          IsSeat offer agrees until [] a b (next_at next i) r (get_or queued i 0)
      seat i a b r e f g =
          let k = stream-at offer agrees plan.streams bs i a e in
          let v = first-at offer agrees plan.streams bs i a e in
          let w = firsts.first i a.stream v.0 (slice_get_within plan.streams i a.stream k) k v.1 in
          let same : w.0 ≡ b = some-one (slice_get cs i) w.0 b w.1 f in
          let ring = ring-at plan.streams i a.stream r k g in
          let h : IsFirst offer agrees until a.stream v.0 b (next_at next i) = subst (λ (t : B). IsFirst offer agrees until a.stream v.0 t (next_at next i)) same w.2 in
          subst (λ (t : Actor). IsSeat offer agrees until [] t b (next_at next i) r (get_or queued i 0)) v.2 (record {
            held = record {
              offer = h.next_is;
              its = ring.0;
              count = ap (λ (ys : List Instance). length ys) ring.1;
              each = λ j y q. (let z : None ≡ Some y = sym (ap (λ (ys : List Instance). slice_get ys j) ring.1) ∙ q in absurd (cc));
            };
            most = ring.2;
            count = zero-each i;
            rest = λ j. h.asked.rest j ∙ ap (offer v.0) (let z : asks (first_cue a.stream) + j ≡ 0 + (asks (first_cue a.stream) + j) = omega arith in z);
            same = h.asked.same;
            obeying = λ o q. h.obeying o q;
          })

  -- the first answer of a behaviour does not obey
  pub first-disobeys : (i n : ℕ) (failed : Bool) (m : ℕ) → length bs ≡ length plan.streams → i < length plan.streams → n ≡ 0 →
      ((k : Stream) (b : B) → slice_get plan.streams i ≡ Some k → slice_get bs i ≡ Some b → (o : Offer) × (answer_of offer until (first_cue k) None b ≡ Some o) × (obeys k None (from_of (first_cue k) o) o ≡ false)) →
      IsCause plan (actors_of offer agrees plan.streams bs) m until failed (DisobeysAt i n)
  first-disobeys i n failed m count low e h =
      let k = there-is plan.streams i low in
      let b = there-is bs i (omega (arith, count, low)) in
      let a = actor-at offer agrees plan.streams bs i k.0 b.0 k.1 b.1 in
      let w = h k.0 b.0 k.1 b.1 in
      subst (λ j. IsCause plan (actors_of offer agrees plan.streams bs) m until failed (DisobeysAt i j)) (sym e) (
        actor_of offer agrees k.0 b.0,
        a,
        record {
          its = contained (actors_of offer agrees plan.streams bs) i (actor_of offer agrees k.0 b.0) a;
          steps = [];
          partial = nothing-yet (ticks_of plan.rate) (actors_of offer agrees plan.streams bs) until;
          number = refl;
          offer = w.0;
          is_next = w.1;
          breaks = w.2;
        },
      )

  pub begun-of : (ss : List Stream) (ids : List ℕ) (rings : List RingValue) → plan.streams ≡ ss → IsPlanned plan → AreDistinct plan.streams → length bs ≡ length ss → AreFirst offer agrees until ss bs cs next (length ss) → ids ≡ ids_of ss → rings ≡ rings_of ss → length queued ≡ length ss → ((k : ℕ) → get_or queued k 0 ≡ 0) →
      IsAt offer agrees plan until bs cs (record { ids = ids; next = next; rings = rings; queued = queued; running = None; joined = None; now = 0; syncs = no_syncs ss }) []
  begun-of ss ids rings e planned distinct count firsts named are many zero-each =
      let long : length ss ≡ length plan.streams = ap (λ (s : List Stream). length s) (sym e) in
      subst (λ (is : List ℕ). IsAt offer agrees plan until bs cs (record { ids = is; next = next; rings = rings; queued = queued; running = None; joined = None; now = 0; syncs = no_syncs ss }) []) (ap ids_of e ∙ sym named)
      (subst (λ (rs : List RingValue). IsAt offer agrees plan until bs cs (record { ids = ids_of plan.streams; next = next; rings = rs; queued = queued; running = None; joined = None; now = 0; syncs = no_syncs ss }) []) (ap rings_of e ∙ sym are)
      (subst (λ (ks : List Stream). IsAt offer agrees plan until bs cs (record { ids = ids_of plan.streams; next = next; rings = rings_of plan.streams; queued = queued; running = None; joined = None; now = 0; syncs = no_syncs ks }) []) e
      (begun planned distinct (count ∙ long) (subst (λ (s : List Stream). AreFirst offer agrees until s bs cs next (length s)) (sym e) firsts) (many ∙ long) zero-each)))

  pub first-cause : (ss : List Stream) (failed : Bool) (m : ℕ) (fault : SimFault) → ss ≡ plan.streams → length bs ≡ length plan.streams → FirstFault offer until ss bs fault → IsCause plan (actors_of offer agrees plan.streams bs) m until failed fault
  first-cause ss failed m (DisobeysAt i n) e count h =
      let v = subst (λ (s : List Stream). FirstFault offer until s bs (DisobeysAt i n)) e h in
      first-disobeys i n failed m count v.0 v.1 v.2
  first-cause ss failed m (Backlog id) e count h = absurd h
  first-cause ss failed m Sink e count h = absurd h
  first-cause ss failed m Count e count h = absurd h
  first-cause ss failed m Memory e count h = tt

  pub first-left : {S : Type 0} (takes : S → Step → S → Type 0) (ss : List Stream) (s : S) (fault : SimFault) → FirstFault offer until ss bs fault →
      (steps : List Step) × IsPartialPlay (ticks_of plan.rate) (actors_of offer agrees plan.streams bs) until steps × LeftOff takes s steps s fault
  first-left takes ss s (DisobeysAt i n) h = ([], nothing-yet (ticks_of plan.rate) (actors_of offer agrees plan.streams bs) until, refl)
  first-left takes ss s (Backlog id) h = absurd h
  first-left takes ss s Sink h = absurd h
  first-left takes ss s Count h = absurd h
  first-left takes ss s Memory h = ([], nothing-yet (ticks_of plan.rate) (actors_of offer agrees plan.streams bs) until, refl)

pub zeros-long : (n : ℕ) → length {A = ℕ} (replicate n 0) ≡ n
zeros-long zero = refl
zeros-long (suc n) = ap suc (zeros-long n)

pub zeros-each : (n k : ℕ) → ◌≡◌ {A = ℕ} (get_or (replicate n 0) k 0) 0
zeros-each zero k = refl
zeros-each (suc n) zero = refl
zeros-each (suc n) (suc k) = zeros-each n k

-- ---- faults and takes

pub err-if : {X : Type 0} (r : Result X SimFault) (P : SimFault → Type 0) (fault : SimFault) → IsErrAnd r (λ f. f ≡ fault) → P fault → IfErr r P
err-if (Ok x) P fault e h = absurd e
err-if (Err f) P fault e h = subst P (sym e) h

pub took-one : {S : Type 0} (takes : S → Step → S → Type 0) (steps : List Step) (x : Step) (s m t : S) → Took takes s steps m → takes m x t → Took takes s (steps ++ x ∷ []) t
took-one takes [] x s m t e h = (t, subst (λ v. takes v x t) (sym e) h, refl)
took-one takes (y ∷ steps) x s m t w h = (w.0, w.1, took-one takes steps x w.0 m t w.2 h)

pub took-same : {S : Type 0} (takes : S → Step → S → Type 0) (steps : List Step) (s m t : S) → Took takes s steps m → t ≡ m → Took takes s steps t
took-same takes steps s m t w e = subst (Took takes s steps) (sym e) w

pub left-off : {S : Type 0} (takes : S → Step → S → Type 0) (partial : List Step → Type 0) (steps : List Step) (s m t : S) (fault : SimFault) → Took takes s steps m → IsLeft takes partial m t steps fault → (all : List Step) × partial all × LeftOff takes s all t fault
left-off takes partial steps s m t Sink w h = (steps, h, (m, w))
left-off takes partial steps s m t (Backlog id) w h = (steps, h.0, took-same takes steps s m t w h.1)
left-off takes partial steps s m t (DisobeysAt i n) w h = (steps ++ h.0 ∷ [], h.1, took-one takes steps h.0 s m t w h.2)
left-off takes partial steps s m t Count w h = absurd h
left-off takes partial steps s m t Memory w h = (steps ++ h.0 ∷ [], h.1, took-one takes steps h.0 s m t w h.2)
