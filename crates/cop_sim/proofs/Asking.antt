-- The behaviours that are asked when a SYNC has ended, one after another.
use Rattle.std.proofs.Common.{◌≡◌, ℕ, ◌+◌, ◌-◌, ◌≤◌, ◌<◌, ◌^◌, suc, Result, Ok, Err, IfErr, inl, inr, List, length, get_or, slice_get, slice_set, Option, Some, None, Bool, true, false, refl, sym, ap, ◌∙◌, subst, arith}
use Rattle.std.proofs.lemmas.Bool.{cases_lt}
use Rattle.std.proofs.lemmas.List.{length-set, get_or-set_same, get_or-set_other}
use Rattle.std.proofs.lemmas.Option.{get_or_from_slice_get}
use Rattle.cop_rta.specs.declared.streams.Stream.{Stream}
use Rattle.cop_bus.specs.declared.steps.Step.{Step}
use Rattle.cop_bus.specs.declared.steps.Step.TheVariants.{End}
use Rattle.cop_bus.proofs.AtPlace.{set-here, set-other, there-is, some-one}
use Rattle.cop_sim.specs.declared.behaviours.Offer.{Offer}
use Rattle.cop_sim.specs.declared.due.Due.{Due}
use Rattle.cop_sim.specs.declared.faults.SimFault.{SimFault}
use Rattle.cop_sim.specs.declared.faults.SimFault.TheVariants.{Count, Disobeys as DisobeysAt, Backlog, Sink, Memory}
use Rattle.cop_sim.specs.Cues.{from_of}
use Rattle.cop_sim.specs.Play.{queued_at, queue_step, obeys}
use Rattle.cop_sim.specs.Seats.{next_at, answer_of}
use Rattle.cop_sim.specs.Syncs.{SyncsValue, is_noted, with_event, noted_cue, is_awaited}
use Rattle.cop_sim.specs.Stages.{AtHand, IsCuedPlace, AreCued, CueFault, QueueFault, with_ended, EndFault}

module _ {B : Type 0} (offer : B → ℕ → Option Offer) (agrees : B → ℕ → ℕ → Bool) (until : ℕ) (streams : List Stream) (h hn : AtHand) (bs cs : List B) (n : ℕ) (w : AreCued offer agrees until streams h hn bs cs n) (s : Stream) (is : s ≡ get_or streams n s) where
  same-stream : (k : Stream) → slice_get streams n ≡ Some k → s ≡ k
  same-stream k e = is ∙ get_or_from_slice_get streams n k s e

  -- one place more
  module _ (hm : AtHand) (ds : List B) (stage : hm ≡ record hn { next = slice_set hn.next n (next_at hm.next n) }) (low : n < length cs) (inside : n < length hn.next)
      (asked : (b : B) → slice_get cs n ≡ Some b → (c : B) × (ds ≡ slice_set cs n c) × IsCuedPlace offer agrees until hn.syncs s (get_or hn.queued n 0) (next_at hn.next n) (next_at hm.next n) b c) where
    next-is : hm.next ≡ slice_set hn.next n (next_at hm.next n)
    next-is = ap (λ (v : AtHand). v.next) stage

    abbrev b : (b : B) × (slice_get cs n ≡ Some b)
    b = there-is cs n low

    abbrev c : (c : B) × (ds ≡ slice_set cs n c) × IsCuedPlace offer agrees until hn.syncs s (get_or hn.queued n 0) (next_at hn.next n) (next_at hm.next n) b.0 c
    c = asked b.0 b.1

    next-other : (i : ℕ) → (i ≡ n → ⊥) → next_at hm.next i ≡ next_at hn.next i
    next-other i d = ap (λ (xs : List (Option Offer)). next_at xs i) next-is ∙ get_or-set_other hn.next n i (next_at hm.next n) None d

    other : (i : ℕ) → (i ≡ n → ⊥) → slice_get ds i ≡ slice_get cs i
    other i d = ap (λ (v : List B). slice_get v i) c.1 ∙ set-other cs n i c.0 d

    here : slice_get ds n ≡ Some c.0
    here = ap (λ (v : List B). slice_get v n) c.1 ∙ set-here cs n c.0 low

    own : (k : Stream) (v : B) → slice_get streams n ≡ Some k → slice_get bs n ≡ Some v → (u : B) × (slice_get ds n ≡ Some u) × IsCuedPlace offer agrees until h.syncs k (get_or h.queued n 0) (next_at h.next n) (next_at hm.next n) v u
    own k v e f =
        let r = w.rest n (omega arith) in
        let same : b.0 ≡ v = some-one (slice_get cs n) b.0 v b.1 (r.0 ∙ f) in
        let p = subst (λ (t : Stream). IsCuedPlace offer agrees until hn.syncs t (get_or hn.queued n 0) (next_at hn.next n) (next_at hm.next n) b.0 c.0) (same-stream k e) c.2 in
        let q = subst (λ (t : AtHand). IsCuedPlace offer agrees until t.syncs k (get_or t.queued n 0) (next_at hn.next n) (next_at hm.next n) b.0 c.0) w.others p in
        let o = subst (λ (t : Option Offer). IsCuedPlace offer agrees until h.syncs k (get_or h.queued n 0) t (next_at hm.next n) b.0 c.0) r.1 q in
        (c.0, here, subst (λ (t : B). IsCuedPlace offer agrees until h.syncs k (get_or h.queued n 0) (next_at h.next n) (next_at hm.next n) t c.0) same o)

    pub cued-more : AreCued offer agrees until streams h hm bs ds (n + 1)
    cued-more = record {
      others = stage ∙ ap (λ (t : List (Option Offer)). record hn { next = t }) (sym next-is) ∙ ap (λ (v : AtHand). record v { next = hm.next }) w.others;
      long = ap (λ (t : List (Option Offer)). length t) next-is ∙ length-set hn.next n (next_at hm.next n) ∙ w.long;
      many = ap (λ (t : List B). length t) c.1 ∙ length-set cs n c.0 ∙ w.many;
      each = λ i k v l e f. elim (cases_lt i n) [
        | inl m ↦ (let z = w.each i k v m e f in
            let d : i ≡ n → ⊥ = λ q. omega (arith, m, q) in
            (z.0, other i d ∙ z.1, subst (λ (t : Option Offer). IsCuedPlace offer agrees until h.syncs k (get_or h.queued i 0) (next_at h.next i) t v z.0) (sym (next-other i d)) z.2))
        | inr m ↦ (let q : i ≡ n = omega (arith, l, m) in
            subst (λ j. (u : B) × (slice_get ds j ≡ Some u) × IsCuedPlace offer agrees until h.syncs k (get_or h.queued j 0) (next_at h.next j) (next_at hm.next j) v u) (sym q)
            (own k v (subst (λ j. slice_get streams j ≡ Some k) q e) (subst (λ j. slice_get bs j ≡ Some v) q f)))
      ];
      rest = λ i l. (let d : i ≡ n → ⊥ = λ q. omega (arith, l, q) in let r = w.rest i (omega (arith, l)) in (other i d ∙ r.0, next-other i d ∙ r.1));
    }

  -- or it does not obey
  pub cue-fault : (fault : SimFault) → n < length streams → (m : ℕ) → fault ≡ DisobeysAt n m → m ≡ get_or hn.queued n 0 →
      ((b : B) → slice_get cs n ≡ Some b → (is_awaited hn.syncs s m ≡ true) × ((o : Offer) × (answer_of offer until (noted_cue hn.syncs s m) None b ≡ Some o) × (obeys s None (from_of (noted_cue hn.syncs s m) o) o ≡ false))) →
      CueFault offer until streams h bs fault
  cue-fault fault low m e number breaks = subst (CueFault offer until streams h bs) (sym e) (
    low,
    number ∙ ap (λ (t : AtHand). get_or t.queued n 0) w.others,
    λ k b there f. (let r = w.rest n (omega arith) in
        let z = breaks b (r.0 ∙ f) in
        let y = subst (λ (t : Stream). (is_awaited hn.syncs t m ≡ true) × ((o : Offer) × (answer_of offer until (noted_cue hn.syncs t m) None b ≡ Some o) × (obeys t None (from_of (noted_cue hn.syncs t m) o) o ≡ false))) (same-stream k there) z in
        subst (λ (t : AtHand). (is_awaited t.syncs k m ≡ true) × ((o : Offer) × (answer_of offer until (noted_cue t.syncs k m) None b ≡ Some o) × (obeys k None (from_of (noted_cue t.syncs k m) o) o ≡ false))) w.others y),
  )

-- a fault of those that are asked is one of the end
pub asked-fault : {B S : Type 0} (offer : B → ℕ → Option Offer) (takes : S → Step → S → Type 0) (until : ℕ) (streams : List Stream) (at id : ℕ) (h : AtHand) (bs : List B) (s t : S) (fault : SimFault) →
    is_noted h.syncs id ≡ true → takes s (End id at) t → CueFault offer until streams (with_ended h at id) bs fault → EndFault offer takes until streams at id h bs s t fault
asked-fault offer takes until streams at id h bs s t (DisobeysAt i n) noted taken q = (noted, taken, q)
asked-fault offer takes until streams at id h bs s t (Backlog n) noted taken q = absurd q
asked-fault offer takes until streams at id h bs s t Sink noted taken q = absurd q
asked-fault offer takes until streams at id h bs s t Count noted taken q = absurd q
asked-fault offer takes until streams at id h bs s t Memory noted taken q = absurd q

-- an answer that does not obey after a queue step is its fault
pub unobeyed : {B S : Type 0} (offer : B → ℕ → Option Offer) (takes : S → Step → S → Type 0) (until : ℕ) (streams : List Stream) (d : Due) (h : AtHand) (bs : List B) (s t : S) (k : Stream) (queued : List ℕ) (syncs : SyncsValue) (r : Result (Unit {0}) SimFault) →
    k ≡ get_or streams d.place k → d.place < length h.queued → ((n : ℕ) × (queued ≡ slice_set h.queued d.place n) × (get_or h.queued d.place 0 < 2 ^ 64 - 1 → n ≡ suc (get_or h.queued d.place 0))) →
    syncs ≡ with_event h.syncs d.id d.offer.event → (queued_at d.offer ≤ until → takes s (queue_step d.id d.offer) t) →
    IfErr r (λ fault. (n : ℕ) × (fault ≡ DisobeysAt d.place n) × (n ≡ get_or queued d.place 0) × ((b : B) → slice_get bs d.place ≡ Some b →
    (o : Offer) × (answer_of offer until (noted_cue syncs k n) (Some d.offer) b ≡ Some o) × (obeys k (Some d.offer) (from_of (noted_cue syncs k n) o) o ≡ false))) →
    IfErr r (QueueFault offer takes until streams d h bs s t)
unobeyed offer takes until streams d h bs s t k queued syncs (Ok u) is low counted noted taken f = tt
unobeyed {B} offer takes until streams d h bs s t k queued syncs (Err fault) is low counted noted taken f =
    let number : f.0 ≡ counted.0 = f.2 ∙ ap (λ (xs : List ℕ). get_or xs d.place 0) counted.1 ∙ get_or-set_same h.queued d.place counted.0 0 low in
    subst (QueueFault offer takes until streams d h bs s t) (sym f.1) (
      refl,
      (λ l. number ∙ counted.2 l),
      taken,
      λ j b there e. (let same : k ≡ j = is ∙ get_or_from_slice_get streams d.place j k there in
          subst (λ (v : SyncsValue). (o : Offer) × (answer_of offer until (noted_cue v j f.0) (Some d.offer) b ≡ Some o) × (obeys j (Some d.offer) (from_of (noted_cue v j f.0) o) o ≡ false)) noted
          (subst (λ (v : Stream). (o : Offer) × (answer_of offer until (noted_cue syncs v f.0) (Some d.offer) b ≡ Some o) × (obeys v (Some d.offer) (from_of (noted_cue syncs v f.0) o) o ≡ false)) same (f.3 b e))),
    )
