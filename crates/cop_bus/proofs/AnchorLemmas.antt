-- What the instances of a trace hang on, by steps: an anchor that is found stays.
use Rattle.std.proofs.Common.{◌≡◌, ◌∙◌, ℕ, zero, suc, ◌+◌, ◌≤◌, ◌<◌, inl, inr, List, Option, Some, None, refl, sym, ap, subst, arith, Bool, true, false, cond, nat_le}
use Rattle.std.specs.Prelude.{◌==◌}
use Rattle.std.proofs.lemmas.Bool.{cases_lt, eq-eqb, ne_eqb}
use Rattle.cop_rta.specs.declared.streams.Stream.{Stream}
use Rattle.cop_rta.specs.Test.{sync_id}
use Rattle.cop_bus.specs.declared.anchors.Anchor.{Anchor}
use Rattle.cop_bus.specs.declared.steps.Step.{Step}
use Rattle.cop_bus.specs.Run.{gap_of}
use Rattle.cop_bus.specs.Trace.{is_queue, count_to, nth_that, moment_of}
use Rattle.cop_bus.specs.Ends.{is_end, event_in, HasEnded, Ended, ended_by, sync_number, anchor_if, or_next, sync_below, sync_anchor, anchor_of}
use Rattle.cop_bus.specs.Judge.{are_apart, is_in_time}
use Rattle.cop_bus.proofs.Demand.{and-left, and-right, and-true}
use Rattle.cop_bus.proofs.Work.{true-eq, eq-true, true-le, le-true}
use Rattle.cop_bus.proofs.StepLemmas.{count_to-le}

abbrev pub ended : ℕ → ℕ → Ended
ended event at = record { event = event; at = at }

abbrev pub own_anchor : ℕ → Anchor
own_anchor event = record { mark = event; from = event }

pub same_anchor : (a b : Anchor) → Some a ≡ Some b → a ≡ b
same_anchor a b e = cc

same_ended : (a b : Ended) → Some a ≡ Some b → a ≡ b
same_ended a b e = cc

-- the parts of a SYNC that has ended
pub ended_parts : (o t : Option ℕ) (y : Ended) → ended_by o t ≡ Some y → (o ≡ Some y.event) × (t ≡ Some y.at)
ended_parts None t y h = absurd (cc)
ended_parts (Some e) None y h = absurd (cc)
ended_parts (Some e) (Some t) y h = let s = same_ended (ended e t) y h in (ap (λ y. Some y.event) s, ap (λ y. Some y.at) s)

anchor_parts : (event number : ℕ) (o : Option Ended) (e : Anchor) → anchor_if event number o ≡ Some e → (e.mark ≡ number) × (o ≡ Some (ended event e.from))
anchor_parts event number None e h = absurd (cc)
anchor_parts event number (Some y) e h = go (y.event == event) refl h
  where
    go : (b : Bool) → (y.event == event) ≡ b → cond b (Some (record { mark = number; from = y.at })) None ≡ Some e → (e.mark ≡ number) × (Some y ≡ Some (ended event e.from))
    go true t f = let s = same_anchor (record { mark = number; from = y.at }) e f in
        (sym (ap (λ e. e.mark) s), ap (λ v. Some (ended v y.at)) (true-eq y.event event t) ∙ ap (λ e. Some (ended event e.from)) s)
    go false t f = absurd (cc)

-- what is found has ended, and has the event
pub below_is : (steps : List Step) (event n : ℕ) (e : Anchor) → sync_below steps event n ≡ Some e → (e.mark < n) × (sync_number steps e.mark ≡ Some (ended event e.from))
below_is steps event zero e h = absurd (cc)
below_is steps event (suc a) e h = go (sync_below steps event a) refl h (below_is steps event a e)
  where
    go : (o : Option Anchor) → sync_below steps event a ≡ o → or_next o (anchor_if event a (sync_number steps a)) ≡ Some e →
        (sync_below steps event a ≡ Some e → (e.mark < a) × (sync_number steps e.mark ≡ Some (ended event e.from))) → (e.mark < suc a) × (sync_number steps e.mark ≡ Some (ended event e.from))
    go (Some d) f g ih = let r = ih (f ∙ g) in (omega (arith, r.0), r.1)
    go None f g ih = let p = anchor_parts event a (sync_number steps a) e g in (omega (arith, p.0), ap (sync_number steps) p.0 ∙ p.1)

-- what was found stays
pub below_stays : (steps : List Step) (event n m : ℕ) (e : Anchor) → n ≤ m → sync_below steps event n ≡ Some e → sync_below steps event m ≡ Some e
below_stays steps event n zero e l h = let z : n ≡ 0 = omega arith in subst (λ k. sync_below steps event k ≡ Some e) z h
below_stays steps event n (suc m) e l h = elim (cases_lt n (suc m)) [
  | inl k ↦ ap (λ o. or_next o (anchor_if event m (sync_number steps m))) (below_stays steps event n m e (omega arith) h)
  | inr k ↦ (let s : n ≡ suc m = omega arith in subst (λ k. sync_below steps event k ≡ Some e) s h)
]

-- and one that has the event is found
pub below_finds : (steps : List Step) (event at a n : ℕ) → a < n → sync_number steps a ≡ Some (ended event at) → (e : Anchor) × (sync_below steps event n ≡ Some e)
below_finds steps event at a n l h =
    let next : anchor_if event a (sync_number steps a) ≡ Some (record { mark = a; from = at }) = ap (anchor_if event a) h ∙ ap (λ b. cond b (Some (record { mark = a; from = at })) None) (eq-true event event refl) in
    let r = go (sync_below steps event a) (anchor_if event a (sync_number steps a)) (record { mark = a; from = at }) next in
    (r.0, below_stays steps event (suc a) n r.0 (omega arith) r.1)
  where
    go : (o next : Option Anchor) (d : Anchor) → next ≡ Some d → (e : Anchor) × (or_next o next ≡ Some e)
    go None next d h = (d, h)
    go (Some e) next d h = (e, refl)

pub anchor_async : (k : Stream) (steps : List Step) (i event : ℕ) → k.every ≡ 0 → anchor_of k steps i event ≡ Some (own_anchor event)
anchor_async k steps i event z = ap (λ b. cond b (Some (own_anchor event)) (sync_anchor steps i event)) (eq-eqb k.every 0 z)

pub anchor_synced : (k : Stream) (steps : List Step) (i event : ℕ) → 1 ≤ k.every → anchor_of k steps i event ≡ sync_anchor steps i event
anchor_synced k steps i event l = ap (λ b. cond b (Some (own_anchor event)) (sync_anchor steps i event)) (ne_eqb k.every 0 (λ e. omega arith))

pub anchor_stays : (k : Stream) (steps : List Step) (i j event : ℕ) (e : Anchor) → i ≤ j → anchor_of k steps i event ≡ Some e → anchor_of k steps j event ≡ Some e
anchor_stays k steps i j event e l h = go (k.every == 0) h
  where
    go : (b : Bool) → cond b (Some (own_anchor event)) (sync_anchor steps i event) ≡ Some e → cond b (Some (own_anchor event)) (sync_anchor steps j event) ≡ Some e
    go true h = h
    go false h = below_stays steps event (count_to (is_end sync_id) steps i) (count_to (is_end sync_id) steps j) e (count_to-le (is_end sync_id) steps i j l) h

-- a synchronous instance hangs on a SYNC that has ended
pub anchor_ended : (k : Stream) (steps : List Step) (i event : ℕ) (e : Anchor) → 1 ≤ k.every → anchor_of k steps i event ≡ Some e → HasEnded steps i e.mark event e.from
anchor_ended k steps i event e l h =
    let r = below_is steps event (count_to (is_end sync_id) steps i) e (sym (anchor_synced k steps i event l) ∙ h) in
    let p = ended_parts (event_in (nth_that (is_queue sync_id) e.mark steps)) (moment_of (nth_that (is_end sync_id) e.mark steps)) (ended event e.from) r.1 in
    record { before = r.0; event_is = p.0; ended_is = p.1 }

pub ended_anchor : (k : Stream) (steps : List Step) (i a event at : ℕ) → 1 ≤ k.every → HasEnded steps i a event at → (e : Anchor) × (anchor_of k steps i event ≡ Some e)
ended_anchor k steps i a event at l h =
    let o = event_in (nth_that (is_queue sync_id) a steps) in
    let t = moment_of (nth_that (is_end sync_id) a steps) in
    let r = below_finds steps event at a (count_to (is_end sync_id) steps i) h.before (ap (λ o. ended_by o t) h.event_is ∙ ap (ended_by (Some event)) h.ended_is) in
    (r.0, anchor_synced k steps i event l ∙ r.1)

-- ---- the tests

pub time-found : (jitter : ℕ) (o : Option Anchor) (at : ℕ) → is_in_time jitter o at ≡ true → (e : Anchor) × (o ≡ Some e) × (e.from ≤ at) × (at ≤ e.from + jitter)
time-found jitter None at h = absurd (cc)
time-found jitter (Some e) at h = (e, refl, true-le e.from at (and-left (nat_le e.from at) (nat_le at (e.from + jitter)) h), true-le at (e.from + jitter) (and-right (nat_le e.from at) (nat_le at (e.from + jitter)) h))

pub time-true : (jitter : ℕ) (o : Option Anchor) (at : ℕ) (e : Anchor) → o ≡ Some e → e.from ≤ at → at ≤ e.from + jitter → is_in_time jitter o at ≡ true
time-true jitter o at e h a b = ap (λ o. is_in_time jitter o at) h ∙ and-true (nat_le e.from at) (nat_le at (e.from + jitter)) (le-true e.from at a) (le-true at (e.from + jitter) b)

pub apart-found : (gap : ℕ) (o p : Option Anchor) (d e : Anchor) → are_apart gap o p ≡ true → o ≡ Some d → p ≡ Some e → d.mark + gap ≤ e.mark
apart-found gap o p d e h f g = true-le (d.mark + gap) e.mark (sym (ap (λ o. are_apart gap o p) f ∙ ap (are_apart gap (Some d)) g) ∙ h)

pub apart-true : (gap : ℕ) (o p : Option Anchor) → ((d e : Anchor) → o ≡ Some d → p ≡ Some e → d.mark + gap ≤ e.mark) → are_apart gap o p ≡ true
apart-true gap None p h = refl
apart-true gap (Some d) None h = refl
apart-true gap (Some d) (Some e) h = le-true (d.mark + gap) e.mark (h d e refl refl)

-- the distance of marks
pub gap-async : (k : Stream) → k.every ≡ 0 → gap_of k ≡ k.period
gap-async k z = ap (λ b. cond b k.period k.every) (eq-eqb k.every 0 z)

pub gap-synced : (k : Stream) → 1 ≤ k.every → gap_of k ≡ k.every
gap-synced k l = ap (λ b. cond b k.period k.every) (ne_eqb k.every 0 (λ e. omega arith))
