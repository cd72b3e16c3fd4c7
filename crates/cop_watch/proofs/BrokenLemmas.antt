-- A step that breaks a rule, whatever steps follow.
use Rattle.std.proofs.Common.{◌≡◌, ℕ, ◌+◌, ◌≤◌, ◌<◌, inl, inr, List, [], ◌∷◌, ◌++◌, length, drop, refl, sym, ◌∙◌, ap, subst, arith, suc, zero, Bool, true, false, cond, not, ◌&&◌, ◌||◌, ◌==◌, nat_le, get_or, length-append}
use Rattle.std.specs.Prelude.{Option, None, Some, is_some, slice_index}
use Rattle.std.specs.BTreeSet.{contains}
use Rattle.std.specs.Ordering.{nat_cmp}
use Rattle.cop_rta.specs.declared.streams.Stream.{Stream}
use Rattle.cop_bus.specs.declared.steps.Step.{Step}
use Rattle.cop_bus.specs.declared.steps.Content.{Content}
use Rattle.cop_bus.specs.declared.steps.Step.TheVariants.{Queue, Start, End}
use Rattle.cop_bus.specs.declared.anchors.Anchor.{Anchor}
use Rattle.cop_bus.specs.Run.{gap_of}
use Rattle.cop_bus.specs.Trace.{at_of, rank_of, is_queue, is_start, count_to, nth_that, step_at, running}
use Rattle.cop_bus.specs.Ends.{anchor_of, sync_anchor}
use Rattle.cop_bus.specs.Judge as Judge
use Rattle.cop_bus.specs.Judge.{id_of, stream_of, last_event, not_before, is_in_order, are_apart, is_period_later, is_queued_in_time, is_of_length, fits_transfer, is_soon_queued, has_one_to_send, is_lowest, is_not_idle, broken_in_turn, broken_by, broken_at_end, at_step, first_broken_from, first_broken, any_waits, lower_waits, is_unfinished}
use Rattle.cop_bus.proofs.AnchorLemmas.{anchor_async, anchor_synced}
use Rattle.cop_bus.proofs.Verdict.{drop-at, drop-all, broken-later}
use Rattle.cop_bus.proofs.Work.{le-false, lt-true, lt-false, true-eq}
use Rattle.cop_bus.proofs.Demand.{and-true, and-left, and-right}
use Rattle.cop_bus.proofs.StepLemmas.{bool_cases}
use Rattle.cop_bus.proofs.Waits.{lower-one}
use Rattle.cop_bus.proofs.Grows.{step_at-more, last_event-more, any_waits-more, lower_waits-more, count_to-more, nth_that-more, none-broken-there}
use Rattle.cop_bus.proofs.Appended.{step_at-here, one-more}
use Rattle.cop_watch.specs.declared.bus.Bus.{Bus}
use Rattle.cop_watch.specs.declared.bus.Bus.TheVariants.{Idle, Sending, Joining}
use Rattle.cop_watch.specs.declared.syncs.EndedSync.{EndedSync}
use Rattle.cop_watch.specs.declared.watching.Watch.{Watch}
use Rattle.cop_watch.specs.Rules.{is_after}
use Rattle.cop_watch.specs.Rings.{ring_of}
use Rattle.cop_watch.specs.Syncs.{HangsOn}
use Rattle.cop_watch.specs.Knowing.{starts, IsNow, Awaits, runs_of}
use Rattle.cop_watch.specs.Watching.{Knows, HasTaken}
use Rattle.cop_watch.specs.Breaking.{IsAlone, HangsAt, IsMarkBefore, is_far, is_timely, instance_rule, IsLower, IsIdleTo, BreaksThen, BreaksAtStart}
use Rattle.cop_watch.specs.Found.{Breaks}
use Rattle.cop_watch.proofs.SyncLemmas.{among}
use Rattle.cop_watch.proofs.HangLemmas.{anchor-here}
use Rattle.cop_watch.proofs.Taken.{waits-listed, some-waiting, none-waiting, none-below, is-known}
use Rattle.cop_watch.proofs.Further.{finds-more, running-kept, order-more, order-is, idle-more, start-period, start-time, start-length, end-period, end-time, end-length, after-le}

-- a test that is passed, and one that is not
pub on : (b : Bool) (n : ℕ) (o : Option ℕ) → b ≡ true → cond (not b) (Some n) o ≡ o
on b n o e = ap (λ b. cond (not b) (Some n) o) e

pub stop : (b : Bool) (n : ℕ) (o : Option ℕ) → b ≡ false → cond (not b) (Some n) o ≡ Some n
stop b n o e = ap (λ b. cond (not b) (Some n) o) e

and-false : (a b : Bool) → b ≡ false → (a && b) ≡ false
and-false true b e = e
and-false false b e = refl

-- the first step that breaks a rule
first-at : (tau : ℕ) (streams : List Stream) (until : ℕ) (xs : List Step) (n rule : ℕ) → n < length xs → ((i : ℕ) → i < n → broken_by tau streams until xs i (step_at xs i) ≡ None) →
    broken_by tau streams until xs n (step_at xs n) ≡ Some rule → first_broken tau streams until xs ≡ Some (suc n, rule)
first-at tau streams until xs n rule low fine here = go n 0 (omega arith)
  where
    go : (m i : ℕ) → i + m ≡ n → first_broken_from tau streams until xs i (drop i xs) ≡ Some (suc n, rule)
    go zero i e =
        let q : i ≡ n = omega arith in
        subst (λ j. first_broken_from tau streams until xs j (drop j xs) ≡ Some (suc n, rule)) (sym q)
        (ap (first_broken_from tau streams until xs n) (drop-at xs n low) ∙ ap (λ o. at_step n o (first_broken_from tau streams until xs (suc n) (drop (suc n) xs))) here)
    go (suc m) i e =
        let l : i < length xs = omega (arith, low, e) in
        ap (first_broken_from tau streams until xs i) (drop-at xs i l)
        ∙ ap (λ o. at_step i o (first_broken_from tau streams until xs (suc i) (drop (suc i) xs))) (fine i (omega (arith, e)))
        ∙ go m (suc i) (omega arith)

-- and the end
pub first-at-end : (tau : ℕ) (streams : List Stream) (until : ℕ) (xs : List Step) (rule : ℕ) → ((i : ℕ) → i < length xs → broken_by tau streams until xs i (step_at xs i) ≡ None) →
    broken_at_end tau streams until xs ≡ Some rule → first_broken tau streams until xs ≡ Some (suc (length xs), rule)
first-at-end tau streams until xs rule fine end = go (length xs) 0 (omega arith)
  where
    go : (n i : ℕ) → i + n ≡ length xs → first_broken_from tau streams until xs i (drop i xs) ≡ Some (suc (length xs), rule)
    go zero i e =
        let q : i ≡ length xs = omega arith in
        subst (λ m. first_broken_from tau streams until xs m (drop m xs) ≡ Some (suc (length xs), rule)) (sym q)
        (ap (first_broken_from tau streams until xs (length xs)) (drop-all xs) ∙ ap (λ o. at_step (length xs) o None) end)
    go (suc n) i e =
        let l : i < length xs = omega arith in
        ap (first_broken_from tau streams until xs i) (drop-at xs i l)
        ∙ ap (λ o. at_step i o (first_broken_from tau streams until xs (suc i) (drop (suc i) xs))) (fine i l)
        ∙ go n (suc i) (omega arith)

-- a step that may not stand behind the last one
order-not : (until : ℕ) (steps : List Step) (x : Step) (at rank : ℕ) → IsNow steps at rank → 0 < length steps → is_after at rank (at_of x) (rank_of x) ≡ false → is_in_order until steps (length steps) x ≡ false
order-not until steps x at rank now some test = go (length steps) now some
  where
    go : (n : ℕ) → ((i : ℕ) → suc i ≡ n → (at_of (step_at steps i) ≡ at) × (rank_of (step_at steps i) ≡ rank)) → 0 < n → is_in_order until steps n x ≡ false
    go zero h l = absurd (omega (arith, l))
    go (suc i) h l =
        let e = h i refl in
        let behind : not_before (step_at steps i) x ≡ false = rw (e.0, e.1) test in
        and-false (nat_le (at_of x) until) (not_before (step_at steps i) x) behind

or-neither : (a b : Bool) → a ≡ false → b ≡ false → (a || b) ≡ false
or-neither a b e f = cc

-- the bus is idle too long
pub not-idle : (streams : List Stream) (steps : List Step) (now rank moment : ℕ) → IsNow steps now rank → 0 < length steps → now < moment → any_waits steps (length steps) streams ≡ true → is_not_idle streams steps (length steps) None moment ≡ false
not-idle streams steps now rank moment last some late waits = go (length steps) last some waits
  where
    go : (n : ℕ) → ((i : ℕ) → suc i ≡ n → (at_of (step_at steps i) ≡ now) × (rank_of (step_at steps i) ≡ rank)) → 0 < n → any_waits steps n streams ≡ true → is_not_idle streams steps n None moment ≡ false
    go zero l s w = absurd (omega (arith, s))
    go (suc i) l s w = or-neither (nat_le moment (at_of (step_at steps i))) _ (let e = (l i refl).0 in le-false moment (at_of (step_at steps i)) (omega (arith, e, late))) (ap not w)

pub awaits-none : (tau : ℕ) (b : Bus) → IsAlone b → Awaits tau b []
awaits-none tau Idle a = refl
awaits-none tau (Sending id end) a = refl
awaits-none tau (Joining id start) a = absurd a

-- what is hung on, as an anchor
abbrev mark-from : ℕ → ℕ → Anchor
mark-from m f = record { mark = m; from = f }

abbrev anchor_as : Option EndedSync → Option Anchor
anchor_as None = None
anchor_as (Some s) = Some (mark-from s.mark s.from)

apart-far : (gap : ℕ) (o : Option Anchor) (m : ℕ) (hang : Option EndedSync) → HangsOn o m → are_apart gap o (anchor_as hang) ≡ is_far gap (Some m) hang
apart-far gap None m hang h = absurd h
apart-far gap (Some d) m None h = refl
apart-far gap (Some d) m (Some s) h = ap (λ n. nat_le (n + gap) s.mark) h

timely : (jitter at : ℕ) (hang : Option EndedSync) → Judge.is_in_time jitter (anchor_as hang) at ≡ is_timely jitter hang at
timely jitter at None = refl
timely jitter at (Some s) = refl

-- what comes after three tests
after-three : (p t l : Bool) (next turn : Option ℕ) (r : ℕ) → (next ≡ Some r → turn ≡ Some r) → cond (not p) (Some 62) (cond (not t) (Some 63) (cond (not l) (Some 64) next)) ≡ Some r
    → cond (not p) (Some 62) (cond (not t) (Some 63) (cond (not l) (Some 64) turn)) ≡ Some r
after-three false t l next turn r f h = h
after-three true false l next turn r f h = h
after-three true true false next turn r f h = h
after-three true true true next turn r f h = f h

same-three : (p p' t t' l : Bool) (turn : Option ℕ) → p ≡ p' → t ≡ t' → cond (not p) (Some 62) (cond (not t) (Some 63) (cond (not l) (Some 64) turn)) ≡ cond (not p') (Some 62) (cond (not t') (Some 63) (cond (not l) (Some 64) turn))
same-three p p' t t' l turn e f = ap (λ b. cond (not b) (Some 62) (cond (not t) (Some 63) (cond (not l) (Some 64) turn))) e ∙ ap (λ b. cond (not p') (Some 62) (cond (not b) (Some 63) (cond (not l) (Some 64) turn))) f

module _ (tau : ℕ) (streams : List Stream) (steps : List Step) (w : Watch) (has : HasTaken tau streams steps w) (is_alone : IsAlone w.bus) (until : ℕ) (le : w.at ≤ until) (more : List Step) where
  abbrev h : Knows tau streams steps w.bus w.at w.rank w.last.items w.marks.items w.syncs w.events.items w.rings.items w.waiting w.sent
  h = has.knows

  alone : Awaits tau w.bus []
  alone = awaits-none tau w.bus is_alone

  some-steps : 0 < w.taken → 0 < length steps
  some-steps l = let n = has.numbered in omega (arith, l, n)

  runs-here : (x : Step) → running tau (steps ++ x ∷ more) (length steps) ≡ runs_of tau w.bus []
  runs-here x = running-kept tau streams w.at steps [] (x ∷ more) (finds-more steps (x ∷ more)) (h.fine [] alone) ∙ h.runs [] alone

  runs-as : (x : Step) (b : Bus) → w.bus ≡ b → running tau (steps ++ x ∷ more) (length steps) ≡ runs_of tau b []
  runs-as x b e = runs-here x ∙ ap (λ c. runs_of tau c []) e

  pub breaks-60 : (x : Step) → 0 < w.taken → is_after w.at w.rank (at_of x) (rank_of x) ≡ false → broken_by tau streams until (steps ++ x ∷ more) (length steps) x ≡ Some 60
  breaks-60 x some test = stop (is_in_order until (steps ++ x ∷ more) (length steps) x) 60 _ (order-more until steps (x ∷ more) x ∙ order-not until steps x w.at w.rank h.last_is (some-steps some) test)

  in-order : (x : Step) → is_after w.at w.rank (at_of x) (rank_of x) ≡ true → at_of x ≤ until → is_in_order until (steps ++ x ∷ more) (length steps) x ≡ true
  in-order x order by = order-more until steps (x ∷ more) x ∙ order-is until steps x w.at w.rank h.last_is order by

  pub breaks-61 : (x : Step) → is_after w.at w.rank (at_of x) (rank_of x) ≡ true → at_of x ≤ until → stream_of streams (id_of x) ≡ None → broken_by tau streams until (steps ++ x ∷ more) (length steps) x ≡ Some 61
  breaks-61 x order by none = on (is_in_order until (steps ++ x ∷ more) (length steps) x) 60 _ (in-order x order by) ∙ stop (is_some (stream_of streams (id_of x))) 61 _ (ap is_some none)

  idle-too-long : (x : Step) (at : ℕ) → IsIdleTo w at → is_not_idle streams (steps ++ x ∷ more) (length steps) (running tau (steps ++ x ∷ more) (length steps)) at ≡ false
  idle-too-long x at i =
      ap (λ r. is_not_idle streams (steps ++ x ∷ more) (length steps) r at) (runs-as x Idle i.idle) ∙ idle-more streams steps (x ∷ more) None at
      ∙ not-idle streams steps w.at w.rank at h.last_is (some-steps i.some) i.late (some-waiting tau streams steps _ _ _ _ _ _ _ _ _ _ h i.one i.waits)

  -- an end
  pub breaks-end : (id at : ℕ) → is_after w.at w.rank at 0 ≡ true → at ≤ until → is_some (stream_of streams id) ≡ true → (w.bus ≡ Sending id at → ⊥) → broken_by tau streams until (steps ++ End id at ∷ more) (length steps) (End id at) ≡ Some 65
  breaks-end id at order by known other =
      let x = End id at in
      let xs = steps ++ x ∷ more in
      let n = length steps in
      broken-later tau streams until xs n x (in-order x order by) known (end-period (stream_of streams id) (last_event id xs n) xs n at id) (end-time (stream_of streams id) xs n at id) (end-length (stream_of streams id) at id)
      ∙ stop (fits_transfer (running tau xs n) x) 65 _ (ap (λ r. fits_transfer r x) (runs-here x) ∙ fits w.bus is_alone other)
    where
      fits : (b : Bus) → IsAlone b → (b ≡ Sending id at → ⊥) → fits_transfer (runs_of tau b []) (End id at) ≡ false
      fits Idle a o = refl
      fits (Sending i e) a o = elim (bool_cases ((i == id) && (e == at))) [
        | inl t ↦ absurd (o (ap (λ k. Sending k e) (true-eq i id (and-left (i == id) (e == at) t)) ∙ ap (λ k. Sending id k) (true-eq e at (and-right (i == id) (e == at) t))))
        | inr f ↦ f
      ]
      fits (Joining i s) a o = absurd a

  -- a start
  module _ (id at : ℕ) (order : is_after w.at w.rank at 2 ≡ true) (by : at ≤ until) (known : is_some (stream_of streams id) ≡ true) where
    abbrev s : Step
    s = Start id at

    turn : broken_by tau streams until (steps ++ s ∷ more) (length steps) s ≡ broken_in_turn tau streams (steps ++ s ∷ more) (length steps) (running tau (steps ++ s ∷ more) (length steps)) s
    turn =
        let xs = steps ++ s ∷ more in
        let n = length steps in
        broken-later tau streams until xs n s (in-order s order by) known (start-period (stream_of streams id) (last_event id xs n) xs n at id) (start-time (stream_of streams id) xs n at id) (start-length (stream_of streams id) at id)

    pub breaks-busy : (w.bus ≡ Idle → ⊥) → broken_by tau streams until (steps ++ s ∷ more) (length steps) s ≡ Some 65
    breaks-busy busy = turn ∙ stop (fits_transfer (running tau (steps ++ s ∷ more) (length steps)) s) 65 _ (ap (λ r. fits_transfer r s) (runs-here s) ∙ fits w.bus is_alone busy)
      where
        fits : (b : Bus) → IsAlone b → (b ≡ Idle → ⊥) → fits_transfer (runs_of tau b []) (Start id at) ≡ false
        fits Idle a o = absurd (o refl)
        fits (Sending i e) a o = refl
        fits (Joining i e) a o = absurd a

    module _ (idle : w.bus ≡ Idle) where
      fits-idle : fits_transfer (running tau (steps ++ s ∷ more) (length steps)) s ≡ true
      fits-idle = ap (λ r. fits_transfer r s) (runs-as s Idle idle)

      pub breaks-none : ((k : ℕ) → contains nat_cmp w.waiting k ≡ false) → broken_by tau streams until (steps ++ s ∷ more) (length steps) s ≡ Some 66
      breaks-none none =
          let xs = steps ++ s ∷ more in
          let n = length steps in
          let nobody = any_waits-more steps (s ∷ more) n streams (omega arith) ∙ none-waiting tau streams steps _ _ _ _ _ _ _ _ _ _ h none in
          turn ∙ on (fits_transfer (running tau xs n) s) 65 _ fits-idle
          ∙ stop (has_one_to_send tau streams xs n s) 66 _ (ap (λ b. b && is_soon_queued tau at (nth_that (is_queue id) (count_to (is_start id) xs n) xs)) nobody)

      sends : 0 < length (ring_of w.rings.items id) → has_one_to_send tau streams (steps ++ s ∷ more) (length steps) s ≡ true
      sends there =
          let xs = steps ++ s ∷ more in
          let n = length steps in
          let held = h.held id in
          let first = held.each 0 there in
          let y = Queue id first.at first.event first.frame in
          let zero' : starts id steps + 0 ≡ starts id steps = omega arith in
          let found : nth_that (is_queue id) (starts id steps) xs ≡ Some y = ap (λ j. nth_that (is_queue id) j xs) (sym zero') ∙ nth_that-more (is_queue id) (starts id steps + 0) steps (s ∷ more) y first.there in
          let nth : nth_that (is_queue id) (count_to (is_start id) xs n) xs ≡ Some y = ap (λ j. nth_that (is_queue id) j xs) (count_to-more (is_start id) steps (s ∷ more) n (omega arith)) ∙ found in
          let soon : first.at < at + tau = (let b = first.by_now in let t = h.tick in let o = after-le w.at w.rank at 2 order in omega (arith, b, t, o)) in
          let listed : contains nat_cmp w.waiting id ≡ true = h.listed id ∙ lt-true 0 (length (ring_of w.rings.items id)) there in
          and-true (any_waits xs n streams) (is_soon_queued tau at (nth_that (is_queue id) (count_to (is_start id) xs n) xs))
          (any_waits-more steps (s ∷ more) n streams (omega arith) ∙ some-waiting tau streams steps _ _ _ _ _ _ _ _ _ _ h id listed)
          (ap (is_soon_queued tau at) nth ∙ lt-true first.at (at + tau) soon)

      pub breaks-sender : (rule : ℕ) → BreaksAtStart w id at rule → broken_by tau streams until (steps ++ s ∷ more) (length steps) s ≡ Some rule
      breaks-sender rule b =
          let xs = steps ++ s ∷ more in
          let n = length steps in
          let to = turn ∙ on (fits_transfer (running tau xs n) s) 65 _ fits-idle ∙ on (has_one_to_send tau streams xs n s) 66 _ (sends b.there) in
          elim b.breaks [
            | inl l ↦ to ∙ stop (is_lowest streams xs n s) 67 _ (ap not (lower_waits-more steps (s ∷ more) n id streams (omega arith) ∙ lower-is l.0)) ∙ ap Some (sym l.1)
            | inr l ↦ to ∙ on (is_lowest streams xs n s) 67 _ (ap not (lower_waits-more steps (s ∷ more) n id streams (omega arith) ∙ none-below tau streams steps _ _ _ _ _ _ _ _ _ _ h id l.0))
                ∙ stop (is_not_idle streams xs n (running tau xs n) at) 68 None (idle-too-long s at l.1) ∙ ap Some (sym l.2)
          ]
        where
          lower-is : IsLower w.waiting id → lower_waits steps (length steps) id streams ≡ true
          lower-is l = lower-one steps (length steps) id l.one streams l.below (sym (waits-listed tau streams steps _ _ _ _ _ _ _ _ _ _ h l.one) ∙ l.waits) (is-known tau streams steps _ _ _ _ _ _ _ _ _ _ h l.one l.waits)

  -- a queue step
  module _ (id at event : ℕ) (frame : Content) (order : is_after w.at w.rank at 1 ≡ true) (by : at ≤ until) (k : Stream) (its : stream_of streams id ≡ Some k) (hang : Option EndedSync) (hangs : HangsAt k w.syncs event hang)
      (before : Option ℕ) (was : IsMarkBefore k (get_or w.last.items id None) (slice_index w.marks.items id) before) where
    abbrev x : Step
    x = Queue id at event frame

    abbrev xs : List Step
    xs = steps ++ x ∷ more

    here : (v : ℕ) → sync_anchor xs (length steps) v ≡ sync_anchor (steps ++ []) (length steps) v
    here v = anchor-here tau streams w.at until steps [] more x le (finds-more steps (x ∷ more)) (h.fine [] alone) v

    hang-is : anchor_of k xs (length steps) event ≡ anchor_as hang
    hang-is = go hang hangs
      where
        go : (o : Option EndedSync) → HangsAt k w.syncs event o → anchor_of k xs (length steps) event ≡ anchor_as o
        go None n = anchor_synced k xs (length steps) event n.0 ∙ here event ∙ (h.hangs [] alone).none event n.1
        go (Some s) (inl a) = anchor_async k xs (length steps) event a.0 ∙ ap (λ m. Some (mark-from m event)) (sym a.1) ∙ ap (λ f. Some (mark-from s.mark f)) (sym a.2)
        go (Some s) (inr a) = anchor_synced k xs (length steps) event a.0 ∙ here event
            ∙ subst (λ v. sync_anchor (steps ++ []) (length steps) v ≡ Some (mark-from s.mark s.from)) a.2 (among (steps ++ []) (length steps) w.syncs s (h.hangs [] alone) a.1)

    far-is : is_period_later (Some k) (get_or w.last.items id None) xs (length steps) x ≡ is_far (gap_of k) before hang
    far-is = go (get_or w.last.items id None) refl was
      where
        go : (o : Option ℕ) → get_or w.last.items id None ≡ o → IsMarkBefore k o (slice_index w.marks.items id) before → is_period_later (Some k) o xs (length steps) x ≡ is_far (gap_of k) before hang
        go None e b = ap (λ c. is_far (gap_of k) c hang) (sym b)
        go (Some v) e (inl b) =
            ap (are_apart (gap_of k) (anchor_of k xs (length steps) v)) hang-is
            ∙ apart-far (gap_of k) (anchor_of k xs (length steps) v) v hang (subst (λ o. HangsOn o v) (sym (anchor_async k xs (length steps) v b.0)) refl) ∙ ap (λ c. is_far (gap_of k) c hang) (sym b.1)
        go (Some v) e (inr b) =
            ap (are_apart (gap_of k) (anchor_of k xs (length steps) v)) hang-is
            ∙ apart-far (gap_of k) (anchor_of k xs (length steps) v) (slice_index w.marks.items id) hang
            (subst (λ o. HangsOn o (slice_index w.marks.items id)) (sym (anchor_synced k xs (length steps) v b.0 ∙ here v)) (h.marked [] alone id k its b.0 v (sym (h.lasts id) ∙ e)))
            ∙ ap (λ c. is_far (gap_of k) c hang) (sym b.1)

    period-is : is_period_later (stream_of streams id) (last_event id xs (length steps)) xs (length steps) x ≡ is_far (gap_of k) before hang
    period-is =
        ap (λ o. is_period_later o (last_event id xs (length steps)) xs (length steps) x) its
        ∙ ap (λ v. is_period_later (Some k) v xs (length steps) x) (last_event-more id steps (x ∷ more) (length steps) (omega arith) ∙ sym (h.lasts id)) ∙ far-is

    time-is : is_queued_in_time (stream_of streams id) xs (length steps) x ≡ is_timely k.jitter hang at
    time-is = ap (λ o. is_queued_in_time o xs (length steps) x) its ∙ ap (λ a. Judge.is_in_time k.jitter a at) hang-is ∙ timely k.jitter at hang

    turn-queue : broken_by tau streams until xs (length steps) x ≡ instance_rule k before hang at frame (broken_in_turn tau streams xs (length steps) (running tau xs (length steps)) x)
    turn-queue =
        let n = length steps in
        on (is_in_order until xs n x) 60 _ (in-order x order by) ∙ on (is_some (stream_of streams id)) 61 _ (ap is_some its)
        ∙ same-three (is_period_later (stream_of streams id) (last_event id xs n) xs n x) (is_far (gap_of k) before hang) (is_queued_in_time (stream_of streams id) xs n x) (is_timely k.jitter hang at) (is_of_length (stream_of streams id) x)
        (broken_in_turn tau streams xs n (running tau xs n) x) period-is time-is
        ∙ ap (λ o. cond (not (is_far (gap_of k) before hang)) (Some 62) (cond (not (is_timely k.jitter hang at)) (Some 63) (cond (not (is_of_length o x)) (Some 64) (broken_in_turn tau streams xs n (running tau xs n) x)))) its

    moment-breaks : (rule : ℕ) → BreaksThen w at rule → broken_in_turn tau streams xs (length steps) (running tau xs (length steps)) x ≡ Some rule
    moment-breaks rule (inl b) =
        let n = length steps in
        on (fits_transfer (running tau xs n) x) 65 _ (ap (λ r. fits_transfer r x) (runs-as x Idle b.0.idle)) ∙ stop (is_not_idle streams xs n (running tau xs n) at) 68 None (idle-too-long x at b.0) ∙ ap Some (sym b.1)
    moment-breaks rule (inr b) =
        stop (fits_transfer (running tau xs (length steps)) x) 65 _ (ap (λ r. fits_transfer r x) (runs-as x (Sending b.0.id b.0.end) b.0.runs) ∙ lt-false at b.0.end b.0.late) ∙ ap Some (sym b.1)

    pub breaks-queue : (next : Option ℕ) (rule : ℕ) → ((r : ℕ) → next ≡ Some r → BreaksThen w at r) → instance_rule k before hang at frame next ≡ Some rule → broken_by tau streams until xs (length steps) x ≡ Some rule
    breaks-queue next rule late is =
        turn-queue ∙ after-three (is_far (gap_of k) before hang) (is_timely k.jitter hang at) (is_of_length (Some k) x) next (broken_in_turn tau streams xs (length steps) (running tau xs (length steps)) x) rule (λ e. moment-breaks rule (late rule e)) is

-- a step that breaks a rule behind steps that break none
pub broken-there : (tau : ℕ) (streams : List Stream) (steps : List Step) (w : Watch) (x : Step) (rule from : ℕ) → HasTaken tau streams steps w → w.at ≤ from → at_of x ≤ from → Breaks w x rule
    → (until : ℕ) → from ≤ until → (more : List Step) → first_broken tau streams until ((steps ++ x ∷ []) ++ more) ≡ Some (w.taken + 1, rule)
broken-there tau streams steps w x rule from has now_by at_by breaks until by more =
    let xs = steps ++ x ∷ more in
    let le : w.at ≤ until = omega (arith, now_by, by) in
    let at_end : at_of x ≤ until = omega (arith, at_by, by) in
    let alone = awaits-none tau w.bus breaks.0 in
    let low : length steps < length xs = (let n = length-append steps (x ∷ more) in omega (arith, n)) in
    let here : broken_by tau streams until xs (length steps) (step_at xs (length steps)) ≡ Some rule = ap (broken_by tau streams until xs (length steps)) (step_at-here steps x more) ∙ breaks.1 tau streams steps has until le at_end more in
    let before : (i : ℕ) → i < length steps → broken_by tau streams until xs i (step_at xs i) ≡ None = λ i l. ap (broken_by tau streams until xs i) (step_at-more steps (x ∷ more) i l) ∙ none-broken-there tau streams w.at until steps [] (x ∷ more) le (finds-more steps (x ∷ more)) (has.knows.fine [] alone) i l in
    let number : suc (length steps) ≡ w.taken + 1 = (let n = has.numbered in omega (arith, n)) in
    ap (first_broken tau streams until) (one-more steps x more) ∙ first-at tau streams until xs (length steps) rule low before here ∙ ap (λ (n : ℕ). Some (n, rule)) number
