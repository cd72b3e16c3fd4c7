-- The SYNCs that are noted are those of the steps.
use Rattle.std.proofs.Common.{◌≡◌, ℕ, ◌+◌, ◌-◌, ◌≤◌, inl, inr, List, [], ◌∷◌, ◌++◌, length, slice_get, refl, sym, ◌∙◌, ap, subst, arith, suc, zero, Bool, true, false, cond}
use Rattle.std.specs.Prelude.{Some, ◌==◌, ◌&&◌, ◌||◌, nat_lt}
use Rattle.std.proofs.lemmas.Bool.{cases_lt}
use Rattle.cop_rta.specs.declared.streams.Stream.{Stream}
use Rattle.cop_rta.specs.Test.{sync_id}
use Rattle.cop_bus.specs.declared.steps.Step.{Step}
use Rattle.cop_bus.specs.declared.steps.Step.TheVariants.{Queue, Start, End}
use Rattle.cop_bus.specs.declared.steps.Content.{Content}
use Rattle.cop_bus.specs.Trace.{is_queue, count_to, nth_that, moment_of}
use Rattle.cop_bus.specs.Ends.{is_end, event_in, ended_by, sync_number}
use Rattle.cop_bus.proofs.Work.{lt-true, eq-true}
use Rattle.cop_bus.proofs.StepLemmas.{bool_cases, nth_that-skip, nth_that-take}
use Rattle.cop_sim.specs.declared.cues.Cue.TheVariants.{Own}
use Rattle.cop_sim.specs.Cues.{cue_after, awaited_sync, cue_by}
use Rattle.cop_sim.specs.Syncs.{SyncsValue, some_synchronous, sync_events, sync_ends, AreNoted, with_event, with_end, noted, noted_cue}

-- ---- by number

event-first : (id at event : ℕ) (frame : Content) (steps : List Step) (m : ℕ) → (id == sync_id) ≡ true → slice_get (sync_events steps) (m - 1) ≡ event_in (nth_that (is_queue sync_id) (m - 1) steps) →
    slice_get (event ∷ sync_events steps) m ≡ event_in (nth_that (is_queue sync_id) m (Queue id at event frame ∷ steps))
event-first id at event frame steps zero t h = ap event_in (sym (ap (λ b. cond b (Some (Queue id at event frame)) (nth_that (is_queue sync_id) zero steps)) t))
event-first id at event frame steps (suc m) t h = (let e : suc m - 1 ≡ m = omega arith in
    subst (λ n. slice_get (sync_events steps) n ≡ event_in (nth_that (is_queue sync_id) n steps)) e h ∙ ap event_in (sym (nth_that-take (is_queue sync_id) (Queue id at event frame) steps m t)))

event-at : (steps : List Step) (m : ℕ) → slice_get (sync_events steps) m ≡ event_in (nth_that (is_queue sync_id) m steps)
event-at [] m = refl
event-at (Queue id at event frame ∷ steps) m = elim (bool_cases (id == sync_id)) [
  | inr f ↦ ap (λ b. slice_get (cond b (event ∷ sync_events steps) (sync_events steps)) m) f ∙ event-at steps m ∙ ap event_in (sym (nth_that-skip (is_queue sync_id) (Queue id at event frame) steps m f))
  | inl t ↦ ap (λ b. slice_get (cond b (event ∷ sync_events steps) (sync_events steps)) m) t ∙ event-first id at event frame steps m t (event-at steps (m - 1))
]
event-at (Start id at ∷ steps) m = event-at steps m ∙ ap event_in (sym (nth_that-skip (is_queue sync_id) (Start id at) steps m refl))
event-at (End id at ∷ steps) m = event-at steps m ∙ ap event_in (sym (nth_that-skip (is_queue sync_id) (End id at) steps m refl))

end-first : (id at : ℕ) (steps : List Step) (m : ℕ) → (id == sync_id) ≡ true → slice_get (sync_ends steps) (m - 1) ≡ moment_of (nth_that (is_end sync_id) (m - 1) steps) →
    slice_get (at ∷ sync_ends steps) m ≡ moment_of (nth_that (is_end sync_id) m (End id at ∷ steps))
end-first id at steps zero t h = ap moment_of (sym (ap (λ b. cond b (Some (End id at)) (nth_that (is_end sync_id) zero steps)) t))
end-first id at steps (suc m) t h = (let e : suc m - 1 ≡ m = omega arith in
    subst (λ n. slice_get (sync_ends steps) n ≡ moment_of (nth_that (is_end sync_id) n steps)) e h ∙ ap moment_of (sym (nth_that-take (is_end sync_id) (End id at) steps m t)))

end-at : (steps : List Step) (m : ℕ) → slice_get (sync_ends steps) m ≡ moment_of (nth_that (is_end sync_id) m steps)
end-at [] m = refl
end-at (End id at ∷ steps) m = elim (bool_cases (id == sync_id)) [
  | inr f ↦ ap (λ b. slice_get (cond b (at ∷ sync_ends steps) (sync_ends steps)) m) f ∙ end-at steps m ∙ ap moment_of (sym (nth_that-skip (is_end sync_id) (End id at) steps m f))
  | inl t ↦ ap (λ b. slice_get (cond b (at ∷ sync_ends steps) (sync_ends steps)) m) t ∙ end-first id at steps m t (end-at steps (m - 1))
]
end-at (Start id at ∷ steps) m = end-at steps m ∙ ap moment_of (sym (nth_that-skip (is_end sync_id) (Start id at) steps m refl))
end-at (Queue id at event frame ∷ steps) m = end-at steps m ∙ ap moment_of (sym (nth_that-skip (is_end sync_id) (Queue id at event frame) steps m refl))

if-count : (b : Bool) (at n : ℕ) (xs : List ℕ) → length xs ≡ n → length (cond b (at ∷ xs) xs) ≡ cond b 1 0 + n
if-count true at n xs h = omega (arith, h)
if-count false at n xs h = omega (arith, h)

pub ends-count : (steps : List Step) → length (sync_ends steps) ≡ count_to (is_end sync_id) steps (length steps)
ends-count [] = refl
ends-count (End id at ∷ steps) = if-count (id == sync_id) at (count_to (is_end sync_id) steps (length steps)) (sync_ends steps) (ends-count steps)
ends-count (Start id at ∷ steps) = (let h = ends-count steps in omega (arith, h))
ends-count (Queue id at event frame ∷ steps) = (let h = ends-count steps in omega (arith, h))

-- ---- with one step more

events-more : (steps : List Step) (x : Step) → sync_events (steps ++ x ∷ []) ≡ sync_events steps ++ sync_events (x ∷ [])
events-more [] x = refl
events-more (Queue id at event frame ∷ steps) x = ap (λ t. cond (id == sync_id) (event ∷ t) t) (events-more steps x) ∙ go (id == sync_id)
  where
    go : (b : Bool) → cond b (event ∷ (sync_events steps ++ sync_events (x ∷ []))) (sync_events steps ++ sync_events (x ∷ [])) ≡ cond b (event ∷ sync_events steps) (sync_events steps) ++ sync_events (x ∷ [])
    go true = refl
    go false = refl
events-more (Start id at ∷ steps) x = events-more steps x
events-more (End id at ∷ steps) x = events-more steps x

ends-more : (steps : List Step) (x : Step) → sync_ends (steps ++ x ∷ []) ≡ sync_ends steps ++ sync_ends (x ∷ [])
ends-more [] x = refl
ends-more (End id at ∷ steps) x = ap (λ t. cond (id == sync_id) (at ∷ t) t) (ends-more steps x) ∙ go (id == sync_id)
  where
    go : (b : Bool) → cond b (at ∷ (sync_ends steps ++ sync_ends (x ∷ []))) (sync_ends steps ++ sync_ends (x ∷ [])) ≡ cond b (at ∷ sync_ends steps) (sync_ends steps) ++ sync_ends (x ∷ [])
    go true = refl
    go false = refl
ends-more (Start id at ∷ steps) x = ends-more steps x
ends-more (Queue id at event frame ∷ steps) x = ends-more steps x

pub nothing-more : (xs : List ℕ) → xs ++ [] ≡ xs
nothing-more [] = refl
nothing-more (y ∷ xs) = ap (λ t. y ∷ t) (nothing-more xs)

pub noted-queue : (steps : List Step) (v : SyncsValue) (id at event : ℕ) (frame : Content) → AreNoted steps v → AreNoted (steps ++ Queue id at event frame ∷ []) (with_event v id event)
noted-queue steps v id at event frame h = record {
  events = λ s. ap (λ b. cond (b && (id == sync_id)) (v.events ++ event ∷ []) v.events) s ∙ go (id == sync_id) (h.events s) ∙ sym (events-more steps (Queue id at event frame));
  ends = λ s. h.ends s ∙ sym (nothing-more (sync_ends steps)) ∙ sym (ends-more steps (Queue id at event frame));
}
  where
    go : (b : Bool) → v.events ≡ sync_events steps → cond b (v.events ++ event ∷ []) v.events ≡ sync_events steps ++ cond b (event ∷ []) []
    go true e = ap (λ t. t ++ event ∷ []) e
    go false e = e ∙ sym (nothing-more (sync_events steps))

pub noted-end : (steps : List Step) (v : SyncsValue) (id at : ℕ) → AreNoted steps v → AreNoted (steps ++ End id at ∷ []) (with_end v id at)
noted-end steps v id at h = record {
  events = λ s. h.events s ∙ sym (nothing-more (sync_events steps)) ∙ sym (events-more steps (End id at));
  ends = λ s. ap (λ b. cond (b && (id == sync_id)) (v.ends ++ at ∷ []) v.ends) s ∙ go (id == sync_id) (h.ends s) ∙ sym (ends-more steps (End id at));
}
  where
    go : (b : Bool) → v.ends ≡ sync_ends steps → cond b (v.ends ++ at ∷ []) v.ends ≡ sync_ends steps ++ cond b (at ∷ []) []
    go true e = ap (λ t. t ++ at ∷ []) e
    go false e = e ∙ sym (nothing-more (sync_ends steps))

pub noted-start : (steps : List Step) (v : SyncsValue) (id at : ℕ) → AreNoted steps v → AreNoted (steps ++ Start id at ∷ []) v
noted-start steps v id at h = record {
  events = λ s. h.events s ∙ sym (nothing-more (sync_events steps)) ∙ sym (events-more steps (Start id at));
  ends = λ s. h.ends s ∙ sym (nothing-more (sync_ends steps)) ∙ sym (ends-more steps (Start id at));
}

-- ---- what an answer waits for

pub noted-number : (steps : List Step) (v : SyncsValue) → AreNoted steps v → v.synchronous ≡ true → (a : ℕ) → noted v a ≡ sync_number steps a
noted-number steps v h s a =
    ap (λ o. ended_by o (slice_get v.ends a)) (ap (λ t. slice_get t a) (h.events s) ∙ event-at steps a)
    ∙ ap (ended_by (event_in (nth_that (is_queue sync_id) a steps))) (ap (λ t. slice_get t a) (h.ends s) ∙ end-at steps a)

-- SYNCs are noted where a stream is synchronous
pub some-there : (ks : List Stream) (i : ℕ) (k : Stream) → slice_get ks i ≡ Some k → 1 ≤ k.every → some_synchronous ks ≡ true
some-there [] i k e s = absurd (cc)
some-there (l ∷ ks) zero k e s = (let p : l ≡ k = cc in ap (λ b. b || some_synchronous ks) (lt-true 0 l.every (subst (λ (v : Stream). 1 ≤ v.every) (sym p) s)))
some-there (l ∷ ks) (suc i) k e s = ap (λ b. nat_lt 0 l.every || b) (some-there ks i k e s) ∙ or-true (nat_lt 0 l.every)
  where
    or-true : (b : Bool) → (b || true) ≡ true
    or-true true = refl
    or-true false = refl

pub noted-cue-is : (steps : List Step) (v : SyncsValue) (ks : List Stream) (i : ℕ) (k : Stream) (n : ℕ) → AreNoted steps v → v.synchronous ≡ some_synchronous ks → slice_get ks i ≡ Some k → noted_cue v k n ≡ cue_by steps k n
noted-cue-is steps v ks i k n h e there = elim (cases_lt 0 k.every) [
  | inl s ↦ ap (λ o. cond (k.every == 0) Own (cue_after o)) (noted-number steps v h (e ∙ some-there ks i k there s) (awaited_sync k n))
  | inr z ↦ (let off : (k.every == 0) ≡ true = eq-true k.every 0 (omega arith) in
      ap (λ b. cond b Own (cue_after (noted v (awaited_sync k n)))) off ∙ sym (ap (λ b. cond b Own (cue_after (sync_number steps (awaited_sync k n)))) off))
]
