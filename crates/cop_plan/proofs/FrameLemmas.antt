-- Of the SDO frames with deadlines that fail, the one with the lowest identifier, as they are gone through.
use Rattle.std.proofs.Common.{◌≡◌, ◌↔◌, ℕ, ◌+◌, ◌<◌, ◌≤◌, ◌⊎◌, inl, inr, Bool, true, false, nat_lt, List, length, get_or, Option, Some, None, MatchOption, IsTrue, sym, ◌∙◌, arith, subst, le_refl}
use Rattle.std.proofs.lemmas.Bool.{cases_lt, ltb-true, ltb-false}
use Rattle.cop_frame.specs.declared.rates.Rate.{Rate}
use Rattle.cop_rta.specs.declared.streams.Stream.{Stream}
use Rattle.cop_rta.specs.Test.{StreamPlace, Passes, flagged_place, is_flagged}
use Rattle.cop_cert.specs.Assignments.{id_at, IsTested}
use Rattle.cop_cert.specs.Causes.{PassesBelow}
use Rattle.cop_cert.specs.Sets.{is_in_trial}
use Rattle.cop_cert.proofs.CheckLemmas.{place_is, frame_flags}
use Rattle.cop_plan.specs.Orders.{FramesPass}
use Rattle.cop_plan.proofs.FillingLemmas.{no_bit}
use Rattle.cop_plan.proofs.RangeFlagLemmas.{trial_flags}

-- all frames below an index pass
pub record PassSoFar (rate : Rate) (streams : List Stream) (pdos : ℕ) (above : ℕ → Bool) (n : ℕ) : Type 0 where
  pub each : (f : ℕ) → f < n → IsTested streams pdos f → PassesBelow rate streams pdos above f

-- of those below an index that fail this has the lowest identifier
pub record IsLowestSoFar (rate : Rate) (streams : List Stream) (pdos : ℕ) (above : ℕ → Bool) (n frame : ℕ) : Type 0 where
  pub tested : IsTested streams pdos frame
  pub fails : PassesBelow rate streams pdos above frame → ⊥
  pub lowest : (f : ℕ) → f < n → IsTested streams pdos f → (PassesBelow rate streams pdos above f → ⊥) → id_at streams frame ≤ id_at streams f

module _ (rate : Rate) (streams : List Stream) (pdos : ℕ) (above : ℕ → Bool) where
  pub none_yet : PassSoFar rate streams pdos above pdos
  none_yet = record { each = λ f low tested. absurd (let t = tested.fixed in omega (arith, low, t)) }

  -- the next one is no such frame, or it passes
  pub passes_on : (n : ℕ) → (IsTested streams pdos n → PassesBelow rate streams pdos above n) → PassSoFar rate streams pdos above n → PassSoFar rate streams pdos above (n + 1)
  passes_on n here so_far = record { each = λ f low tested. go f low tested (cases_lt f n) }
    where
      go : (f : ℕ) → f < n + 1 → IsTested streams pdos f → (f < n) ⊎ (n ≤ f) → PassesBelow rate streams pdos above f
      go f low tested (inl below) = so_far.each f below tested
      go f low tested (inr last) = let same : n ≡ f = omega (arith, low, last) in subst (λ (k : ℕ). IsTested streams pdos k → PassesBelow rate streams pdos above k) same here tested

  pub stays_lowest : (n frame : ℕ) → (IsTested streams pdos n → (PassesBelow rate streams pdos above n → ⊥) → id_at streams frame ≤ id_at streams n) → IsLowestSoFar rate streams pdos above n frame
      → IsLowestSoFar rate streams pdos above (n + 1) frame
  stays_lowest n frame here so_far = record { tested = so_far.tested; fails = so_far.fails; lowest = λ f low tested fails. go f low tested fails (cases_lt f n) }
    where
      go : (f : ℕ) → f < n + 1 → IsTested streams pdos f → (PassesBelow rate streams pdos above f → ⊥) → (f < n) ⊎ (n ≤ f) → id_at streams frame ≤ id_at streams f
      go f low tested fails (inl below) = so_far.lowest f below tested fails
      go f low tested fails (inr last) =
          let same : n ≡ f = omega (arith, low, last) in
          subst (λ (k : ℕ). IsTested streams pdos k → (PassesBelow rate streams pdos above k → ⊥) → id_at streams frame ≤ id_at streams k) same here tested fails

  -- the next one fails, and is lower than all before that fail
  pub new_lowest : (n : ℕ) → IsTested streams pdos n → (PassesBelow rate streams pdos above n → ⊥)
      → ((f : ℕ) → f < n → IsTested streams pdos f → (PassesBelow rate streams pdos above f → ⊥) → id_at streams n ≤ id_at streams f) → IsLowestSoFar rate streams pdos above (n + 1) n
  new_lowest n tested fails lower = record { tested = tested; fails = fails; lowest = λ f low its not. go f low its not (cases_lt f n) }
    where
      go : (f : ℕ) → f < n + 1 → IsTested streams pdos f → (PassesBelow rate streams pdos above f → ⊥) → (f < n) ⊎ (n ≤ f) → id_at streams n ≤ id_at streams f
      go f low its not (inl below) = lower f below its not
      go f low its not (inr last) = let same : n ≡ f = omega (arith, low, last) in subst (λ (k : ℕ). id_at streams n ≤ id_at streams k) same (le_refl (id_at streams n))

  -- all are gone through
  pub all_pass : (n : ℕ) → length streams ≤ n → PassSoFar rate streams pdos above n → FramesPass rate streams pdos above
  all_pass n past so_far f tested = so_far.each f (let i = tested.inside in omega (arith, past, i)) tested

  -- the next frame is no such frame or passes; or it fails, and is not lower; or it fails and is lower than all before
  pub next_passes : (n : ℕ) (lowest : Option ℕ) → (IsTested streams pdos n → PassesBelow rate streams pdos above n)
      → MatchOption lowest (PassSoFar rate streams pdos above n) (IsLowestSoFar rate streams pdos above n)
      → MatchOption lowest (PassSoFar rate streams pdos above (n + 1)) (IsLowestSoFar rate streams pdos above (n + 1))
  next_passes n None here so_far = passes_on n here so_far
  next_passes n (Some frame) here so_far = stays_lowest n frame (λ tested fails. absurd (fails (here tested))) so_far

  pub next_is_above : (n : ℕ) (lowest : Option ℕ) (lower : Bool) → MatchOption lowest (lower ≡ true) (λ f. lower ≡ nat_lt (id_at streams n) (id_at streams f)) → lower ≡ false
      → MatchOption lowest (PassSoFar rate streams pdos above n) (IsLowestSoFar rate streams pdos above n)
      → MatchOption lowest (PassSoFar rate streams pdos above (n + 1)) (IsLowestSoFar rate streams pdos above (n + 1))
  next_is_above n None lower is not_so so_far = absurd (no_bit lower is not_so)
  next_is_above n (Some frame) lower is not_so so_far = stays_lowest n frame (λ tested fails. ltb-false (id_at streams n) (id_at streams frame) (sym is ∙ not_so)) so_far

  pub next_is_lowest : (n : ℕ) (lowest : Option ℕ) (lower : Bool) → IsTested streams pdos n → (PassesBelow rate streams pdos above n → ⊥)
      → MatchOption lowest (lower ≡ true) (λ f. lower ≡ nat_lt (id_at streams n) (id_at streams f)) → lower ≡ true
      → MatchOption lowest (PassSoFar rate streams pdos above n) (IsLowestSoFar rate streams pdos above n)
      → IsLowestSoFar rate streams pdos above (n + 1) n
  next_is_lowest n None lower tested fails is so so_far = new_lowest n tested fails (λ f low its failing. absurd (failing (so_far.each f low its)))
  next_is_lowest n (Some frame) lower tested fails is so so_far =
      new_lowest n tested fails
      (λ f low its failing. let below = ltb-true (id_at streams n) (id_at streams frame) (sym is ∙ so) in omega (arith, below, so_far.lowest f low its failing))

-- whether a frame passes, by flags that are its trial's as far as there are streams
pub passes_iff : (rate : Rate) (streams : List Stream) (frame : ℕ) (d : Stream) (kept out : List Bool) (b : Bool) → length kept ≤ length streams → frame < length streams → length out ≡ length streams
    → ((k : ℕ) → k < length streams → is_flagged out k ≡ is_in_trial (get_or streams frame d).id streams (length kept) (is_flagged kept) k)
    → (IsTrue b ↔ Passes (flagged_place streams out frame rate)) → IsTrue b ↔ PassesBelow rate streams (length kept) (is_flagged kept) frame
passes_iff rate streams frame d kept out b few inside long each tells =
    let whole : (k : ℕ) → is_flagged out k ≡ is_in_trial (get_or streams frame d).id streams (length kept) (is_flagged kept) k =
    λ k. trial_flags (get_or streams frame d).id streams kept few out long each k in
    subst (λ (p : StreamPlace). IsTrue b ↔ Passes p)
    (place_is rate streams out (is_in_trial (id_at streams frame) streams (length kept) (is_flagged kept)) frame (frame_flags streams (length kept) frame d out (is_flagged kept) inside whole)) tells
