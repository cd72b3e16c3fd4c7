-- What is kept of the streams above at a place.
use Rattle.std.proofs.Common.{◌≡◌, ℕ, zero, suc, ◌+◌, ◌-◌, ◌<◌, ◌≤◌, ◌⊎◌, inl, inr, max, Bool, true, false, not, map, ◌&&◌, ◌==◌, if◌then◌else◌, List, length, get_or, set, slice_get, Option, Some, None, IfSome, IfNone, refl, sym, ap, ◌∙◌, subst, arith, zero-le}
use Rattle.std.specs.Option.{option_map_or}
use Rattle.std.proofs.lemmas.Bool.{cases_eq, eq-eqb, ne_eqb}
use Rattle.std.proofs.lemmas.List.{map-set, get_or-set_same, get_or-set_other}
use Rattle.std.proofs.lemmas.Option.{slice_get_cases, unwrap_or-slice_get}
use Rattle.cop_frame.specs.Rate.{ticks_of}
use Rattle.cop_rta.specs.declared.streams.Stream.{Stream}
use Rattle.cop_rta.specs.Sums.{sum_where, max_where}
use Rattle.cop_rta.specs.SumsLemmas.{sum_where-mono}
use Rattle.cop_rta.specs.Solutions.{IsLeastSolution}
use Rattle.cop_rta.specs.Test.{is_flagged, is_above, of_stream, cost_of, cost_at, load_of, ahead_of, interference, busy_at, queueing_at, IsBusyTime, horizon}
use Rattle.cop_rta.specs.Waits.{IsBelowWait, IsBelowBusy}
use Rattle.cop_rta.specs.Placing.{Flags, place_in, busy_of, is_unflagged, longest_of, once_each, IsSharedTime}
use Rattle.cop_rta.proofs.PlaceEquations.{but, sum_but, busy_is, blocking_is, equations}
use Rattle.cop_rta.proofs.QueueLemmas.{cost_in_load, cost_pos, ticks_pos}

-- one transfer of a stream is no more than what it asks for from 1 on
load_more : (v : Flags) (x k : ℕ) → 1 ≤ x → of_stream (cost_of v.rate) v.streams k ≤ of_stream (load_of v.rate (ahead_of v.streams v.rate) x) v.streams k
load_more v x k late = go (slice_get v.streams k)
  where
    go : (o : Option Stream) → option_map_or (cost_of v.rate) o 0 ≤ option_map_or (load_of v.rate (ahead_of v.streams v.rate) x) o 0
    go None = zero-le
    go (Some s) = cost_in_load v.rate (ahead_of v.streams v.rate) s x late

module _ (v : Flags) (own : ℕ) (inside : own < length v.streams) (flag : is_flagged v.flags own ≡ true) where
  -- so the busy time is no less than one transfer of each, after the longest from below
  pub busy_from : IsBelowBusy (place_in v own) (longest_of v + once_each v)
  unfolding busy_of
  busy_from y late closed =
      let more : once_each v ≤ sum_where (is_flagged v.flags) (of_stream (load_of v.rate (ahead_of v.streams v.rate) y) v.streams) (length v.streams) =
      sum_where-mono (is_flagged v.flags) (of_stream (cost_of v.rate) v.streams) (of_stream (load_of v.rate (ahead_of v.streams v.rate) y) v.streams) (length v.streams) (λ k. load_more v y k late) in
      omega (arith, more, closed, busy_is v own inside flag y)

  -- one transfer of each of the others
  pub others_once : once_each v ≡ sum_where (is_above (place_in v own)) (of_stream (cost_of v.rate) v.streams) (length v.streams) + cost_at (place_in v own)
  others_once = sum_but (is_flagged v.flags) (of_stream (cost_of v.rate) v.streams) own (length v.streams) flag inside

  -- which is where the first wait may be sought from
  pub wait_from_sums : (from : ℕ) → from ≡ longest_of v + (once_each v - cost_at (place_in v own)) → IsBelowWait (place_in v own) 0 from
  unfolding queueing_at
  wait_from_sums from is y closed =
      let more : sum_where (is_above (place_in v own)) (of_stream (cost_of v.rate) v.streams) (length v.streams) ≤ interference (place_in v own) (y + ticks_of v.rate) =
      sum_where-mono (is_above (place_in v own)) (of_stream (cost_of v.rate) v.streams) (of_stream (load_of v.rate (ahead_of v.streams v.rate) (y + ticks_of v.rate)) v.streams) (length v.streams) (λ k. load_more v (y + ticks_of v.rate) k (omega (arith, ticks_pos v.rate))) in
      omega (arith, is, more, closed, others_once, blocking_is v own inside flag)

  pub cost_pos_at : 1 ≤ cost_at (place_in v own)
  cost_pos_at = go (slice_get_cases v.streams own).1
    where
      go : ((s : Stream) × (own < length v.streams) × (slice_get v.streams own ≡ Some s) × (get_or v.streams own s ≡ s)) ⊎ ((length v.streams ≤ own) × (slice_get v.streams own ≡ None)) → 1 ≤ cost_at (place_in v own)
      go (inl s) = rw s.2 (cost_pos v.rate s.0)
      go (inr past) = absurd (omega (arith, past.0, inside))

  here : busy_at (place_in v own) ≡ busy_of v
  here = equations v own inside flag

  -- what one of them finds is the time of all
  pub shared_of : (o : Option ℕ) → IfSome o (IsBusyTime (place_in v own)) → IfSome o (λ t. t ≤ horizon) → IfNone o ((t : ℕ) → IsBusyTime (place_in v own) t → horizon < t) → IsSharedTime v o
  shared_of None found within none = record {
    found = tt;
    within = tt;
    none = λ t least. none t (subst (λ (f : ℕ → ℕ). IsLeastSolution f 1 t) (sym here) least);
  }
  shared_of (Some t) found within none = record {
    found = subst (λ (f : ℕ → ℕ). IsLeastSolution f 1 t) here found;
    within = within;
    none = tt;
  }

  pub found_here : (o : Option ℕ) → IsSharedTime v o → IfSome o (IsBusyTime (place_in v own))
  found_here None is = tt
  found_here (Some t) is = subst (λ (f : ℕ → ℕ). IsLeastSolution f 1 t) (sym here) is.found

  pub none_here : (o : Option ℕ) → IsSharedTime v o → IfNone o ((t : ℕ) → IsBusyTime (place_in v own) t → horizon < t)
  none_here (Some t) is = tt
  none_here None is = λ t busy. is.none t (subst (λ (f : ℕ → ℕ). IsLeastSolution f 1 t) here busy)

-- ---- one more stream below

pub turned : (flags : List Bool) (i : ℕ) → map not (set flags i true) ≡ set (map not flags) i false
turned flags i = map-set not flags i true

module _ (flags : List Bool) (own : ℕ) (inside : own < length flags) where
  gone_here : is_flagged (set flags own false) own ≡ false
  gone_here = unwrap_or-slice_get (set flags own false) own false ∙ get_or-set_same flags own false false inside

  gone_apart : (k : ℕ) → (k ≡ own → ⊥) → is_flagged (set flags own false) k ≡ is_flagged flags k
  gone_apart k apart =
      unwrap_or-slice_get (set flags own false) k false ∙ get_or-set_other flags own k false false apart ∙ sym (unwrap_or-slice_get flags k false)

  but_gone : (k : ℕ) → but (is_flagged flags) own k ≡ is_flagged (set flags own false) k
  but_gone k = go (cases_eq k own)
    where
      go : (k ≡ own) ⊎ (k ≡ own → ⊥) → (not (k == own) && is_flagged flags k) ≡ is_flagged (set flags own false) k
      go (inl e) = rw (e, eq-eqb own own refl) (sym gone_here)
      go (inr apart) = rw (ne_eqb k own apart) (sym (gone_apart k apart))

  -- a sum has one number less
  pub sum_less : (f : ℕ → ℕ) (n : ℕ) → is_flagged flags own ≡ true → own < n → sum_where (is_flagged flags) f n ≡ sum_where (is_flagged (set flags own false)) f n + f own
  sum_less f n on within =
      let same : but (is_flagged flags) own ≡ is_flagged (set flags own false) = λ i k. but_gone k i in
      sum_but (is_flagged flags) f own n on within ∙ ap (λ (p : ℕ → Bool). sum_where p f n + f own) same

  -- the greatest of what is below is that of before, or this one
  pub longest_with : (f : ℕ → ℕ) (n : ℕ) → own < n → max_where (is_unflagged (set flags own false)) f n ≡ max (max_where (is_unflagged flags) f n) (f own)
  unfolding max_where
  longest_with f zero within = absurd (omega (arith, within))
  longest_with f (suc n) within = go (cases_eq n own) (λ lt. longest_with f n lt)
    where
      before_own : (m : ℕ) → m ≤ own → max_where (is_unflagged (set flags own false)) f m ≡ max_where (is_unflagged flags) f m
      before_own zero low = refl
      before_own (suc m) low = rw (gone_apart m (λ e. omega (arith, e, low)), before_own m (omega (arith, low))) refl

      on_or_off : (b : Bool) (c m : ℕ) → max m c ≡ max (max m (if b then c else 0)) c
      on_or_off true c m = omega arith
      on_or_off false c m = omega arith

      go : (n ≡ own) ⊎ (n ≡ own → ⊥) → (own < n → max_where (is_unflagged (set flags own false)) f n ≡ max (max_where (is_unflagged flags) f n) (f own))
          → max (max_where (is_unflagged (set flags own false)) f n) (if not (is_flagged (set flags own false) n) then f n else 0)
          ≡ max (max (max_where (is_unflagged flags) f n) (if not (is_flagged flags n) then f n else 0)) (f own)
      go (inl e) before =
          let off : is_flagged (set flags own false) n ≡ false = ap (λ (k : ℕ). is_flagged (set flags own false) k) e ∙ gone_here in
          let here : f n ≡ f own = ap f e in
          let low : max_where (is_unflagged (set flags own false)) f n ≡ max_where (is_unflagged flags) f n = before_own n (omega (arith, e)) in
          rw (off, low, ← here) (on_or_off (not (is_flagged flags n)) (f n) (max_where (is_unflagged flags) f n))
      go (inr apart) before =
          rw (gone_apart n apart, before (omega (arith, within, apart))) (omega arith)

module _ (v : Flags) (own : ℕ) (inside : own < length v.streams) (size : length v.flags ≡ length v.streams) where
  abbrev pub fewer : Flags
  fewer = record v { flags = set v.flags own false }

  pub longest_then : (b : ℕ) → b ≡ longest_of v → max b (cost_at (place_in v own)) ≡ longest_of fewer
  longest_then b is =
      rw is (sym (longest_with v.flags own (omega (arith, inside, size)) (of_stream (cost_of v.rate) v.streams) (length v.streams) inside))

  pub costs_then : is_flagged v.flags own ≡ true → (c : ℕ) → c ≡ once_each v → c - cost_at (place_in v own) ≡ once_each fewer
  costs_then flag c is =
      omega (arith, is, sum_less v.flags own (omega (arith, inside, size)) (of_stream (cost_of v.rate) v.streams) (length v.streams) flag inside)
