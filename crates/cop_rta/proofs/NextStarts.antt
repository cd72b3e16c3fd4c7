-- Where the searches begin for the stream that is flagged next.
use Rattle.std.proofs.Common.{◌≡◌, ℕ, ◌+◌, ◌-◌, ◌*◌, ◌<◌, ◌≤◌, ◌⊎◌, inl, inr, zero, suc, Bool, List, [], ◌∷◌, ◌++◌, replicate, refl, ◌∙◌, true, false, length, get_or, set, slice_get, Option, Some, None, IfSome, IfNone, sum_by, subst, arith, ⊎_elim, zero-le}
use Rattle.std.proofs.lemmas.Bool.{cases_lt}
use Rattle.std.proofs.lemmas.List.Sums.{sum_by_push}
use Rattle.std.proofs.lemmas.Option.{slice_get_cases, unwrap_or-slice_get}
use Rattle.std.proofs.Math.Nat.{le_of_mul-le-mul_right}
use Rattle.cop_frame.specs.Rate.{ticks_of}
use Rattle.cop_rta.specs.declared.streams.Stream.{Stream}
use Rattle.cop_rta.specs.declared.paces.Pace.{Pace}
use Rattle.cop_rta.specs.declared.sweeps.Last.{Last}
use Rattle.cop_rta.specs.Paces.{IsPaceWith, IsRow, bits_in, last_time}
use Rattle.cop_rta.proofs.PaceLemmas.{load_by_pace, times_sum, bits_more}
use Rattle.cop_rta.specs.Solutions.{IsLeastSolution}
use Rattle.cop_rta.specs.Sums.{sum_where}
use Rattle.cop_rta.specs.Test.{Flagged, place_of, is_flagged, of_stream, cost_of, load_of, ahead_of, blocking, interference, cost_at, busy_at, queueing_at, IsBusyTime, horizon}
use Rattle.cop_rta.specs.TestLemmas.{busy_at-mono, queueing_at-mono}
use Rattle.cop_rta.specs.Waits.{IsBelowWait, IsBelowBusy}
use Rattle.cop_rta.specs.Placing.{Flags, place_in, busy_of, IsSharedTime, IsLast}
use Rattle.cop_rta.proofs.FlagLemmas.{sum_more, set_here, longest_less}
use Rattle.cop_rta.proofs.LeastLemmas.{least_from}
use Rattle.cop_rta.proofs.PlaceEquations.{sum_but, interference_is, blocking_is, busy_is, equations}
use Rattle.cop_rta.proofs.QueueLemmas.{cost_in_load, ticks_pos, busy_at_pos}

-- one transfer of a stream is no more than what it asks for from 1 on
cost_there : (v : Flags) (k x : ℕ) → k < length v.streams → 1 ≤ x → of_stream (cost_of v.rate) v.streams k ≤ of_stream (load_of v.rate (ahead_of v.streams v.rate) x) v.streams k
cost_there v k x inside late = go (slice_get_cases v.streams k).1
  where
    go : ((s : Stream) × (k < length v.streams) × (slice_get v.streams k ≡ Some s) × (get_or v.streams k s ≡ s)) ⊎ ((length v.streams ≤ k) × (slice_get v.streams k ≡ None)) → of_stream (cost_of v.rate) v.streams k ≤ of_stream (load_of v.rate (ahead_of v.streams v.rate) x) v.streams k
    go (inl s) = rw s.2 (cost_in_load v.rate (ahead_of v.streams v.rate) s.0 x late)
    go (inr past) = absurd (omega (arith, past.0, inside))

module _ (v : Flags) (size : length v.flags ≡ length v.streams) (last : Last) (is : IsLast v last) (own : ℕ) (in_own : own < length v.streams) (off : is_flagged v.flags own ≡ false) where
  abbrev pub more : Flags
  more = record v { flags = set v.flags own true }

  abbrev k : ℕ
  k = is.index

  within_flags : own < length v.flags
  within_flags = omega (arith, in_own, size)

  flag_own : is_flagged more.flags own ≡ true
  flag_own = set_here v.flags own within_flags

  -- one more stream asks for its load
  sum_own : (x : ℕ) → sum_where (is_flagged more.flags) (of_stream (load_of v.rate (ahead_of v.streams v.rate) x) v.streams) (length v.streams) ≡ sum_where (is_flagged v.flags) (of_stream (load_of v.rate (ahead_of v.streams v.rate) x) v.streams) (length v.streams) + of_stream (load_of v.rate (ahead_of v.streams v.rate) x) v.streams own
  sum_own x = sum_more v.flags own within_flags off (of_stream (load_of v.rate (ahead_of v.streams v.rate) x) v.streams) (length v.streams) in_own

  -- which is no less than what the longest from below loses
  grows : (y : ℕ) → 1 ≤ y → busy_of v y ≤ busy_of more y
  unfolding busy_of
  grows y late =
      omega (
        arith,
        longest_less v.flags own within_flags (of_stream (cost_of v.rate) v.streams) (length v.streams),
        cost_there v own y in_own late,
        sum_own y,
      )

  -- a number that the equation does not lead past is not below the busy time of before
  closed_later : (y : ℕ) → 1 ≤ y → busy_at (place_in more own) y ≤ y → (x : ℕ) × IsLeastSolution (busy_of v) 1 x × (x ≤ y)
  closed_later y start closed =
      let here : busy_at (place_in v k) ≡ busy_of v = equations v k is.inside is.flagged in
      let low : busy_at (place_in v k) y ≤ y = omega (arith, busy_is v k is.inside is.flagged y, grows y start, busy_is more own in_own flag_own y, closed) in
      subst (λ (f : ℕ → ℕ). (x : ℕ) × IsLeastSolution f 1 x × (x ≤ y)) here
      (least_from (busy_at (place_in v k)) 1 y (record { mono = busy_at-mono (place_in v k) }) (busy_at_pos (place_in v k) is.inside) start low)

  pub busy_later : (o : Option ℕ) → IsSharedTime v o → IfSome o (λ t. (1 ≤ t) × IsBelowBusy (place_in more own) t)
  busy_later None time = tt
  busy_later (Some t) time = (
    time.found.within,
    λ y start closed.
        let x = closed_later y start closed in
        omega (arith, x.2, time.found.least x.0 x.1.within x.1.solves),
  )

  pub long_still : (o : Option ℕ) → IsSharedTime v o → IfNone o ((t : ℕ) → IsBusyTime (place_in more own) t → horizon < t)
  long_still (Some t) time = tt
  long_still None time = λ t busy.
      let x = closed_later t busy.within (omega (arith, busy.solves)) in
      omega (arith, x.2, time.none x.0 x.1)

  -- the streams above the next one are those above this one, and this one
  above_next : (x : ℕ) → interference (place_in more own) x ≡ interference (place_in v k) x + of_stream (load_of v.rate (ahead_of v.streams v.rate) x) v.streams k
  above_next x =
      omega (arith, interference_is more own in_own flag_own x, sum_own x, interference_is v k is.inside is.flagged x)

  first_asks : (v : Flags) (k y : ℕ) → queueing_at (place_in v k) 0 y ≡ blocking (place_in v k) + interference (place_in v k) (y + ticks_of v.rate)
  unfolding queueing_at
  first_asks v k y = omega arith

  later : (w room : ℕ) → IsBelowWait (place_in v k) 0 w → blocking (place_in v k) + room ≡ blocking (place_in more own) + cost_at (place_in v k) → IsBelowWait (place_in more own) 0 (w + room)
  later w room below is_room y closed =
      let there : queueing_at (place_in more own) 0 y ≡ blocking (place_in more own) + interference (place_in more own) (y + ticks_of v.rate) = first_asks more own y in
      let here : queueing_at (place_in v k) 0 y ≡ blocking (place_in v k) + interference (place_in v k) (y + ticks_of v.rate) = first_asks v k y in
      let one : cost_at (place_in v k) ≤ of_stream (load_of v.rate (ahead_of v.streams v.rate) (y + ticks_of v.rate)) v.streams k = cost_there v k (y + ticks_of v.rate) is.inside (omega (arith, ticks_pos v.rate)) in
      let up : queueing_at (place_in v k) 0 (y - room) ≤ queueing_at (place_in v k) 0 y = queueing_at-mono (place_in v k) 0 (y - room) y (omega arith) in
      let early : w ≤ y - room = below (y - room) (omega (arith, up, here, there, one, is_room, closed, above_next (y + ticks_of v.rate))) in
      omega (arith, early, here, there, one, is_room, closed, above_next (y + ticks_of v.rate))

  pub next_wait : (from_below from : ℕ) → from_below ≡ blocking (place_in more own) → (last.from_below ≤ from_below + last.cost → from + last.from_below ≡ last.wait + (from_below + last.cost))
      → (from_below + last.cost < last.from_below → from ≡ 0) → IsBelowWait (place_in more own) 0 from
  next_wait from_below from below room none = ⊎_elim
      (λ (lt : from_below + last.cost < last.from_below). rw (none lt) (λ y closed. zero-le))
      (λ (le : last.from_below ≤ from_below + last.cost).
      let r : ℕ = from_below + last.cost - last.from_below in
      let sum : from ≡ last.wait + r = omega (arith, room le, le) in
      rw sum (later last.wait r is.wait (omega (arith, le, below, is.cost, is.longest, blocking_is v k is.inside is.flagged))))
      (cases_lt (from_below + last.cost) last.from_below)

-- and where there may be no other
module _ (v : Flags) (size : length v.flags ≡ length v.streams) (own : ℕ) (in_own : own < length v.streams) (off : is_flagged v.flags own ≡ false) where
  abbrev then : Flags
  then = record v { flags = set v.flags own true }

  pub bounds : (o : Option Last) → IfSome o (IsLast v) → IfSome o (λ last. (last.cost ≤ 66400) × (last.wait ≤ horizon))
  bounds None is = tt
  bounds (Some last) is = (is.cost_most, is.within)

  pub time_starts : (o : Option Last) → IfSome o (IsLast v) → IfSome o (λ last. IfSome last.busy (λ t. (1 ≤ t) × IsBelowBusy (place_in then own) t))
  time_starts None is = tt
  time_starts (Some last) is = busy_later v size last is own in_own off last.busy is.shared

  pub time_ends : (o : Option Last) → IfSome o (IsLast v) → IfSome o (λ last. IfNone last.busy ((t : ℕ) → IsBusyTime (place_in then own) t → horizon < t))
  time_ends None is = tt
  time_ends (Some last) is = long_still v size last is own in_own off last.busy is.shared

  pub wait_starts : (o : Option Last) → IfSome o (IsLast v) → (from_below from : ℕ) → from_below ≡ blocking (place_in then own)
      → IfSome o (λ last. last.from_below ≤ from_below + last.cost → from + last.from_below ≡ last.wait + (from_below + last.cost))
      → IfSome o (λ last. from_below + last.cost < last.from_below → from ≡ 0) → IfNone o (from ≡ 0) → IsBelowWait (place_in then own) 0 from
  wait_starts None is from_below from below room none first = rw first (λ y closed. zero-le)
  wait_starts (Some last) is from_below from below room none first = next_wait v size last is own in_own off from_below from below room none

-- the row has its pace then
pub row_more : (streams : List Stream) (ahead : ℕ) (flags : List Bool) (row : List Pace) (k : ℕ) (pace : Pace) → length flags ≡ length streams → k < length streams → ((s : Stream) → slice_get streams k ≡ Some s → IsPaceWith ahead s pace)
    → is_flagged flags k ≡ false → IsRow streams ahead flags row → IsRow streams ahead (set flags k true) (row ++ pace ∷ [])
row_more streams ahead flags row k pace size inside its off is = record {
  sums = λ rate t early.
      rw (sum_by_push (bits_in t) row pace) (omega (
        arith,
        bits_more rate ahead streams k pace inside its t early (sum_by (bits_in t) row) _ (is.sums rate t early),
        sum_more flags k (omega (arith, inside, size)) off (of_stream (load_of rate ahead t) streams) (length streams) inside,
      ));
}

off_at : (n k : ℕ) → get_or (replicate n false) k false ≡ false
off_at zero k = refl
off_at (suc n) zero = refl
off_at (suc n) (suc k) = off_at n k

sum_of_none : (p : ℕ → Bool) (f : ℕ → ℕ) (n : ℕ) → ((k : ℕ) → p k ≡ false) → sum_where p f n ≡ 0
unfolding sum_where
sum_of_none p f zero off = refl
sum_of_none p f (suc n) off = rw (off n) (omega (arith, sum_of_none p f n off))

pub no_row : (streams : List Stream) (ahead n : ℕ) → IsRow streams ahead (replicate n false) []
no_row streams ahead n = record {
  sums = λ rate t early.
      omega (arith, sum_of_none (is_flagged (replicate n false)) (of_stream (load_of rate ahead t) streams) (length streams) (λ k. unwrap_or-slice_get (replicate n false) k false ∙ off_at n k));
}

without : (total own ticks others : ℕ) → 0 < ticks → total * ticks ≡ others + own * ticks → (own ≤ total) × ((total - own) * ticks ≡ others)
without total own ticks others pos e =
    let le : own ≤ total = le_of_mul-le-mul_right {m = own} {n = total} {k = ticks} (omega (arith, e)) pos in
    let back : total - own + own ≡ total = omega (arith, le) in
    (le, omega (arith, e, rw back at (times_sum (total - own) own ticks)))

-- the bits of a row without those of one stream are what those above it take
pub row_is : (f : Flagged) (row : List Pace) (pace : Pace) → f.index < length f.streams → ((s : Stream) → slice_get f.streams f.index ≡ Some s → IsPaceWith f.ahead s pace) → is_flagged f.flags f.index ≡ true → IsRow f.streams f.ahead f.flags row
    → (t total bits : ℕ) → t ≤ last_time → total ≡ sum_by (bits_in t) row → bits ≡ bits_in t pace → (bits ≤ total) × ((total - bits) * ticks_of f.rate ≡ interference (place_of f) t)
row_is f row pace inside its flag is t total bits early all mine =
    let load : ℕ → ℕ = of_stream (load_of f.rate f.ahead t) f.streams in
    without total bits (ticks_of f.rate) (interference (place_of f) t) (ticks_pos f.rate)
    (rw (all, mine) (omega (arith, is.sums f.rate t early, load_by_pace f.rate f.ahead f.streams f.index pace inside its t early, sum_but (is_flagged f.flags) load f.index (length f.streams) flag inside)))
