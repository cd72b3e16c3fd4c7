-- The response-time test over lists of the streams above and below, and that a stream that passes meets it.
use Rattle.std.proofs.Common.{◌≡◌, ◌∙◌, ℕ, zero, suc, ◌+◌, ◌-◌, ◌*◌, ◌≤◌, ◌<◌, max, List, [], ◌∷◌, length, refl, sym, ap, subst, arith, le_trans, le_of_eq, Bool, true, false, cond, not, ◌==◌, ◌&&◌, if◌then◌else◌}
use Rattle.std.specs.Prelude.{filter, nat_lt, slice_get, Option, Some}
use Rattle.std.specs.Option.{ForSome, option_map_or}
use Rattle.std.specs.Int.{div_ceil}
use Rattle.std.proofs.lemmas.Bool.Decides.{nat_tests}
use Rattle.cop_frame.specs.Lengths.{worst_bits}
use Rattle.cop_frame.specs.declared.rates.Rate.{Rate}
use Rattle.cop_frame.specs.Rate.{ticks_of}
use Rattle.cop_rta.specs.declared.streams.Stream.{Stream}
use Rattle.cop_rta.specs.Sums.{sum_where, max_where}
use Rattle.cop_rta.specs.Test.{StreamPlace, place_by_id, of_stream, cost_of, has_lower_id, is_above, is_below, blocking as blocking_at, IsResponse, period_at, cost_at, sync_place, jitter_of, busy_at, queueing_at}
use Rattle.cop_rta.specs.Jittered.{PassesWith, IsResponseBy, IsQueuedIn, load_by, jitter_by, interference_by, busy_by, queueing_by}
use Rattle.cop_rta.specs.Greatest.{HasGreatest}
use Rattle.cop_bus.proofs.Totals.{total}

-- the longest transfer of a stream, at tau ticks a bit
abbrev pub longest : ℕ → Stream → ℕ
longest tau k = worst_bits k.bytes * tau

-- the greatest of the longest transfers, 0 if there is none
abbrev pub blocking : ℕ → List Stream → ℕ
blocking tau [] = 0
blocking tau (k ∷ ks) = max (longest tau k) (blocking tau ks)

-- how long the transfers of the instances that can be queued within a span take at most
abbrev pub load : (Stream → ℕ) → ℕ → ℕ → Stream → ℕ
load J tau span k = div_ceil (span + J k) k.period * longest tau k

-- the busy equation's value at t, for m with these streams above and below it
abbrev pub busy_value : (Stream → ℕ) → ℕ → List Stream → List Stream → Stream → ℕ → ℕ
busy_value J tau above below m t = blocking tau below + load J tau t m + total (load J tau t) above

-- the queueing equation's value at w for instance number q
abbrev pub queue_value : (Stream → ℕ) → ℕ → List Stream → List Stream → Stream → ℕ → ℕ → ℕ
queue_value J tau above below m q w =
    blocking tau below + q * longest tau m + total (load J tau (w + tau)) above

-- m, due so long after its events, meets the test with these streams above and below it
pub record Meets (J : Stream → ℕ) (tau : ℕ) (above below : List Stream) (m : Stream) (due : Option ℕ) : Type 0 where
  pub busy : ℕ
  pub from_on : 1 ≤ busy
  pub closed : busy_value J tau above below m busy ≤ busy
  pub in_time : (q : ℕ) → q * m.period < busy + J m →
      (w : ℕ) × (queue_value J tau above below m q w ≤ w) × ForSome due (λ d. J m + w + longest tau m ≤ d + q * m.period)

-- a sum, or a maximum, over indexes, with the first one apart
first_of_sum : (P : ℕ → Bool) (F : ℕ → ℕ) (n : ℕ) → sum_where P F (suc n) ≡ (if P 0 then F 0 else 0) + sum_where (λ k. P (suc k)) (λ k. F (suc k)) n
unfolding sum_where
first_of_sum P F zero = omega arith
first_of_sum P F (suc n) = let r = first_of_sum P F n in omega (arith, r)

first_of_max : (P : ℕ → Bool) (F : ℕ → ℕ) (n : ℕ) → max_where P F (suc n) ≡ max (if P 0 then F 0 else 0) (max_where (λ k. P (suc k)) (λ k. F (suc k)) n)
unfolding max_where
first_of_max P F zero = omega arith
first_of_max P F (suc n) = let r = first_of_max P F n in omega (arith, r)

-- each stream that passes p passes P at its index, where F is no less
abbrev Counts : (Stream → Bool) → (Stream → ℕ) → List Stream → (ℕ → Bool) → (ℕ → ℕ) → Type 0
Counts p f xs P F = (k : ℕ) (s : Stream) → slice_get xs k ≡ Some s → p s ≡ true → (P k ≡ true) × (f s ≤ F k)

filter_sum : (p : Stream → Bool) (f : Stream → ℕ) (xs : List Stream) (P : ℕ → Bool) (F : ℕ → ℕ) → Counts p f xs P F → total f (filter p xs) ≤ sum_where P F (length xs)
filter_sum p f [] P F h = omega arith
filter_sum p f (x ∷ xs) P F h =
    let r = filter_sum p f xs (λ k. P (suc k)) (λ k. F (suc k)) (λ k s e. h (suc k) s e) in
    let e = first_of_sum P F (length xs) in
    go (p x) refl r e
  where
    go : (b : Bool) → p x ≡ b → total f (filter p xs) ≤ sum_where (λ k. P (suc k)) (λ k. F (suc k)) (length xs) →
        sum_where P F (suc (length xs)) ≡ (if P 0 then F 0 else 0) + sum_where (λ k. P (suc k)) (λ k. F (suc k)) (length xs) →
        total f (cond b (x ∷ filter p xs) (filter p xs)) ≤ sum_where P F (suc (length xs))
    go false b r e = omega arith
    go true b r e =
        let w = h 0 x refl b in
        let t : (if P 0 then F 0 else 0) ≡ F 0 = ap (λ c. if c then F 0 else 0) w.0 in
        omega (arith, r, e, w.1, t)

filter_max : (p : Stream → Bool) (tau : ℕ) (xs : List Stream) (P : ℕ → Bool) (F : ℕ → ℕ) → Counts p (longest tau) xs P F → blocking tau (filter p xs) ≤ max_where P F (length xs)
filter_max p tau [] P F h = omega arith
filter_max p tau (x ∷ xs) P F h =
    let r = filter_max p tau xs (λ k. P (suc k)) (λ k. F (suc k)) (λ k s e. h (suc k) s e) in
    let e = first_of_max P F (length xs) in
    go (p x) refl r e
  where
    go : (b : Bool) → p x ≡ b → blocking tau (filter p xs) ≤ max_where (λ k. P (suc k)) (λ k. F (suc k)) (length xs) →
        max_where P F (suc (length xs)) ≡ max (if P 0 then F 0 else 0) (max_where (λ k. P (suc k)) (λ k. F (suc k)) (length xs)) →
        blocking tau (cond b (x ∷ filter p xs) (filter p xs)) ≤ max_where P F (suc (length xs))
    go false b r e = omega arith
    go true b r e =
        let w = h 0 x refl b in
        let t : (if P 0 then F 0 else 0) ≡ F 0 = ap (λ c. if c then F 0 else 0) w.0 in
        omega (arith, r, e, w.1, t)

same_index : (streams : List Stream) (j k : ℕ) (s t : Stream) → slice_get streams j ≡ Some s → slice_get streams k ≡ Some t → (j ≡ k) → s ≡ t
same_index streams j k s t e f same = cc

others : (j k : ℕ) → (j ≡ k → ⊥) → (j == k) ≡ false
others j k h = grind (arith, nat_tests)

module _ (J : Stream → ℕ) (streams : List Stream) (index : ℕ) (rate : Rate) (m : Stream) (its : slice_get streams index ≡ Some m) where
  abbrev place : StreamPlace
  place = place_by_id streams index rate

  abbrev pub above : List Stream
  above = filter (λ k. nat_lt k.id m.id) streams

  abbrev pub below : List Stream
  below = filter (λ k. nat_lt m.id k.id) streams

  at_index : (f : Stream → ℕ) → of_stream f streams index ≡ f m
  at_index f = ap (λ o. option_map_or f o 0) its

  at_place : (f : Stream → ℕ) (k : ℕ) (s : Stream) → slice_get streams k ≡ Some s → of_stream f streams k ≡ f s
  at_place f k s e = ap (λ o. option_map_or f o 0) e

  lower_at : (k : ℕ) (s : Stream) → slice_get streams k ≡ Some s → has_lower_id streams index k ≡ nat_lt s.id m.id
  lower_at k s e = ap (λ o. option_map_or (λ s. nat_lt s.id (of_stream (λ s. s.id) streams index)) o false) e ∙ ap (λ n. nat_lt s.id n) (at_index (λ s. s.id))

  not_own : (k : ℕ) (s : Stream) → slice_get streams k ≡ Some s → (s.id ≡ m.id → ⊥) → (k == index) ≡ false
  not_own k s e d = others k index (λ j. d (ap (λ s. s.id) (same_index streams k index s m e its j)))

  above_counts : (t k : ℕ) (s : Stream) → slice_get streams k ≡ Some s → nat_lt s.id m.id ≡ true → (is_above place k ≡ true) × (load J (ticks_of rate) t s ≤ of_stream (load_by J rate t) streams k)
  above_counts t k s e lower = (
    (let a = not_own k s e (λ j. lower_differs s.id m.id lower j) in let b = lower_at k s e in both (k == index) (has_lower_id streams index k) a (b ∙ lower)),
    (let c = at_place (load_by J rate t) k s e in omega (arith, c)),
  )
    where
      lower_differs : (a b : ℕ) → nat_lt a b ≡ true → a ≡ b → ⊥
      lower_differs a b h j = grind (arith, nat_tests)

      both : (x y : Bool) → x ≡ false → y ≡ true → (not x && y) ≡ true
      both x y a b = rw (a, b) refl

  below_counts : (k : ℕ) (s : Stream) → slice_get streams k ≡ Some s → nat_lt m.id s.id ≡ true → (is_below place k ≡ true) × (longest (ticks_of rate) s ≤ of_stream (cost_of rate) streams k)
  below_counts k s e higher = (
    (let a = not_own k s e (λ j. higher_differs m.id s.id higher j) in let b = lower_at k s e in both (k == index) (has_lower_id streams index k) a (b ∙ not_lower s.id m.id higher)),
    (let c = at_place (cost_of rate) k s e in omega (arith, c)),
  )
    where
      higher_differs : (a b : ℕ) → nat_lt a b ≡ true → b ≡ a → ⊥
      higher_differs a b h j = grind (arith, nat_tests)

      not_lower : (a b : ℕ) → nat_lt b a ≡ true → nat_lt a b ≡ false
      not_lower a b h = grind (arith, nat_tests)

      both : (x y : Bool) → x ≡ false → y ≡ false → (not x && not y) ≡ true
      both x y a b = rw (a, b) refl

  sums : (t : ℕ) → total (load J (ticks_of rate) t) above ≤ interference_by J place t
  sums t = filter_sum (λ k. nat_lt k.id m.id) (load J (ticks_of rate) t) streams (is_above place) (of_stream (load_by J rate t) streams) (above_counts t)

  blocks : blocking (ticks_of rate) below ≤ blocking_at place
  blocks = filter_max (λ k. nat_lt m.id k.id) (ticks_of rate) streams (is_below place) (of_stream (cost_of rate) streams) below_counts

  pub busy_less : (t : ℕ) → busy_value J (ticks_of rate) above below m t ≤ busy_by J place t
  unfolding busy_by
  busy_less t = let a = sums t in let c = at_index (load_by J rate t) in omega (arith, a, blocks, c)

  pub queue_less : (q w : ℕ) → queue_value J (ticks_of rate) above below m q w ≤ queueing_by J place q w
  unfolding queueing_by
  queue_less q w = let a = sums (w + ticks_of rate) in let c = ap (λ n. q * n) (at_index (cost_of rate)) in omega (arith, a, blocks, c)

  queued : (q t : ℕ) → q * m.period < t + J m → IsQueuedIn J place t q
  queued q t h = subst (λ n. q * n < t + jitter_by J place) (sym (at_index (λ s. s.period))) (subst (λ n. q * m.period < t + n) (sym (at_index J)) h)

  fits : (q w r d : ℕ) → r ≡ jitter_by J place + w + cost_at place - q * period_at place → r ≤ d → J m + w + longest (ticks_of rate) m ≤ d + q * m.period
  fits q w r d e h =
      let a = at_index J in
      let b = at_index (cost_of rate) in
      let c = ap (λ n. q * n) (at_index (λ s. s.period)) in
      omega (arith, e, h, a, b, c)

  pub meets : PassesWith J place → Meets J (ticks_of rate) above below m m.deadline
  meets passes = record {
    busy = passes.time;
    from_on = passes.busy.within;
    closed = le_trans (busy_less passes.time) (le_of_eq (sym passes.busy.solves));
    in_time = λ q small.
        let r = passes.on_time q (queued q passes.time small) in
        let v : IsResponseBy J place q r.0 = r.1 in
        (v.wait, le_trans (queue_less q v.wait) (le_of_eq (sym v.queueing.solves)), λ d e. fits q v.wait r.0 d v.response (r.2 d (rw its e)));
  }

-- with its greatest response as its deadline SYNC meets the test
module _ (streams : List Stream) (index : ℕ) (rate : Rate) (m : Stream) (its : slice_get streams index ≡ Some m) where
  busy_is : (t : ℕ) → busy_by (jitter_of 0) (place_by_id streams index rate) t ≡ busy_at (sync_place streams rate index) t
  unfolding busy_by busy_at
  busy_is t = refl

  queueing_is : (q w : ℕ) → queueing_by (jitter_of 0) (place_by_id streams index rate) q w ≡ queueing_at (sync_place streams rate index) q w
  unfolding queueing_by queueing_at
  queueing_is q w = refl

  pub meets_greatest : (r : ℕ) → HasGreatest (sync_place streams rate index) r → Meets (jitter_of 0) (ticks_of rate) (filter (λ k. nat_lt k.id m.id) streams) (filter (λ k. nat_lt m.id k.id) streams) m (Some r)
  meets_greatest r has = record {
    busy = has.time;
    from_on = has.busy.within;
    closed = le_trans (busy_less (jitter_of 0) streams index rate m its has.time) (le_of_eq (busy_is has.time ∙ sym has.busy.solves));
    in_time = λ q small.
        let v = has.each q (queued (jitter_of 0) streams index rate m its q has.time small) in
        let w : IsResponse (sync_place streams rate index) q v.0 = v.1 in (
          w.wait,
          le_trans (queue_less (jitter_of 0) streams index rate m its q w.wait) (le_of_eq (queueing_is q w.wait ∙ sym w.queueing.solves)),
          λ d e. fits (jitter_of 0) streams index rate m its q w.wait v.0 d w.response (let same : r ≡ d = cc in subst (λ n. v.0 ≤ n) same v.2),
        );
  }
