-- Within the horizon no equation of a set of streams passes 64 bits, so what the code gives at a time is its value.
use Rattle.std.proofs.Common.{◌≡◌, ℕ, zero, suc, ◌+◌, ◌-◌, ◌*◌, ◌^◌, ◌≤◌, ◌==◌, Bool, true, false, if◌then◌else◌, List, length, slice_get, Option, Some, None, arith, zero-le, mul-le-mul_left, mul-le-mul_right, lit≤}
use Rattle.std.specs.Int.{div_ceil}
use Rattle.std.specs.Option.{option_map_or}
use Rattle.cop_frame.proofs.LengthLemmas.{worst_bits-most}
use Rattle.cop_frame.specs.declared.rates.Rate.{Rate}
use Rattle.cop_frame.specs.declared.rates.Rate.TheVariants.{Kbit10, Kbit20, Kbit50, Kbit125, Kbit250, Kbit500, Kbit800, Kbit1000}
use Rattle.cop_frame.specs.Rate.{ticks_of}
use Rattle.cop_rta.specs.declared.streams.Stream.{Stream}
use Rattle.cop_rta.specs.CeilLemmas.{div_ceil-least}
use Rattle.cop_rta.specs.Sums.{sum_where, max_where}
use Rattle.cop_rta.specs.Paces.{most_ahead}
use Rattle.cop_rta.specs.Test.{StreamPlace, of_stream, is_above, is_below, cost_of, jitter_of, load_of, blocking, interference, busy_at, queueing_at, cost_at, horizon}

ticks_most : (rate : Rate) → ticks_of rate ≤ 400
ticks_most Kbit10 = lit≤ tt
ticks_most Kbit20 = lit≤ tt
ticks_most Kbit50 = lit≤ tt
ticks_most Kbit125 = lit≤ tt
ticks_most Kbit250 = lit≤ tt
ticks_most Kbit500 = lit≤ tt
ticks_most Kbit800 = lit≤ tt
ticks_most Kbit1000 = lit≤ tt

pub cost_within : (rate : Rate) (s : Stream) → cost_of rate s ≤ 166 * ticks_of rate
cost_within rate s = mul-le-mul_right (ticks_of rate) (worst_bits-most s.bytes s.bytes_in_range)

cost_most : (rate : Rate) (s : Stream) → cost_of rate s ≤ 66400
cost_most rate s = omega (arith, cost_within rate s, ticks_most rate)

-- no jitter is longer than the longest latency after the longest response of SYNC
pub jitter_most : (ahead : ℕ) (s : Stream) → ahead ≤ most_ahead → jitter_of ahead s ≤ 520000000
jitter_most ahead s small = go (s.every == 0)
  where
    go : (b : Bool) → (if b then s.jitter else ahead + s.jitter) ≤ 520000000
    go true = omega (arith, s.jitter_in_range)
    go false = omega (arith, s.jitter_in_range, small)

-- there are no more instances than ticks
load_most : (rate : Rate) (ahead x : ℕ) (s : Stream) → ahead ≤ most_ahead → x ≤ horizon + 400 → load_of rate ahead x s ≤ 2 ^ 46
load_most rate ahead x s small early =
    let j : ℕ = jitter_of ahead s in
    let wide : (x + j) * 1 ≤ (x + j) * s.period = mul-le-mul_left (x + j) (omega (arith, s.period_least)) in
    let few : div_ceil (x + j) s.period ≤ x + j = div_ceil-least (x + j) s.period (x + j) (omega (arith, s.period_least)) (omega (arith, wide)) in
    let most : div_ceil (x + j) s.period * cost_of rate s ≤ div_ceil (x + j) s.period * 66400 = mul-le-mul_left (div_ceil (x + j) s.period) (cost_most rate s) in
    omega (arith, most, few, early, jitter_most ahead s small)

pub of_stream_most : (f : Stream → ℕ) (streams : List Stream) (k most : ℕ) → ((s : Stream) → f s ≤ most) → of_stream f streams k ≤ most
of_stream_most f streams k most h = go (slice_get streams k)
  where
    go : (o : Option Stream) → option_map_or f o 0 ≤ most
    go None = zero-le
    go (Some s) = h s

choice_most : (b : Bool) (m most : ℕ) → m ≤ most → (if b then m else 0) ≤ most
choice_most true m most h = h
choice_most false m most h = zero-le

sum_most : (p : ℕ → Bool) (f : ℕ → ℕ) (most n : ℕ) → ((k : ℕ) → f k ≤ most) → sum_where p f n ≤ n * most
unfolding sum_where
sum_most p f most zero h = zero-le
sum_most p f most (suc n) h =
    let next : suc n * most ≡ n * most + most = grind arith in
    omega (arith, next, sum_most p f most n h, choice_most (p n) (f n) most (h n))

pub max_most : (p : ℕ → Bool) (f : ℕ → ℕ) (most n : ℕ) → ((k : ℕ) → f k ≤ most) → max_where p f n ≤ most
unfolding max_where
max_most p f most zero h = zero-le
max_most p f most (suc n) h = omega (arith, max_most p f most n h, choice_most (p n) (f n) most (h n))

module _ (p : StreamPlace) (few : length p.streams ≤ 1100) (small : p.ahead ≤ most_ahead) where
  interference_most : (x : ℕ) → x ≤ horizon + 400 → interference p x ≤ 1100 * 2 ^ 46
  interference_most x early =
      let sum : interference p x ≤ length p.streams * 2 ^ 46 = sum_most (is_above p) (of_stream (load_of p.rate p.ahead x) p.streams) (2 ^ 46) (length p.streams) (λ k. of_stream_most (load_of p.rate p.ahead x) p.streams k (2 ^ 46) (λ s. load_most p.rate p.ahead x s small early)) in
      omega (arith, sum, few)

  pub busy_small : (t : ℕ) → t ≤ horizon → busy_at p t ≤ 2 ^ 64 - 1
  unfolding busy_at
  busy_small t early =
      let longest : blocking p ≤ 66400 = max_most (is_below p) (of_stream (cost_of p.rate) p.streams) 66400 (length p.streams) (λ k. of_stream_most (cost_of p.rate) p.streams k 66400 (cost_most p.rate)) in
      let own : of_stream (load_of p.rate p.ahead t) p.streams p.index ≤ 2 ^ 46 = of_stream_most (load_of p.rate p.ahead t) p.streams p.index (2 ^ 46) (λ s. load_most p.rate p.ahead t s small (omega (arith, early))) in
      omega (arith, longest, own, interference_most t (omega (arith, early)))

  pub queueing_small : (q : ℕ) → blocking p + q * cost_at p ≤ horizon → (w : ℕ) → w ≤ horizon → queueing_at p q w ≤ 2 ^ 64 - 1
  unfolding queueing_at
  queueing_small q start w early = omega (arith, start, interference_most (w + ticks_of p.rate) (omega (arith, early, ticks_most p.rate)))
