-- The equations grow by a frame at least, so no chain is longer than 181,820 numbers.
use Rattle.std.proofs.Common.{ℕ, zero, suc, ◌+◌, ◌*◌, ◌-◌, ◌<◌, ◌≤◌, ◌≡◌, Bool, true, false, if◌then◌else◌, arith, slice_get, Option, Some, None, List, [], ◌∷◌, length, le_refl, mul-le-mul_right, zero-le, ⊎_elim, refl}
use Rattle.std.proofs.Math.Nat.{zero-mul}
use Rattle.std.specs.Int.{div_ceil}
use Rattle.std.specs.Option.{option_map_or}
use Rattle.std.proofs.lemmas.Bool.{cases_lt}
use Rattle.cop_frame.specs.declared.rates.Rate.{Rate}
use Rattle.cop_frame.specs.Rate.{ticks_of}
use Rattle.cop_frame.proofs.RateLemmas.{ticks_least}
use Rattle.cop_frame.specs.Lengths.{worst_bits}
use Rattle.cop_frame.proofs.LengthLemmas.{worst_bits-least}
use Rattle.cop_rta.specs.declared.streams.Stream.{Stream}
use Rattle.cop_rta.specs.CeilLemmas.{div_ceil-mono, div_ceil_above}
use Rattle.cop_rta.specs.Sums.{sum_where}
use Rattle.cop_rta.specs.Test.{StreamPlace, of_stream, is_above, cost_of, jitter_of, load_of, blocking, interference, busy_at, queueing_at, cost_at, horizon}
use Rattle.std.proofs.lemmas.Option.{slice_get_cases}
use Rattle.cop_cert.specs.declared.refusals.Evidence.{Evidence}
use Rattle.cop_cert.specs.declared.refusals.Evidence.TheVariants.{Long, Late}
use Rattle.cop_cert.specs.Chains.{Follows, IsChain, IsWholeEvidence, HasAtMost}

-- where f grows, it grows by 220 at least
pub record HasGap (m n : ℕ) : Type 0 where
  pub rises : m ≤ n
  pub gap : m < n → m + 220 ≤ n

gap_same : (n : ℕ) → HasGap n n
gap_same n = record { rises = le_refl n; gap = λ h. absurd (omega arith) }

gap_add : (a b c d : ℕ) → HasGap a b → HasGap c d → HasGap (a + c) (b + d)
gap_add a b c d h k = record {
  rises = omega (arith, h.rises, k.rises);
  gap = λ lt. ⊎_elim
      (λ (more : a < b). omega (arith, h.gap more, k.rises))
      (λ (same : b ≤ a). let other : c < d = omega (arith, h.rises) in omega (arith, h.rises, k.gap other))
      (cases_lt a b);
}

long_enough : (bytes ticks : ℕ) → 4 ≤ ticks → 220 ≤ worst_bits bytes * ticks
long_enough bytes ticks h = let more : 55 * ticks ≤ worst_bits bytes * ticks = mul-le-mul_right ticks (worst_bits-least bytes) in omega (arith, more, h)

cost_220 : (rate : Rate) (s : Stream) → 220 ≤ cost_of rate s
cost_220 rate s = long_enough s.bytes (ticks_of rate) (ticks_least rate)

times_gap : (m n c : ℕ) → 220 ≤ c → m ≤ n → HasGap (m * c) (n * c)
times_gap m n c h le = record {
  rises = mul-le-mul_right c le;
  gap = λ lt. ⊎_elim
      (λ (more : m < n). let step : (m + 1) * c ≤ n * c = mul-le-mul_right c (omega arith) in omega (arith, step))
      (λ (same : n ≤ m). let no : n * c ≤ m * c = mul-le-mul_right c same in absurd (omega (arith, no)))
      (cases_lt m n);
}

load_gap : (rate : Rate) (ahead x y : ℕ) → x ≤ y → (o : Option Stream) → HasGap (option_map_or (load_of rate ahead x) o 0) (option_map_or (load_of rate ahead y) o 0)
load_gap rate ahead x y h None = gap_same 0
load_gap rate ahead x y h (Some s) =
    times_gap (div_ceil (x + jitter_of ahead s) s.period) (div_ceil (y + jitter_of ahead s) s.period) (cost_of rate s) (cost_220 rate s)
    (div_ceil-mono (x + jitter_of ahead s) (y + jitter_of ahead s) s.period (omega (arith, s.period_least)) (omega arith))

choice_gap : (b : Bool) (m n : ℕ) → HasGap m n → HasGap (if b then m else 0) (if b then n else 0)
choice_gap true m n h = h
choice_gap false m n h = gap_same 0

sum_gap : (p : ℕ → Bool) (f g : ℕ → ℕ) (n : ℕ) → ((k : ℕ) → HasGap (f k) (g k)) → HasGap (sum_where p f n) (sum_where p g n)
unfolding sum_where
sum_gap p f g zero h = gap_same 0
sum_gap p f g (suc n) h = gap_add (sum_where p f n) (sum_where p g n) _ _ (sum_gap p f g n h) (choice_gap (p n) (f n) (g n) (h n))

interference_gap : (p : StreamPlace) (x y : ℕ) → x ≤ y → HasGap (interference p x) (interference p y)
interference_gap p x y h =
    sum_gap (is_above p) (of_stream (load_of p.rate p.ahead x) p.streams) (of_stream (load_of p.rate p.ahead y) p.streams) (length p.streams) (λ k. load_gap p.rate p.ahead x y h (slice_get p.streams k))

pub busy_gap : (p : StreamPlace) (x y : ℕ) → x ≤ y → HasGap (busy_at p x) (busy_at p y)
unfolding busy_at
busy_gap p x y h = gap_add _ _ _ _ (gap_same (blocking p)) (gap_add _ _ _ _ (load_gap p.rate p.ahead x y h (slice_get p.streams p.index)) (interference_gap p x y h))

pub queueing_gap : (p : StreamPlace) (q x y : ℕ) → x ≤ y → HasGap (queueing_at p q x) (queueing_at p q y)
unfolding queueing_at
queueing_gap p q x y h = gap_add _ _ _ _ (gap_same (blocking p)) (gap_add _ _ _ _ (gap_same (q * cost_at p)) (interference_gap p (x + ticks_of p.rate) (y + ticks_of p.rate) (omega arith)))

module _ (f : ℕ → ℕ) (limit : ℕ) (gaps : (x y : ℕ) → x ≤ y → HasGap (f x) (f y)) where
  -- after a value of the equation each number is 220 more, and all but the last are within the limit
  grown : (a b : ℕ) (rest : List ℕ) → b ≡ f a → a < b → Follows f limit b rest → 0 < length rest → b + 220 * (length rest - 1) ≤ limit
  unfolding Follows
  grown a b [] is up h some = absurd (omega arith)
  grown a b (c ∷ []) is up h some = omega (arith, h.0)
  grown a b (c ∷ d ∷ rest) is up h some =
      let gap : b + 220 ≤ c = omega (arith, is, h.2, (gaps a b (omega arith)).gap (omega (arith, is, h.1, h.2))) in
      omega (arith, gap, grown b c (d ∷ rest) h.2 h.1 h.3 (omega arith))

  count_after : (a b : ℕ) (rest : List ℕ) → limit ≤ horizon → 220 ≤ b → b ≡ f a → a < b → Follows f limit b rest → length (a ∷ b ∷ rest) ≤ 181820
  count_after a b [] top low is up h = omega arith
  count_after a b (c ∷ rest) top low is up h = omega (arith, top, low, grown a b (c ∷ rest) is up h (omega arith))

  pub count_chain : (from : ℕ) (numbers : List ℕ) → limit ≤ horizon → (from < f from → 220 ≤ f from) → IsChain f from limit numbers → length numbers ≤ 181820
  unfolding Follows
  count_chain from [] top low c = absurd c.follows
  count_chain from (a ∷ []) top low c = omega arith
  count_chain from (a ∷ b ∷ rest) top low c =
      let same : a ≡ from = c.begins in
      let high : 220 ≤ b = rw c.follows.2 (rw same (low (rw (← same, ← c.follows.2) c.follows.1))) in
      count_after a b rest top high c.follows.2 c.follows.1 c.follows.3

-- a load that is not 0 is a frame at least
load_some : (rate : Rate) (ahead x : ℕ) (o : Option Stream) → HasGap 0 (option_map_or (load_of rate ahead x) o 0)
load_some rate ahead x None = gap_same 0
load_some rate ahead x (Some s) = rw (zero-mul (cost_of rate s)) at (times_gap 0 (div_ceil (x + jitter_of ahead s) s.period) (cost_of rate s) (cost_220 rate s) zero-le)

choice_some : (b : Bool) (n : ℕ) → HasGap 0 n → HasGap 0 (if b then n else 0)
choice_some true n h = h
choice_some false n h = gap_same 0

sum_some : (p : ℕ → Bool) (f : ℕ → ℕ) (n : ℕ) → ((k : ℕ) → HasGap 0 (f k)) → HasGap 0 (sum_where p f n)
unfolding sum_where
sum_some p f zero h = gap_same 0
sum_some p f (suc n) h = gap_add 0 (sum_where p f n) 0 _ (sum_some p f n h) (choice_some (p n) (f n) (h n))

queue_first : (p : StreamPlace) (q : ℕ) → blocking p + q * cost_at p < queueing_at p q (blocking p + q * cost_at p) → 220 ≤ queueing_at p q (blocking p + q * cost_at p)
unfolding queueing_at
queue_first p q up =
    let x : ℕ = blocking p + q * cost_at p + ticks_of p.rate in
    omega (arith, (sum_some (is_above p) (of_stream (load_of p.rate p.ahead x) p.streams) (length p.streams) (λ k. load_some p.rate p.ahead x (slice_get p.streams k))).gap (omega arith))

busy_first : (p : StreamPlace) (s : Stream) → slice_get p.streams p.index ≡ Some s → 220 ≤ busy_at p 1
unfolding busy_at
busy_first p s is =
    let some : 0 < div_ceil (1 + jitter_of p.ahead s) s.period = div_ceil_above 0 (1 + jitter_of p.ahead s) s.period (omega (arith, s.period_least)) (omega arith) in
    let own : of_stream (load_of p.rate p.ahead 1) p.streams p.index ≡ load_of p.rate p.ahead 1 s = rw is refl in
    let one : 1 * cost_of p.rate s ≤ div_ceil (1 + jitter_of p.ahead s) s.period * cost_of p.rate s = mul-le-mul_right (cost_of p.rate s) some in
    omega (arith, own, one, cost_220 p.rate s)

pub count_busy : (p : StreamPlace) (numbers : List ℕ) → p.index < length p.streams → IsChain (busy_at p) 1 horizon numbers → length numbers ≤ 181820
count_busy p numbers inside c = ⊎_elim
    (λ s. count_chain (busy_at p) horizon (busy_gap p) 1 numbers (le_refl horizon) (λ _. busy_first p s.0 s.2) c)
    (λ past. absurd (omega (arith, past.0)))
    (slice_get_cases p.streams p.index).1

pub count_queue : (p : StreamPlace) (q : ℕ) (numbers : List ℕ) → IsChain (queueing_at p q) (blocking p + q * cost_at p) horizon numbers → length numbers ≤ 181820
count_queue p q numbers c = count_chain (queueing_at p q) horizon (queueing_gap p q) (blocking p + q * cost_at p) numbers (le_refl horizon) (queue_first p q) c

-- whole chains are short
pub whole_is_short : (p : StreamPlace) (e : Evidence) → p.index < length p.streams → IsWholeEvidence p e → HasAtMost 181820 e
whole_is_short p (Long busy) inside h = count_busy p busy inside h.chain
whole_is_short p (Late q busy queue) inside h = (count_busy p busy inside h.busy_time.chain, count_queue p q queue h.queue_of.waits.chain)
