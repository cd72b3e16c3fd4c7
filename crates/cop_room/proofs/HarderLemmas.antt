-- What one stream that asks no less has of each number.
use Rattle.std.proofs.Common.{◌≡◌, ℕ, ◌+◌, ◌*◌, ◌<◌, ◌≤◌, ◌==◌, Bool, true, false, if◌then◌else◌, ⊎_elim, arith, sym, subst, le_trans, mul-le-mul_right, mul-le-mul_left}
use Rattle.std.specs.Int.{div_ceil}
use Rattle.std.proofs.lemmas.Bool.{eq-eqb, cases_lt}
use Rattle.cop_frame.specs.declared.rates.Rate.{Rate}
use Rattle.cop_frame.specs.Lengths.{worst_bits}
use Rattle.cop_frame.specs.Rate.{ticks_of}
use Rattle.cop_frame.proofs.LengthLemmas.{worst_bits-frame, worst_bits-most}
use Rattle.cop_rta.specs.declared.streams.Stream.{Stream}
use Rattle.cop_rta.specs.Entries.{entry_of}
use Rattle.cop_rta.specs.CeilLemmas.{div_ceil-reaches, div_ceil-least}
use Rattle.cop_rta.specs.Test.{cost_of, jitter_of, load_of}
use Rattle.cop_room.specs.Harder.{IsHarder}

-- more bytes are no shorter, and a disturbed transfer is the longest
bits_harder : (m n : ℕ) → m ≤ n → n ≤ 9 → worst_bits m ≤ worst_bits n
unfolding worst_bits
bits_harder m n more most = ⊎_elim
    (λ (short : n < 9).
    let a : worst_bits m ≡ 55 + 10 * m = worst_bits-frame m (omega (arith, more, short)) in
    let b : worst_bits n ≡ 55 + 10 * n = worst_bits-frame n (omega (arith, short)) in
    omega (arith, a, b, more))
    (λ (long : 9 ≤ n).
    let nine : 9 ≡ n = omega (arith, long, most) in
    subst (λ k. worst_bits m ≤ worst_bits k) nine (worst_bits-most m (omega (arith, more, most))))
    (cases_lt n 9)

pub cost_harder : (rate : Rate) (s t : Stream) → IsHarder (entry_of s) (entry_of t) → cost_of rate s ≤ cost_of rate t
cost_harder rate s t h = mul-le-mul_right (ticks_of rate) (bits_harder s.bytes t.bytes h.bytes t.bytes_in_range)

-- in a longer time there are no fewer of shorter periods
pub instances_harder : (x y p r : ℕ) → 0 < r → r ≤ p → x ≤ y → div_ceil x p ≤ div_ceil y r
instances_harder x y p r pos shorter longer =
    let reaches : y ≤ div_ceil y r * r = div_ceil-reaches y r pos in
    let wide : div_ceil y r * r ≤ div_ceil y r * p = mul-le-mul_left (div_ceil y r) shorter in
    div_ceil-least x p (div_ceil y r) (omega (arith, pos, shorter)) (omega (arith, reaches, wide, longer))

pub load_harder : (rate : Rate) (ahead more x : ℕ) (s t : Stream) → IsHarder (entry_of s) (entry_of t) → jitter_of ahead s ≤ jitter_of more t → load_of rate ahead x s ≤ load_of rate more x t
load_harder rate ahead more x s t h late =
    let few : div_ceil (x + jitter_of ahead s) s.period ≤ div_ceil (x + jitter_of more t) t.period = instances_harder (x + jitter_of ahead s) (x + jitter_of more t) s.period t.period (omega (arith, t.period_least)) h.period (omega (arith, late)) in
    le_trans (mul-le-mul_right (cost_of rate s) few) (mul-le-mul_left (div_ceil (x + jitter_of more t) t.period) (cost_harder rate s t h))

-- with no less ahead, no shorter a jitter
pub jitter_harder : (ahead more : ℕ) (s t : Stream) → IsHarder (entry_of s) (entry_of t) → ahead ≤ more → jitter_of ahead s ≤ jitter_of more t
jitter_harder ahead more s t h le = subst (λ n. (if s.every == 0 then s.jitter else ahead + s.jitter) ≤ (if n == 0 then t.jitter else more + t.jitter)) (sym h.every) (go (s.every == 0))
  where
    go : (b : Bool) → (if b then s.jitter else ahead + s.jitter) ≤ (if b then t.jitter else more + t.jitter)
    go true = h.jitter
    go false = omega (arith, h.jitter, le)

-- whatever is ahead, where the stream is not synchronous
pub jitter_alone : (ahead more : ℕ) (s t : Stream) → IsHarder (entry_of s) (entry_of t) → s.every ≡ 0 → jitter_of ahead s ≤ jitter_of more t
jitter_alone ahead more s t h none =
    let a : (s.every == 0) ≡ true = eq-eqb s.every 0 none in
    let b : (t.every == 0) ≡ true = eq-eqb t.every 0 (omega (arith, h.every, none)) in
    rw (a, b) h.jitter
