-- A stream with more that is not below it, and with longer jitters, has no shorter a busy time.
use Rattle.std.proofs.Common.{◌≡◌, ℕ, ◌+◌, ◌<◌, ◌≤◌, ◌⊎◌, inl, inr, Bool, true, false, true≢false, not, ◌&&◌, ◌||◌, ◌==◌, length, slice_get, Option, Some, None, refl, sym, ap, arith, le_refl, mul-le-mul_right}
use Rattle.std.specs.Option.{option_map_or}
use Rattle.std.proofs.lemmas.Bool.{eq-eqb}
use Rattle.cop_frame.specs.declared.rates.Rate.{Rate}
use Rattle.cop_rta.specs.declared.streams.Stream.{Stream}
use Rattle.cop_rta.specs.Sums.{sum_where, max_where}
use Rattle.cop_rta.specs.SumsLemmas.{sum_where-mono}
use Rattle.cop_rta.specs.CeilLemmas.{div_ceil-mono}
use Rattle.cop_rta.specs.Test.{StreamPlace, is_above, is_below, of_stream, cost_of, jitter_of, load_of, busy_at}
use Rattle.cop_rta.specs.Jittered.{load_by, busy_by}
use Rattle.cop_rta.specs.Covers.{is_not_below, beside, Covers, AreNoShorter}
use Rattle.cop_rta.proofs.MoreAbove.{Raises, exchange, cost_le_load}
use Rattle.cop_rta.proofs.PlaceEquations.{but, sum_but}
use Rattle.cop_rta.proofs.JitteredLemmas.{busy_by-its}

module _ (J : Stream → ℕ) (p : StreamPlace) (inside : p.index < length p.streams) where
  above_alike : (k : ℕ) → but (is_not_below p) p.index k ≡ is_above p k
  above_alike k = go (k == p.index) (p.above k)
    where
      go : (a b : Bool) → (not a && (a || b)) ≡ (not a && b)
      go true b = refl
      go false b = refl

  below_alike : (k : ℕ) → not (is_not_below p k) ≡ is_below p k
  below_alike k = go (k == p.index) (p.above k)
    where
      go : (a b : Bool) → not (a || b) ≡ (not a && not b)
      go true b = refl
      go false b = refl

  own_too : is_not_below p p.index ≡ true
  own_too = rw (eq-eqb p.index p.index refl) refl

  -- the busy equation by one test
  pub busy_by_test : (t : ℕ) → busy_by J p t ≡
      max_where (λ k. not (is_not_below p k)) (of_stream (cost_of p.rate) p.streams) (length p.streams) + sum_where (is_not_below p) (of_stream (load_by J p.rate t) p.streams) (length p.streams)
  unfolding busy_by
  busy_by_test t =
      let b : (λ k. not (is_not_below p k)) ≡ is_below p = λ i k. below_alike k i in
      let a : but (is_not_below p) p.index ≡ is_above p = λ i k. above_alike k i in
      let x = ap (λ (test : ℕ → Bool). max_where test (of_stream (cost_of p.rate) p.streams) (length p.streams)) b in
      let y = ap (λ (test : ℕ → Bool). sum_where test (of_stream (load_by J p.rate t) p.streams) (length p.streams)) a in
      let z = sum_but (is_not_below p) (of_stream (load_by J p.rate t) p.streams) p.index (length p.streams) own_too inside in
      omega (arith, x, y, z)

raised : (n : ℕ) (a b : ℕ → Bool) → ((k : ℕ) → k < n → a k ≡ true → b k ≡ true) → Raises n a (λ k. not (a k)) b (λ k. not (b k))
raised n a b h = record { stays = h; goes = λ k e. either (b k); apart = λ k x y. both (a k) x y }
  where
    either : (v : Bool) → (not v ≡ true) ⊎ (v ≡ true)
    either true = inr refl
    either false = inl refl

    both : (v : Bool) → v ≡ true → not v ≡ true → ⊥
    both true x y = true≢false (sym y)
    both false x y = true≢false (sym x)

option_map_or-le : (f g : Stream → ℕ) (o : Option Stream) → ((s : Stream) → f s ≤ g s) → option_map_or f o 0 ≤ option_map_or g o 0
option_map_or-le f g None h = le_refl 0
option_map_or-le f g (Some s) h = h s

load_more : (ahead : ℕ) (J : Stream → ℕ) (rate : Rate) (t : ℕ) (s : Stream) → jitter_of ahead s ≤ J s → load_of rate ahead t s ≤ load_by J rate t s
load_more ahead J rate t s le = mul-le-mul_right (cost_of rate s) (div_ceil-mono (t + jitter_of ahead s) (t + J s) s.period (omega (arith, s.period_least)) (omega (arith, le)))

pub busy_covered : (J : Stream → ℕ) (p : StreamPlace) (above : ℕ → Bool) (index ahead t : ℕ) → AreNoShorter p.ahead J → p.index < length p.streams → index < length p.streams →
    Covers p above index → 1 ≤ t → busy_at p t ≤ busy_by J (beside p above index ahead) t
busy_covered J p above index ahead t longer inside there covers one_on =
    let q : StreamPlace = beside p above index ahead in
    let n : ℕ = length p.streams in
    let e = (exchange (is_not_below p) (λ k. not (is_not_below p k)) (is_not_below q) (λ k. not (is_not_below q k)) (of_stream (cost_of p.rate) p.streams) (of_stream (load_of p.rate p.ahead t) p.streams) n
    (raised n (is_not_below p) (is_not_below q) covers) (λ k. cost_le_load p t (slice_get p.streams k) one_on)).1 in
    let m = sum_where-mono (is_not_below q) (of_stream (load_of p.rate p.ahead t) p.streams) (of_stream (load_by J p.rate t) p.streams) n
    (λ k. option_map_or-le (load_of p.rate p.ahead t) (load_by J p.rate t) (slice_get p.streams k) (λ s. load_more p.ahead J p.rate t s (longer s))) in
    let x = busy_by_test (jitter_of p.ahead) p inside t in
    let y = busy_by_test J q there t in
    let z = busy_by-its p t in
    omega (arith, e, m, x, y, z)
