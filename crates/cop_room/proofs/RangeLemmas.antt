-- Changed numbers are in the ranges of streams.
use Rattle.std.proofs.Common.{◌≡◌, ◌∙◌, ℕ, ◌*◌, ◌/◌, ◌<◌, ◌≤◌, ◌==◌, max, Bool, true, false, if◌then◌else◌, List, length, slice_get, get_or, Option, Some, None, option_map, refl, sym, ap, subst, arith, le_trans, mul-le-mul_left, mul-le-mul_right, zero-le, ⊎_elim}
use Rattle.std.specs.Int.{div_ceil}
use Rattle.std.specs.Option.{ForSome, option_map_or}
use Rattle.std.proofs.Math.Nat.{mul-div-le}
use Rattle.std.proofs.lemmas.Bool.{eqb-false, cases_lt}
use Rattle.std.proofs.lemmas.Option.{slice_get_within, get_or_from_slice_get}
use Rattle.cop_rta.specs.declared.streams.Stream.{Stream}
use Rattle.cop_rta.specs.CeilLemmas.{div_ceil-least}
use Rattle.cop_rta.specs.Entries.{entry_of}
use Rattle.cop_rta.specs.Greatest.{AreSynced}
use Rattle.cop_rta.specs.Streams.{place_of_id}
use Rattle.cop_rta.specs.Test.{of_stream, sync_id}
use Rattle.cop_room.specs.Changes.{with_period, with_sync_period, with_periods, with_times, scaled, scaled_period}
use Rattle.cop_room.specs.Numbers.{IsInRange, AreInRange}

own : (s : Stream) → IsInRange (entry_of s)
own s = record {
  bytes = s.bytes_in_range;
  period_least = s.period_least;
  period_most = s.period_most;
  jitter = s.jitter_in_range;
  deadline_least = s.deadline_least;
  deadline_most = s.deadline_most;
}

with_another : (s : Stream) (p : ℕ) → 400 ≤ p → p ≤ 240000000 → IsInRange (with_period p (entry_of s))
with_another s p least most = record {
  bytes = s.bytes_in_range;
  period_least = least;
  period_most = most;
  jitter = s.jitter_in_range;
  deadline_least = s.deadline_least;
  deadline_most = s.deadline_most;
}

-- ---- thousandths

scaled_least : (least part time : ℕ) → least ≤ scaled least part time
scaled_least least part time = omega arith

both_most : (least d time most : ℕ) → least ≤ most → time ≤ most → 4 * d ≤ time → max least (4 * d) ≤ most
both_most least d time most a b c = omega arith

scaled_most : (least part time most : ℕ) → part ≤ 1000 → least ≤ most → time ≤ most → scaled least part time ≤ most
scaled_most least part time most parts low high =
    let few : div_ceil (time / 4 * part) 1000 ≤ time / 4 = div_ceil-least (time / 4 * part) 1000 (time / 4) (omega arith) (mul-le-mul_left (time / 4) parts) in
    both_most least _ time most low high (le_trans (mul-le-mul_left 4 few) (mul-div-le time 4))

one_at_least : (every q : ℕ) → 1 ≤ every → 400 ≤ q → 400 ≤ every * q
one_at_least every q some h = let more : 1 * q ≤ every * q = mul-le-mul_right q some in omega (arith, more, h)

many_at_most : (every part period : ℕ) → part ≤ 1000 → every ≤ 240 → period ≤ 240000000 → every * scaled 400 part (period / every) ≤ 240000000
many_at_most every part period parts few long = ⊎_elim
    (λ (short : period / every < 400).
    let a : scaled 400 part (period / every) ≤ 400 = scaled_most 400 part (period / every) 400 parts (omega arith) (omega (arith, short)) in
    let b : every * scaled 400 part (period / every) ≤ every * 400 = mul-le-mul_left every a in
    omega (arith, b, few))
    (λ (enough : 400 ≤ period / every).
    let a : scaled 400 part (period / every) ≤ period / every = scaled_most 400 part (period / every) (period / every) parts enough (omega arith) in
    let b : every * scaled 400 part (period / every) ≤ every * (period / every) = mul-le-mul_left every a in
    let c : every * (period / every) ≤ period = mul-div-le period every in
    omega (arith, b, c, long))
    (cases_lt (period / every) 400)

period_in : (s : Stream) (part : ℕ) → part ≤ 1000 → (400 ≤ scaled_period part (entry_of s)) × (scaled_period part (entry_of s) ≤ 240000000)
period_in s part parts = go (s.every == 0) (λ f. eqb-false s.every 0 f)
  where
    go : (b : Bool) → (b ≡ false → s.every ≡ 0 → ⊥)
        → (400 ≤ (if b then scaled 400 part s.period else s.every * scaled 400 part (s.period / s.every)))
        × ((if b then scaled 400 part s.period else s.every * scaled 400 part (s.period / s.every)) ≤ 240000000)
    go true some = (scaled_least 400 part s.period, scaled_most 400 part s.period 240000000 parts (omega arith) s.period_most)
    go false some = (one_at_least s.every _ (omega (arith, some refl)) (scaled_least 400 part (s.period / s.every)), many_at_most s.every part s.period parts s.every_most s.period_most)

pub periods_in_range : (part : ℕ) (streams : List Stream) → part ≤ 1000 → AreInRange (with_periods part) streams
periods_in_range part streams parts k s at = let both = period_in s part parts in with_another s (scaled_period part (entry_of s)) both.0 both.1

deadline_in : (part : ℕ) (o : Option ℕ) → part ≤ 1000 → ForSome o (λ d. d ≤ 240000000) → ForSome (option_map (scaled 4 part) o) (λ d. (1 ≤ d) × (d ≤ 240000000))
deadline_in part None parts most d is = absurd (cc)
deadline_in part (Some n) parts most d is =
    let same : scaled 4 part n ≡ d = cc in
    let low : 4 ≤ scaled 4 part n = scaled_least 4 part n in
    let high : scaled 4 part n ≤ 240000000 = scaled_most 4 part n 240000000 parts (omega arith) (most n refl) in
    (omega (arith, low, same), omega (arith, high, same))

pub times_in_range : (part : ℕ) (streams : List Stream) → part ≤ 1000 → AreInRange (with_times part) streams
times_in_range part streams parts k s at =
    let both = period_in s part parts in
    let dated = deadline_in part s.deadline parts s.deadline_most in
    record {
      bytes = s.bytes_in_range;
      period_least = both.0;
      period_most = both.1;
      jitter = s.jitter_in_range;
      deadline_least = λ d is. (dated d is).0;
      deadline_most = λ d is. (dated d is).1;
    }

-- ---- SYNC's period

at_most : (o : Option Stream) → option_map_or (λ (s : Stream). s.period) o 0 ≤ 240000000
at_most None = zero-le
at_most (Some s) = s.period_most

pub sync_in_range : (streams : List Stream) (i x : ℕ) → AreSynced streams → place_of_id streams sync_id ≡ Some i → 100 ≤ x → x ≤ of_stream (λ s. s.period) streams i / 4
    → AreInRange (with_sync_period (4 * x)) streams
sync_in_range streams i x synced at low high k s here = go (s.id == sync_id) (s.every == 0) (λ f. eqb-false s.every 0 f)
  where
    four : 4 * x ≤ of_stream (λ s. s.period) streams i
    four = le_trans (mul-le-mul_left 4 high) (mul-div-le (of_stream (λ s. s.period) streams i) 4)

    long : of_stream (λ s. s.period) streams i ≤ 240000000
    long = at_most (slice_get streams i)

    inside : k < length streams
    inside = slice_get_within streams k s here

    go : (a b : Bool) → (b ≡ false → s.every ≡ 0 → ⊥) → IsInRange (if a then with_period (4 * x) (entry_of s) else if b then entry_of s else with_period (s.every * (4 * x)) (entry_of s))
    go true b some = with_another s (4 * x) (omega (arith, low)) (omega (arith, four, long))
    go false true some = own s
    go false false some =
        let every : 1 ≤ s.every = omega (arith, some refl) in
        let same : get_or streams k s ≡ s = get_or_from_slice_get streams k s s here in
        let pace = synced.each k s inside (subst (λ (t : Stream). 1 ≤ t.every) (sym same) every) in
        let its : of_stream (λ t. t.period) streams pace.0 ≡ of_stream (λ t. t.period) streams i = (let one : Some pace.0 ≡ Some i = sym pace.1 ∙ at in let j : pace.0 ≡ i = cc in ap (of_stream (λ t. t.period) streams) j) in
        let period : s.period ≡ s.every * of_stream (λ t. t.period) streams i = subst (λ (t : Stream). t.period ≡ t.every * of_stream (λ t. t.period) streams i) same (pace.2 ∙ ap (λ n. (get_or streams k s).every * n) its) in
        let more : s.every * (4 * x) ≤ s.every * of_stream (λ t. t.period) streams i = mul-le-mul_left s.every four in
        with_another s (s.every * (4 * x)) (one_at_least s.every (4 * x) every (omega (arith, low))) (omega (arith, more, period, s.period_most))
