-- The pace of a stream.
use Rattle.std.proofs.Common.{◌≡◌, ℕ, ◌+◌, ◌-◌, ◌*◌, ◌/◌, ◌^◌, ◌<◌, ◌≤◌, ◌⊎◌, inl, inr, ◌==◌, not, Bool, true, false, if◌then◌else◌, length, List, [], ◌∷◌, ◌++◌, get_or, slice_get, Some, None, arith, lit<, zero-le, All, refl, sym, ap, ◌∙◌, length-append}
use Rattle.std.proofs.lemmas.Bool.{cases_eq}
use Rattle.std.proofs.lemmas.List.{get_or_append_left}
use Rattle.std.proofs.Math.Seq.{get_or-append_seam}
use Rattle.std.proofs.lemmas.Option.{slice_get_cases, slice_get_read, slice_get-get_or, slice_get_within, get_or_from_slice_get}
use Rattle.cop_frame.specs.Lengths.{worst_bits}
use Rattle.cop_frame.specs.declared.rates.Rate.{Rate}
use Rattle.cop_frame.specs.Rate.{ticks_of}
use Rattle.cop_rta.specs.declared.streams.Stream.{Stream}
use Rattle.cop_rta.specs.declared.paces.Pace.{Pace}
use Rattle.cop_rta.specs.Test.{of_stream, jitter_of, load_of}
use Rattle.cop_rta.specs.Paces.{last_time, most_ahead, ahead_at, bits_in, IsPaceOf, IsPaceWith, IsPaceAfter, ArePacesOf}
use Rattle.cop_rta.proofs.BoundLemmas.{jitter_most}
use Rattle.cop_rta.proofs.InverseLemmas.{high_product, rounded_up}
use Rattle.std.specs.Int.{div_ceil}
use Rattle.std.proofs.Math.Nat.{lt-div-mul-add, div-mul-le_self, mul_assoc}
use Rattle.std.proofs.lemmas.Nat.{mul-lt}

times_next : (a b : ℕ) → (a + 1) * b ≡ a * b + b
times_next a b = grind arith

-- the inverse of a period
inverse_reaches : (period inverse : ℕ) → 0 < period → inverse ≡ (2 ^ 64 - 1) / period + 1 → 2 ^ 64 ≤ inverse * period
inverse_reaches period inverse pos is =
    let below : 2 ^ 64 - 1 < (2 ^ 64 - 1) / period * period + period = lt-div-mul-add {a = 2 ^ 64 - 1} {b = period} pos in
    let e : inverse * period ≡ (2 ^ 64 - 1) / period * period + period = rw is (times_next ((2 ^ 64 - 1) / period) period) in
    omega (arith, below, e)

inverse_close : (period inverse : ℕ) → inverse ≡ (2 ^ 64 - 1) / period + 1 → inverse * period ≤ 2 ^ 64 + period
inverse_close period inverse is =
    let most : (2 ^ 64 - 1) / period * period ≤ 2 ^ 64 - 1 = div-mul-le_self (2 ^ 64 - 1) period in
    let e : inverse * period ≡ (2 ^ 64 - 1) / period * period + period = rw is (times_next ((2 ^ 64 - 1) / period) period) in
    omega (arith, most, e)

-- numbers that are small enough
exact : (time jitter period ahead inverse : ℕ) → time ≤ 2 ^ 35 → 0 < period → period ≤ 240000000 → jitter ≤ 520000000 → ahead ≡ jitter + (period - 1) → inverse ≡ (2 ^ 64 - 1) / period + 1
    → (time + ahead) * inverse / 2 ^ 64 ≡ div_ceil (time + jitter) period
exact time jitter period ahead inverse early pos short few is_ahead is_inverse =
    let n : time + ahead ≡ time + jitter + period - 1 = omega (arith, is_ahead, pos) in
    let low : time + ahead < 2 ^ 36 = omega (arith, n, early, short, few) in
    let small : (time + ahead) * period < 2 ^ 36 * 2 ^ 28 = mul-lt (time + ahead) period (2 ^ 36) (2 ^ 28) low (omega (arith, short)) in
    high_product (2 ^ 64) period inverse (time + ahead) pos (lit< tt) (inverse_reaches period inverse pos is_inverse) (inverse_close period inverse is_inverse) (omega (arith, small))
    ∙ rounded_up (time + jitter) period (time + ahead) pos n

pub pace_made : (s : Stream) (pace : Pace) → pace.bits ≡ worst_bits s.bytes → pace.is_synchronous ≡ not (s.every == 0) → pace.ahead ≡ s.jitter + (s.period - 1) → pace.inverse ≡ (2 ^ 64 - 1) / s.period + 1 → IsPaceOf s pace
pace_made s pace bits synchronous ahead inverse = record {
  bits = bits;
  instances = λ more time small early.
      exact time (jitter_of more s) s.period (ahead_at more pace) pace.inverse early (omega (arith, s.period_least)) s.period_most (jitter_most more s small) (sum more (s.every == 0) synchronous) inverse;
  small = omega (arith, ahead, s.jitter_in_range, s.period_most);
}
  where
    sum : (more : ℕ) (own : Bool) → pace.is_synchronous ≡ not own → pace.ahead + (if pace.is_synchronous then more else 0) ≡ (if own then s.jitter else more + s.jitter) + (s.period - 1)
    sum more true e = rw e (omega (arith, ahead))
    sum more false e = rw e (omega (arith, ahead))

-- a sum of bits as ticks
pub times_sum : (a b ticks : ℕ) → (a + b) * ticks ≡ a * ticks + b * ticks
times_sum a b ticks = grind arith

-- a pace of the set has little ahead
pub pace_small : (streams : List Stream) (paces : List Pace) → ArePacesOf streams paces → (k : ℕ) (pace : Pace) → k < length streams → pace ≡ get_or paces k pace → pace.ahead ≤ 480000000
pace_small streams paces are k pace inside here = go (slice_get_cases streams k).1
  where
    go : ((s : Stream) × (k < length streams) × (slice_get streams k ≡ Some s) × (get_or streams k s ≡ s)) ⊎ ((length streams ≤ k) × (slice_get streams k ≡ None)) → pace.ahead ≤ 480000000
    go (inl s) = (are.each k s.0 pace s.2 (slice_get_read paces (length paces) k pace refl (omega (arith, inside, are.count)) here)).small
    go (inr past) = absurd (omega (arith, past.0, inside))

-- a pace of the set with what is ahead
module _ (ahead : ℕ) (small : ahead ≤ most_ahead) (streams : List Stream) (paces : List Pace) (are : ArePacesOf streams paces) (k : ℕ) (pace other : Pace) (inside : k < length streams) (here : pace ≡ get_or paces k pace) (after : IsPaceAfter ahead pace other) where
  pub pace_with : (s : Stream) → slice_get streams k ≡ Some s → IsPaceWith ahead s other
  pace_with s there =
      let is = are.each k s pace there (slice_get_read paces (length paces) k pace refl (omega (arith, inside, are.count)) here) in
      record {
        bits = after.bits ∙ is.bits;
        instances = λ time early. rw (after.ahead_is, after.inverse) (is.instances ahead time small early);
      }

-- where no stream is synchronous each pace is as it is with anything ahead
plain_pace : (ahead : ℕ) (s : Stream) (pace : Pace) → IsPaceOf s pace → s.every ≡ 0 → IsPaceWith ahead s pace
plain_pace ahead s pace is plain = record {
  bits = is.bits;
  instances = λ time early.
      let jitter : jitter_of 0 s ≡ jitter_of ahead s = rw plain refl in
      ap (λ (n : ℕ). (time + n) * pace.inverse / 2 ^ 64) (sym (nothing pace.is_synchronous)) ∙ is.instances 0 time zero-le early ∙ ap (λ (j : ℕ). div_ceil (time + j) s.period) jitter;
}
  where
    nothing : (b : Bool) → pace.ahead + (if b then 0 else 0) ≡ pace.ahead
    nothing true = omega arith
    nothing false = omega arith

pub plain_with : (ahead : ℕ) (streams : List Stream) (paces : List Pace) → ArePacesOf streams paces → All (λ (s : Stream). s.every ≡ 0) streams → (k : ℕ) (pace : Pace) → k < length streams → pace ≡ get_or paces k pace
    → (s : Stream) → slice_get streams k ≡ Some s → IsPaceWith ahead s pace
plain_with ahead streams paces are plain k pace inside here s there =
    plain_pace ahead s pace (are.each k s pace there (slice_get_read paces (length paces) k pace refl (omega (arith, inside, are.count)) here))
    (ap (λ (t : Stream). t.every) (sym (get_or_from_slice_get streams k s s there)) ∙ plain k s inside)

module _ (rate : Rate) (ahead : ℕ) (streams : List Stream) (k : ℕ) (pace : Pace) (inside : k < length streams) (is : (s : Stream) → slice_get streams k ≡ Some s → IsPaceWith ahead s pace) where
  pub load_by_pace : (t : ℕ) → t ≤ last_time → bits_in t pace * ticks_of rate ≡ of_stream (load_of rate ahead t) streams k
  load_by_pace t early = go (slice_get_cases streams k).1
    where
      go : ((s : Stream) × (k < length streams) × (slice_get streams k ≡ Some s) × (get_or streams k s ≡ s)) ⊎ ((length streams ≤ k) × (slice_get streams k ≡ None))
          → bits_in t pace * ticks_of rate ≡ of_stream (load_of rate ahead t) streams k
      go (inl s) = rw (s.2, (is s.0 s.2).instances t early, (is s.0 s.2).bits) (mul_assoc _ _ _)
      go (inr past) = absurd (omega (arith, past.0, inside))

  pub bits_more : (t : ℕ) → t ≤ last_time → (bits total : ℕ) → bits * ticks_of rate ≡ total → (bits + bits_in t pace) * ticks_of rate ≡ total + of_stream (load_of rate ahead t) streams k
  bits_more t early bits total is_total = omega (arith, times_sum bits (bits_in t pace) (ticks_of rate), is_total, load_by_pace t early)

-- the paces of no stream
pub no_paces : (streams : List Stream) (paces : List Pace) → streams ≡ [] → paces ≡ [] → ArePacesOf streams paces
no_paces streams paces none too = rw (none, too) (record { count = refl; each = λ k s pace there here. absurd (omega (arith, slice_get_within [] k s there)) })

-- the pace of a stream more
pub paces_more : (streams : List Stream) (paces : List Pace) (s : Stream) (pace : Pace) → ArePacesOf streams paces → IsPaceOf s pace → ArePacesOf (streams ++ s ∷ []) (paces ++ pace ∷ [])
paces_more streams paces s pace are is = record {
  count = simp length-append (omega (arith, are.count));
  each = λ k t other there here. go k t other there here (cases_eq k (length streams));
}
  where
    go : (k : ℕ) (t : Stream) (other : Pace) → slice_get (streams ++ s ∷ []) k ≡ Some t → slice_get (paces ++ pace ∷ []) k ≡ Some other → (k ≡ length streams) ⊎ (k ≡ length streams → ⊥) → IsPaceOf t other
    go k t other there here (inl e) =
        let stream : s ≡ t = sym (get_or-append_seam streams s [] s) ∙ ap (λ (j : ℕ). get_or (streams ++ s ∷ []) j s) (sym e) ∙ get_or_from_slice_get (streams ++ s ∷ []) k t s there in
        let mine : pace ≡ other = sym (get_or-append_seam paces pace [] pace) ∙ ap (λ (j : ℕ). get_or (paces ++ pace ∷ []) j pace) (are.count ∙ sym e) ∙ get_or_from_slice_get (paces ++ pace ∷ []) k other pace here in
        rw (← stream, ← mine) is
    go k t other there here (inr apart) =
        let in_longer : k < length streams + 1 = omega (arith, slice_get_within (streams ++ s ∷ []) k t there, length-append streams (s ∷ [])) in
        let low : k < length streams = omega (arith, in_longer, apart) in
        let stream : slice_get streams k ≡ Some t = slice_get-get_or streams k t low ∙ ap (λ (x : Stream). Some x) (sym (get_or_append_left streams (s ∷ []) t k low) ∙ get_or_from_slice_get (streams ++ s ∷ []) k t t there) in
        let mine : slice_get paces k ≡ Some other = slice_get-get_or paces k other (omega (arith, low, are.count)) ∙ ap (λ (x : Pace). Some x) (sym (get_or_append_left paces (pace ∷ []) other k (omega (arith, low, are.count))) ∙ get_or_from_slice_get (paces ++ pace ∷ []) k other other here) in
        are.each k t other stream mine
