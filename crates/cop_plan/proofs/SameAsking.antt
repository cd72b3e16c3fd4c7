-- The test asks of identifiers only who is above, and of deadlines only that of the stream that is judged.
use Rattle.std.proofs.Common.{◌≡◌, ℕ, ◌+◌, ◌*◌, ◌==◌, if◌then◌else◌, true, unwrap_or, Bool, List, length, map, slice_get, Option, Some, None, option_map, refl, sym, ap, ◌∙◌, subst, arith}
use Rattle.std.specs.Int.{div_ceil}
use Rattle.std.specs.Option.{option_map_or}
use Rattle.std.proofs.lemmas.List.{length-map}
use Rattle.std.proofs.lemmas.Option.{slice_get-map}
use Rattle.cop_frame.specs.declared.rates.Rate.{Rate}
use Rattle.cop_frame.specs.Rate.{ticks_of}
use Rattle.cop_frame.specs.Lengths.{worst_bits}
use Rattle.cop_rta.specs.declared.streams.Stream.{Stream}
use Rattle.cop_rta.specs.Solutions.{IsLeastSolution}
use Rattle.cop_rta.specs.Sums.{sum_where, max_where}
use Rattle.cop_rta.specs.Test.{StreamPlace, Passes, IsResponse, IsOnTime, is_above, is_below, of_stream, cost_of, load_of, busy_at, queueing_at, period_at, jitter_at, horizon, fixed_point, response_at, greatest_within, greatest_response}

-- what a stream asks of the bus
pub record Asking : Type 0 where
  pub bytes : ℕ
  pub period : ℕ
  pub jitter : ℕ
  pub every : ℕ

abbrev pub asking_of : Stream → Asking
asking_of s = record { bytes = s.bytes; period = s.period; jitter = s.jitter; every = s.every }

-- a place with so much ahead
abbrev pub place_at : List Stream → (ℕ → Bool) → ℕ → Rate → ℕ → StreamPlace
place_at streams above index rate ahead = record { streams = streams; above = above; index = index; rate = rate; ahead = ahead }

module _ (one other : List Stream) (e : map asking_of one ≡ map asking_of other) where
  pub same_length : length one ≡ length other
  same_length = sym (length-map one asking_of) ∙ ap (λ (asks : List Asking). length asks) e ∙ length-map other asking_of

  same_asking : (k : ℕ) → option_map asking_of (slice_get one k) ≡ option_map asking_of (slice_get other k)
  same_asking k = sym (slice_get-map asking_of one k) ∙ ap (λ (asks : List Asking). slice_get asks k) e ∙ slice_get-map asking_of other k

  by_asking : (f : Asking → ℕ) (o : Option Stream) → option_map_or (λ (s : Stream). f (asking_of s)) o 0 ≡ option_map_or f (option_map asking_of o) 0
  by_asking f None = refl
  by_asking f (Some s) = refl

  pub same_number : (f : Asking → ℕ) (k : ℕ) → of_stream (λ s. f (asking_of s)) one k ≡ of_stream (λ s. f (asking_of s)) other k
  same_number f k = by_asking f (slice_get one k) ∙ ap (λ (t : Option Asking). option_map_or f t 0) (same_asking k) ∙ sym (by_asking f (slice_get other k))

  module _ (above : ℕ → Bool) (index : ℕ) (rate : Rate) (ahead : ℕ) where
    same_cost : (k : ℕ) → of_stream (cost_of rate) one k ≡ of_stream (cost_of rate) other k
    same_cost k = same_number (λ (t : Asking). worst_bits t.bytes * ticks_of rate) k

    same_load : (time k : ℕ) → of_stream (load_of rate ahead time) one k ≡ of_stream (load_of rate ahead time) other k
    same_load time k = same_number (λ (t : Asking). div_ceil (time + (if t.every == 0 then t.jitter else ahead + t.jitter)) t.period * (worst_bits t.bytes * ticks_of rate)) k

    same_most : max_where (is_below (place_at one above index rate ahead)) (of_stream (cost_of rate) one) (length one) ≡ max_where (is_below (place_at other above index rate ahead)) (of_stream (cost_of rate) other) (length other)
    same_most =
        let costs : of_stream (cost_of rate) one ≡ of_stream (cost_of rate) other = λ i k. same_cost k i in
        ap (λ (f : ℕ → ℕ). max_where (is_below (place_at one above index rate ahead)) f (length one)) costs
        ∙ ap (λ (n : ℕ). max_where (is_below (place_at one above index rate ahead)) (of_stream (cost_of rate) other) n) same_length

    same_sum : (time : ℕ) → sum_where (is_above (place_at one above index rate ahead)) (of_stream (load_of rate ahead time) one) (length one) ≡ sum_where (is_above (place_at other above index rate ahead)) (of_stream (load_of rate ahead time) other) (length other)
    same_sum time =
        let loads : of_stream (load_of rate ahead time) one ≡ of_stream (load_of rate ahead time) other = λ i k. same_load time k i in
        ap (λ (f : ℕ → ℕ). sum_where (is_above (place_at one above index rate ahead)) f (length one)) loads
        ∙ ap (λ (n : ℕ). sum_where (is_above (place_at one above index rate ahead)) (of_stream (load_of rate ahead time) other) n) same_length

    same_busy : (t : ℕ) → busy_at (place_at one above index rate ahead) t ≡ busy_at (place_at other above index rate ahead) t
    unfolding busy_at
    same_busy t = omega (arith, same_most, same_load t index, same_sum t)

    same_product : (q : ℕ) → q * of_stream (cost_of rate) one index ≡ q * of_stream (cost_of rate) other index
    same_product q = ap (λ (c : ℕ). q * c) (same_cost index)

    same_queueing : (q w : ℕ) → queueing_at (place_at one above index rate ahead) q w ≡ queueing_at (place_at other above index rate ahead) q w
    unfolding queueing_at
    same_queueing q w = omega (arith, same_most, same_product q, same_sum (w + ticks_of rate))

    same_period : (q : ℕ) → q * period_at (place_at one above index rate ahead) ≡ q * period_at (place_at other above index rate ahead)
    same_period q = ap (λ (c : ℕ). q * c) (same_number (λ (t : Asking). t.period) index)

    same_jitter : jitter_at (place_at one above index rate ahead) ≡ jitter_at (place_at other above index rate ahead)
    same_jitter = same_number (λ (t : Asking). if t.every == 0 then t.jitter else ahead + t.jitter) index

    response_same : (q r : ℕ) → IsResponse (place_at one above index rate ahead) q r → IsResponse (place_at other above index rate ahead) q r
    response_same q r h =
        let equation : queueing_at (place_at one above index rate ahead) q ≡ queueing_at (place_at other above index rate ahead) q = λ i w. same_queueing q w i in
        record {
          wait = h.wait;
          queueing = subst (λ (f : ℕ → ℕ). IsLeastSolution f 0 h.wait) equation h.queueing;
          response = omega (arith, h.response, same_jitter, same_cost index, same_period q);
        }

    -- what is on time by the deadline of the one is on time by that of the other
    pub passes_same : ((r : ℕ) → IsOnTime (place_at one above index rate ahead) r → IsOnTime (place_at other above index rate ahead) r)
        → Passes (place_at one above index rate ahead) → Passes (place_at other above index rate ahead)
    passes_same in_time h =
        let equation : busy_at (place_at one above index rate ahead) ≡ busy_at (place_at other above index rate ahead) = λ i t. same_busy t i in
        record {
          time = h.time;
          busy = subst (λ (f : ℕ → ℕ). IsLeastSolution f 1 h.time) equation h.busy;
          within = h.within;
          on_time = λ q queued.
              let found = h.on_time q (omega (arith, queued, same_period q, same_jitter)) in
              (found.0, response_same q found.0 found.1, in_time found.0 found.2);
        }

    same_response_at : (t n : ℕ) → response_at (place_at one above index rate ahead) t n ≡ response_at (place_at other above index rate ahead) t n
    same_response_at t n =
        let equation : queueing_at (place_at one above index rate ahead) n ≡ queueing_at (place_at other above index rate ahead) n = λ i w. same_queueing n w i in
        let waits : unwrap_or (fixed_point (queueing_at (place_at one above index rate ahead) n) 0 t) 0 ≡ unwrap_or (fixed_point (queueing_at (place_at other above index rate ahead) n) 0 t) 0 =
        ap (λ (f : ℕ → ℕ). unwrap_or (fixed_point f 0 t) 0) equation in
        omega (arith, waits, same_jitter, same_cost index, same_period n)

    one_period : period_at (place_at one above index rate ahead) ≡ period_at (place_at other above index rate ahead)
    one_period = same_number (λ (t : Asking). t.period) index

    same_within : (t : ℕ) → greatest_within (place_at one above index rate ahead) t ≡ greatest_within (place_at other above index rate ahead) t
    same_within t =
        let responses : response_at (place_at one above index rate ahead) t ≡ response_at (place_at other above index rate ahead) t = λ i n. same_response_at t n i in
        ap (λ (f : ℕ → ℕ). max_where (λ q. true) f (div_ceil (t + jitter_at (place_at one above index rate ahead)) (period_at (place_at one above index rate ahead)))) responses
        ∙ ap (λ (j : ℕ). max_where (λ q. true) (response_at (place_at other above index rate ahead) t) (div_ceil (t + j) (period_at (place_at one above index rate ahead)))) same_jitter
        ∙ ap (λ (period : ℕ). max_where (λ q. true) (response_at (place_at other above index rate ahead) t) (div_ceil (t + jitter_at (place_at other above index rate ahead)) period)) one_period

    pub same_greatest : greatest_response (place_at one above index rate ahead) ≡ greatest_response (place_at other above index rate ahead)
    same_greatest =
        let equation : busy_at (place_at one above index rate ahead) ≡ busy_at (place_at other above index rate ahead) = λ i t. same_busy t i in
        let responses : greatest_within (place_at one above index rate ahead) ≡ greatest_within (place_at other above index rate ahead) = λ i t. same_within t i in
        ap (λ (f : ℕ → ℕ). option_map f (fixed_point (busy_at (place_at one above index rate ahead)) 1 horizon)) responses
        ∙ ap (λ (f : ℕ → ℕ). option_map (greatest_within (place_at other above index rate ahead)) (fixed_point f 1 horizon)) equation
