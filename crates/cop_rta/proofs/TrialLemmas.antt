-- A trial: the instances of a busy time one after the other, until one is late.
use Rattle.std.proofs.Common.{◌≡◌, ℕ, ◌+◌, ◌-◌, ◌*◌, ◌^◌, ◌<◌, ◌≤◌, min, Option, Some, slice_get, refl, ◌∙◌, subst, arith, ⊎_elim}
use Rattle.std.proofs.lemmas.Bool.{cases_lt}
use Rattle.std.specs.Int.{div_ceil}
use Rattle.std.specs.Option.{ForSome}
use Rattle.cop_rta.specs.declared.streams.Stream.{Stream}
use Rattle.cop_rta.specs.Solutions.{IsLeastSolution}
use Rattle.cop_rta.specs.Test.{StreamPlace, Passes, IsResponse, IsOnTime, IsBusyTime, IsQueuedWithin, busy_at, queueing_at, cost_of, jitter_of, cost_at, jitter_at, period_at, horizon}
use Rattle.cop_rta.specs.CeilLemmas.{div_ceil_above, below_div_ceil}
use Rattle.cop_rta.proofs.LeastLemmas.{same_least}
use Rattle.cop_rta.proofs.QueueLemmas.{wait_exists}

-- the instances below n are on time
pub record AreOnTimeBelow (p : StreamPlace) (n : ℕ) : Type 0 where
  pub each : (k : ℕ) → k < n → (r : ℕ) × IsResponse p k r × IsOnTime p r

pub none_yet : (p : StreamPlace) → AreOnTimeBelow p 0
none_yet p = record { each = λ k h. absurd (omega arith) }

in_time : (j w c x d most : ℕ) → j + most + c ≡ d + x → w ≤ most → j + w + c - x ≤ d
in_time j w c x d most e h = omega arith

at_deadline : (o : Option ℕ) (d r : ℕ) → o ≡ Some d → r ≤ d → ForSome o (λ d. r ≤ d)
at_deadline o d r is h = λ x some. let same : d ≡ x = cc in omega (arith, same, h)

module _ (p : StreamPlace) (s : Stream) (here : slice_get p.streams p.index ≡ Some s) where
  response_here : (q w : ℕ) → jitter_at p + w + cost_at p - q * period_at p ≡ jitter_of p.ahead s + w + cost_of p.rate s - q * s.period
  response_here q w = rw here refl

  -- a wait that is no longer than the deadline allows
  pub one_more : (q d w most : ℕ) → s.deadline ≡ Some d → jitter_of p.ahead s + most + cost_of p.rate s ≡ d + q * s.period → IsLeastSolution (queueing_at p q) 0 w → w ≤ most → AreOnTimeBelow p q → AreOnTimeBelow p (q + 1)
  one_more q d w most due latest waits low before = record {
    each = λ k h. ⊎_elim (λ (lt : k < q). before.each k lt) (λ (le : q ≤ k). same k (omega arith)) (cases_lt k q);
  }
    where
      answer : (r : ℕ) × IsResponse p q r × IsOnTime p r
      answer = (
        jitter_at p + w + cost_at p - q * period_at p,
        record { wait = w; queueing = waits; response = refl },
        rw here (at_deadline s.deadline d (jitter_of p.ahead s + w + cost_of p.rate s - q * s.period) due (in_time (jitter_of p.ahead s) w (cost_of p.rate s) (q * s.period) d most latest low)),
      )

      same : (k : ℕ) → q ≡ k → (r : ℕ) × IsResponse p k r × IsOnTime p r
      same k e = subst (λ (k : ℕ). (r : ℕ) × IsResponse p k r × IsOnTime p r) e answer

  -- all instances of the busy time were looked at
  pub all_on_time : (t n : ℕ) → IsBusyTime p t → t ≤ horizon → n ≡ div_ceil (t + jitter_of p.ahead s) s.period → AreOnTimeBelow p n → Passes p
  all_on_time t n busy within all on_time = record {
    time = t;
    busy = busy;
    within = within;
    on_time = λ q queued. on_time.each q (rw all (div_ceil_above q (t + jitter_of p.ahead s) s.period (omega (arith, s.period_least)) (rw here at queued)));
  }

  -- an instance of the busy time whose wait is longer than the deadline allows
  pub late : (t n q d : ℕ) → s.deadline ≡ Some d → IsBusyTime p t → n ≡ div_ceil (t + jitter_of p.ahead s) s.period → q < n
      → ((w : ℕ) → IsLeastSolution (queueing_at p q) 0 w → jitter_of p.ahead s + w + cost_of p.rate s ≤ d + q * s.period → ⊥) → Passes p → ⊥
  late t n q d due busy all lt none passes =
      let same : t ≡ passes.time = same_least (busy_at p) 1 t passes.time busy passes.busy in
      let queued : q * s.period < t + jitter_of p.ahead s = below_div_ceil q (t + jitter_of p.ahead s) s.period (omega (arith, s.period_least)) (rw all at lt) in
      let queued_there : IsQueuedWithin p t q = rw here queued in
      let answer = passes.on_time q (subst (λ (t : ℕ). IsQueuedWithin p t q) same queued_there) in
      let wait : ℕ = answer.1.wait in
      let is : answer.0 ≡ jitter_of p.ahead s + wait + cost_of p.rate s - q * s.period = answer.1.response ∙ response_here q wait in
      let met : answer.0 ≤ d = answer.2 d (rw here due) in
      none wait answer.1.queueing (omega (arith, is, met))

  -- no number that is allowed is a wait
  pub none_waits : (q d most : ℕ) → jitter_of p.ahead s + most + cost_of p.rate s ≡ d + q * s.period → most < 2 ^ 64 - 1 → ((x : ℕ) → 0 ≤ x → x ≤ most → x ≡ min (queueing_at p q x) (2 ^ 64 - 1) → ⊥)
      → (w : ℕ) → IsLeastSolution (queueing_at p q) 0 w → jitter_of p.ahead s + w + cost_of p.rate s ≤ d + q * s.period → ⊥
  none_waits q d most latest small none w waits met =
      let solves : w ≡ queueing_at p q w = waits.solves in
      none w (omega arith) (omega (arith, latest, met)) (omega (arith, solves, latest, met, small))

  -- no response is longer than the jitter and the busy time
  pub slack : (t : ℕ) → ForSome s.deadline (λ d. jitter_of p.ahead s + t ≤ d) → IsBusyTime p t → t ≤ horizon → Passes p
  slack t enough busy within = record {
    time = t;
    busy = busy;
    within = within;
    on_time = λ q queued.
        let w = wait_exists p s t q here busy queued in (
          jitter_at p + w.0 + cost_at p - q * period_at p,
          record { wait = w.0; queueing = w.1; response = refl },
          rw here (λ d due. short d (enough d due) w.0 w.2 (q * s.period)),
        );
  }
    where
      short : (d : ℕ) → jitter_of p.ahead s + t ≤ d → (w : ℕ) → w + cost_of p.rate s ≤ t → (x : ℕ) → jitter_of p.ahead s + w + cost_of p.rate s - x ≤ d
      short d le w room x = omega (arith, le, room)

-- one deadline
pub enough_for : (o : Option ℕ) (found d n : ℕ) → o ≡ Some found → o ≡ Some d → n ≤ found → n ≤ d
enough_for o found d n is due le = let same : found ≡ d = cc in omega (arith, same, le)
