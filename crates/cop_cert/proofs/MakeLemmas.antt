-- The chains that are made are whole, and they are evidence.
use Rattle.std.specs.declared.alloc.AllocError.{AllocError}
use Rattle.std.proofs.Common.{Result, Ok, Err, IfOk, ◌≡◌, ℕ, ◌+◌, ◌*◌, ◌^◌, ◌<◌, ◌≤◌, ◌⊎◌, inl, inr, List, [], ◌∷◌, length, get_or, slice_get, Some, None, sym, arith, le_antisymm, le_of_eq, zero-le, mul-le-mul_left, ⊎_elim}
use Rattle.std.proofs.lemmas.Bool.{cases_lt}
use Rattle.std.proofs.lemmas.Option.{slice_get_cases}
use Rattle.cop_rta.specs.declared.streams.Stream.{Stream}
use Rattle.cop_rta.specs.Test.{StreamPlace, jitter_of, busy_at, queueing_at, blocking, cost_at, horizon, IsBusyTime, IsQueuedWithin}
use Rattle.cop_rta.specs.TestLemmas.{busy_at-mono, queueing_at-mono}
use Rattle.cop_rta.specs.Verdict.{IsLong, IsFirstLate}
use Rattle.cop_rta.proofs.LeastLemmas.{same_least}
use Rattle.cop_rta.specs.Paces.{most_ahead}
use Rattle.cop_rta.proofs.QueueLemmas.{wait_exists_at}
use Rattle.cop_rta.proofs.BoundLemmas.{jitter_most}
use Rattle.cop_cert.specs.Evidence.{Climbs, IsClimb, first_of, last_after, last_of}
use Rattle.cop_cert.specs.Chains.{Follows, IsRun, IsChain, IsWholeChain, EndsAbove, EndsSolved, IsQueueOf}
use Rattle.cop_cert.proofs.EvidenceLemmas.{climb_below}

module _ (f : ℕ → ℕ) (limit : ℕ) where
  follows_climbs : (a : ℕ) (rest : List ℕ) → Follows f limit a rest → Climbs f a rest
  unfolding Follows Climbs
  follows_climbs a [] h = tt
  follows_climbs a (b ∷ rest) h = (h.1, le_of_eq h.2, follows_climbs b rest h.3)

  pub run_climbs : (numbers : List ℕ) → IsRun f limit numbers → IsClimb f numbers
  run_climbs [] h = h
  run_climbs (a ∷ rest) h = follows_climbs a rest h

  rises_from : (a : ℕ) (rest : List ℕ) → Follows f limit a rest → a ≤ last_after a rest
  unfolding Follows last_after
  rises_from a [] h = omega arith
  rises_from a (b ∷ rest) h = omega (arith, h.1, rises_from b rest h.3)

  first_least : (numbers : List ℕ) → IsRun f limit numbers → first_of numbers ≤ last_of numbers
  first_least [] h = absurd h
  first_least (a ∷ rest) h = rises_from a rest h

  -- a chain to a solution, where one is within the limit
  pub to_solution : (from : ℕ) (numbers : List ℕ) (top : ℕ) → ((x y : ℕ) → x ≤ y → f x ≤ f y) → IsChain f from limit numbers → from ≤ top → f top ≤ top → top ≤ limit
      → ((last_of numbers ≤ limit) → last_of numbers ≡ f (last_of numbers)) → EndsSolved f from limit numbers
  to_solution from numbers top rises c low closed within ends =
      let le = climb_below f rises top closed numbers (omega (arith, c.begins, low)) (run_climbs numbers c.follows) in
      record { chain = c; within = omega (arith, le, within); solves = ends (omega (arith, le, within)) }

end_solves : (f : ℕ → ℕ) (limit last : ℕ) → (limit < last) ⊎ (last ≡ f last) → last ≤ limit → last ≡ f last
end_solves f limit last (inl above) h = absurd (omega arith)
end_solves f limit last (inr e) h = e

-- few instances are queued within the horizon
few_queued : (p : StreamPlace) (t q : ℕ) → p.index < length p.streams → p.ahead ≤ most_ahead → t ≤ horizon → IsQueuedWithin p t q → q ≤ 2 ^ 21
few_queued p t q inside small within queued = go (slice_get_cases p.streams p.index).1
  where
    go : ((s : Stream) × (p.index < length p.streams) × (slice_get p.streams p.index ≡ Some s) × (get_or p.streams p.index s ≡ s)) ⊎ ((length p.streams ≤ p.index) × (slice_get p.streams p.index ≡ None))
        → q ≤ 2 ^ 21
    go (inl s) =
        let low : q * s.0.period < t + jitter_of p.ahead s.0 = rw s.2 at queued in
        let more : q * 400 ≤ q * s.0.period = mul-le-mul_left q s.0.period_least in
        omega (arith, more, low, within, jitter_most p.ahead s.0 small)
    go (inr past) = absurd (omega (arith, past.0, inside))

-- where the chain of the busy equation ends at a solution, that is the busy time
pub is_busy_time : (p : StreamPlace) (numbers : List ℕ) → IsChain (busy_at p) 1 horizon numbers → last_of numbers ≡ busy_at p (last_of numbers) → IsBusyTime p (last_of numbers)
is_busy_time p numbers c solves = record {
  within = omega (arith, c.begins, first_least (busy_at p) horizon numbers c.follows);
  solves = solves;
  least = λ y start e. climb_below (busy_at p) (busy_at-mono p) y (le_of_eq (sym e)) numbers (omega (arith, c.begins, start)) (run_climbs (busy_at p) horizon numbers c.follows);
}

module _ (p : StreamPlace) where
  pub busy_solved : (numbers : List ℕ) (t : ℕ) → IsWholeChain (busy_at p) 1 horizon numbers → IsBusyTime p t → t ≤ horizon → EndsSolved (busy_at p) 1 horizon numbers
  busy_solved numbers t whole busy within =
      to_solution (busy_at p) horizon 1 numbers t (busy_at-mono p) whole.chain busy.within (le_of_eq (sym busy.solves)) within (end_solves (busy_at p) horizon (last_of numbers) whole.ends)

  pub busy_above : (numbers : List ℕ) → IsWholeChain (busy_at p) 1 horizon numbers → IsLong p → EndsAbove (busy_at p) 1 horizon numbers
  busy_above numbers whole long = record {
    chain = whole.chain;
    above = ⊎_elim
        (λ (above : horizon < last_of numbers). above)
        (λ (within : last_of numbers ≤ horizon). long (last_of numbers) (is_busy_time p numbers whole.chain (end_solves (busy_at p) horizon (last_of numbers) whole.ends within)))
        (cases_lt horizon (last_of numbers));
  }

  module _ (inside : p.index < length p.streams) (q r : ℕ) (late : IsFirstLate p q r) where
    wait_within : late.answers.wait ≤ horizon
    wait_within =
        let w = wait_exists_at p late.time q inside late.busy late.queued in
        omega (arith, same_least (queueing_at p q) 0 late.answers.wait w.0 late.answers.queueing w.1, w.2, late.within)

    wait_starts : blocking p + q * cost_at p ≤ late.answers.wait
    unfolding queueing_at
    wait_starts = omega (arith, late.answers.queueing.solves)

    pub start_within : blocking p + q * cost_at p ≤ horizon
    start_within = omega (arith, wait_starts, wait_within)

    pub start_rises : blocking p + q * cost_at p ≤ queueing_at p q (blocking p + q * cost_at p)
    unfolding queueing_at
    start_rises = omega arith

    pub few_instances : p.ahead ≤ most_ahead → q ≤ 2 ^ 21
    few_instances small = few_queued p late.time q inside small late.within late.queued

    queue_made : (numbers : List ℕ) → IsWholeChain (queueing_at p q) (blocking p + q * cost_at p) horizon numbers → IsQueueOf p q numbers
    queue_made numbers whole =
        let w : ℕ = late.answers.wait in
        let closed : queueing_at p q w ≤ w = le_of_eq (sym late.answers.queueing.solves) in
        let solved = to_solution (queueing_at p q) horizon (blocking p + q * cost_at p) numbers w (queueing_at-mono p q) whole.chain wait_starts closed wait_within
        (end_solves (queueing_at p q) horizon (last_of numbers) whole.ends) in
        let below = climb_below (queueing_at p q) (queueing_at-mono p q) w closed numbers (omega (arith, whole.chain.begins, wait_starts)) (run_climbs (queueing_at p q) horizon numbers whole.chain.follows) in
        let same : w ≡ last_of numbers = le_antisymm (late.answers.queueing.least (last_of numbers) zero-le solved.solves) below in
        record {
          waits = solved;
          first = rw (← same, ← late.answers.response) late;
        }

    -- what the code has made, where memory was there
    pub queue_all : (result : Result (List ℕ) AllocError) → IfOk result (IsWholeChain (queueing_at p q) (blocking p + q * cost_at p) horizon) → IfOk result (IsQueueOf p q)
    queue_all (Ok numbers) whole = queue_made numbers whole
    queue_all (Err e) whole = tt
