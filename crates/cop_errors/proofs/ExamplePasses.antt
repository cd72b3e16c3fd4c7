-- The example's stream passes with the errors above it, with nothing to spare.
use Rattle.std.proofs.Common.{◌≡◌, ℕ, zero, suc, ◌+◌, ◌*◌, ◌≤◌, ◌<◌, [], ◌∷◌, refl, arith, Some, length, lit≤}
use Rattle.std.specs.Option.{ForSome}
use Rattle.cop_frame.specs.declared.rates.Rate.TheVariants.{Kbit250}
use Rattle.cop_frame.specs.Lengths.{worst_bits}
use Rattle.cop_rta.specs.Sums.{sum_where, max_where}
use Rattle.cop_rta.specs.Test.{StreamPlace, Passes, place_by_id, IsQueuedWithin, busy_at, queueing_at, deadline_at, jitter_at, cost_at, period_at}
use Rattle.cop_rta.proofs.WitnessLemmas.{witnesses_pass}
use Rattle.cop_rta.specs.UpLemmas.{up_id}
use Rattle.cop_rta.specs.Errors.{tested}
use Rattle.cop_errors.specs.Example.{one_pdo, each_ten}

abbrev place : StreamPlace
place = place_by_id (tested (Some each_ten) (one_pdo ∷ [])) 0 Kbit250

closed : busy_at place 4816 ≤ 4816
unfolding busy_at sum_where max_where worst_bits up_id
closed = lit≤ tt

each : (q : ℕ) → IsQueuedWithin place 4816 q → (w : ℕ) × (queueing_at place q w ≤ w) × ForSome (deadline_at place) (λ d. jitter_at place + w + cost_at place ≤ d + q * period_at place)
unfolding queueing_at sum_where max_where worst_bits up_id
each zero h = (2656, lit≤ tt, λ d e. (let s : 4816 ≡ d = cc in omega (arith, s)))
each (suc n) h = absurd (let l : suc n * 40000 < 4816 + 0 = h in omega (arith, l))

pub example_passes : Passes place
example_passes = witnesses_pass place (lit≤ tt) (record { time = 4816; started = lit≤ tt; within = lit≤ tt; closed = closed; each = each })
