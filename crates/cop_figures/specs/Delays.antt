-- What the greatest response of a PDO is made of: the terms of the equation of its wait, at its solution (Davis et al. 2007, sections 3.1
-- and 3.2).
use Rattle.std.specs.Prelude.{ℕ, ◌≡◌, ◌+◌, ◌-◌, ◌*◌, nat_lt, List, map, filter, sum_by, All}
use Rattle.std.specs.Int.{div_ceil}
use Rattle.cop_frame.specs.declared.rates.Rate.{Rate}
use Rattle.cop_frame.specs.Rate.{ticks_of}
use Rattle.cop_rta.specs.declared.streams.Stream.{Stream}
use Rattle.cop_rta.specs.Solutions.{IsLeastSolution}
use Rattle.cop_rta.specs.Test.{StreamPlace, of_stream, jitter_of, load_of, jitter_at, period_at, cost_at, blocking, queueing_at, place_by_id}
use Rattle.cop_rta.specs.Verdict.{PassesBy}
use Rattle.cop_plan.specs.Values.{PlanValue}
use Rattle.cop_figures.specs.declared.delays.Delay.{Delay}
use Rattle.cop_figures.specs.declared.delays.Breakdown.{Breakdown}

-- what a stream puts in front of a wait: the transfers that it may have queued up to the bit time after it
abbrev pub delay_by : Rate → ℕ → ℕ → Stream → Delay
delay_by rate ahead wait s = record {
  id = s.id;
  transfers = div_ceil (wait + ticks_of rate + jitter_of ahead s) s.period;
  ticks = load_of rate ahead (wait + ticks_of rate) s;
}

-- those of the streams with lower identifiers than one, in their order
abbrev pub delays_before : List Stream → Rate → ℕ → ℕ → ℕ → List Delay
delays_before streams rate ahead id wait = map (delay_by rate ahead wait) (filter (λ s. nat_lt s.id id) streams)

-- The greatest response of a stream at its place is that of an instance which waits so long: for the longest transfer from below, for its
-- own instances before it, and for the transfers of lower identifiers.
pub record IsBrokenDown (p : StreamPlace) (b : Breakdown) : Type 0 where
  pub greatest : PassesBy p b.response
  pub waits : IsLeastSolution (queueing_at p b.instance) 0 b.wait
  pub response : b.response ≡ b.jitter + b.wait + b.transfer - b.instance * period_at p
  pub jitter : b.jitter ≡ jitter_at p
  pub transfer : b.transfer ≡ cost_at p
  pub blocking : b.blocking ≡ blocking p
  pub delays : b.delays.items ≡ delays_before p.streams p.rate p.ahead (of_stream (λ s. s.id) p.streams p.index) b.wait
  pub sum : b.wait ≡ b.blocking + (b.instance * b.transfer + sum_by (λ d. d.ticks) b.delays.items)

-- the PDOs of a plan, that with the lowest identifier first
pub record AreBrokenDown (plan : PlanValue) (parts : List Breakdown) : Type 0 where
  pub pdos : map (λ b. b.pdo) parts ≡ plan.order
  pub each : All (λ b. IsBrokenDown (place_by_id plan.streams b.pdo plan.rate) b) parts
