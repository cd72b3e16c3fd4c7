-- What a plan says, and the streams under its identifiers.
use Rattle.std.specs.Prelude.{◌≡◌, ℕ, ◌<◌, ◌≤◌, List, length, map, get_or, slice_get, Option, None, Some, [], nat_lt, if◌then◌else◌}
use Rattle.std.specs.Option.{option_map_or, option_and_then}
use Rattle.cop_frame.specs.declared.rates.Rate.{Rate}
use Rattle.cop_rta.specs.declared.streams.Stream.{Stream}
use Rattle.cop_rta.specs.Errors.{bus_of}
use Rattle.cop_rta.specs.Test.{Passes, of_stream, place_by_id}
use Rattle.cop_cert.specs.declared.refusals.Refusal.{Refusal}
use Rattle.cop_plan.specs.declared.choices.Kept.{Kept}
use Rattle.cop_cert.specs.Assignments.{least_id, id_under, IsTested}

-- the rate, the PDOs by priority, their identifiers, the margins that they were chosen by, the refusals of slower rates, and all streams
-- under their identifiers
pub record PlanValue : Type 0 where
  pub rate : Rate
  pub order : List ℕ
  pub ids : List ℕ
  pub margin : Option Kept
  pub refusals : List Refusal
  pub streams : List Stream

-- the same on the bus alone: without disturbed transfers, NMT under its own identifier, and without the refusals
abbrev pub on_bus : PlanValue → PlanValue
on_bus plan = record { rate = plan.rate; order = plan.order; ids = plan.ids; margin = plan.margin; refusals = []; streams = bus_of plan.streams }

-- by how many ticks each deadline can be lowered
abbrev pub margin_of : PlanValue → ℕ
margin_of plan = option_map_or (λ kept. kept.all) plan.margin 0

-- the margin that is kept by those that can have it, if it is greater than that of all
abbrev pub beyond_all : Kept → Option ℕ
beyond_all kept = if nat_lt kept.all kept.others then Some kept.others else None

abbrev pub others_beyond : Option Kept → Option ℕ
others_beyond kept = option_and_then beyond_all kept

-- the identifier of a PDO
abbrev pub id_of : List ℕ → ℕ → ℕ
id_of ids p = get_or ids p 0

-- what identifiers leave as it is
pub record Timing : Type 0 where
  pub bytes : ℕ
  pub period : ℕ
  pub jitter : ℕ
  pub deadline : Option ℕ
  pub every : ℕ

abbrev pub timing_of : Stream → Timing
timing_of s = record { bytes = s.bytes; period = s.period; jitter = s.jitter; deadline = s.deadline; every = s.every }

-- the same streams in their order, the PDOs under other identifiers
pub record HaveIds (streams : List Stream) (pdos : ℕ) (ids : ℕ → ℕ) (renamed : List Stream) : Type 0 where
  pub timings : map timing_of renamed ≡ map timing_of streams
  pub each : (k : ℕ) → k < length streams → of_stream (λ s. s.id) renamed k ≡ id_under streams pdos ids k

-- each PDO has a deadline
abbrev pub HaveDeadlines : List Stream → ℕ → Type 0
HaveDeadlines streams pdos = (p : ℕ) → p < pdos → (d : ℕ) × (option_and_then (λ s. s.deadline) (slice_get streams p) ≡ Some d)

-- each PDO has an identifier that PDOs may have, 181h or above, before it gets its own
abbrev pub ArePdosHigh : List Stream → ℕ → Type 0
ArePdosHigh streams pdos = (p : ℕ) → p < pdos → least_id ≤ of_stream (λ s. s.id) streams p

-- each PDO has a deadline and passes, lower identifiers being above, and each SDO frame with a deadline passes
pub record AreOnTime (rate : Rate) (streams : List Stream) (pdos : ℕ) : Type 0 where
  pub deadlines : HaveDeadlines streams pdos
  pub pass : (p : ℕ) → p < pdos → Passes (place_by_id streams p rate)
  pub frames : (f : ℕ) → IsTested streams pdos f → Passes (place_by_id streams f rate)

-- some SDO frame has a deadline
abbrev pub HasTested : List Stream → ℕ → Type 0
HasTested streams pdos = (f : ℕ) × IsTested streams pdos f
