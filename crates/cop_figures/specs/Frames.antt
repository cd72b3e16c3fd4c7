-- SYNC and the SDO frames with deadlines under a plan.
use Rattle.std.specs.Prelude.{ℕ, ◌≡◌, ◌<◌, ◌≤◌, nat_lt, List, length, slice_get, Option, None, Some, All, AllPairs, Any}
use Rattle.std.specs.Option.{option_and_then, option_map}
use Rattle.cop_frame.specs.declared.rates.Rate.{Rate}
use Rattle.cop_rta.specs.declared.streams.Stream.{Stream}
use Rattle.cop_rta.specs.Ranges.{second_range}
use Rattle.cop_rta.specs.Test.{StreamPlace, sync_id, sync_response, place_by_id}
use Rattle.cop_rta.specs.Verdict.{PassesBy, IsJudged, IsPass}
use Rattle.cop_cert.specs.Assignments.{id_at, IsTested}
use Rattle.cop_cert.specs.Sets.{trial}
use Rattle.cop_plan.specs.Values.{PlanValue, id_of}
use Rattle.cop_figures.specs.declared.frames.FrameTimes.{FrameTimes}
use Rattle.cop_figures.specs.declared.frames.SyncTimes.{SyncTimes}
use Rattle.cop_figures.specs.Reasons.{frame_of}

-- SYNC under a plan, with its greatest response, where it has one
abbrev pub sync_times : PlanValue → Option SyncTimes
sync_times plan =
    option_and_then (λ s. option_map (λ r. record { stream = s; response = r }) (sync_response plan.streams plan.rate)) (frame_of plan.streams sync_id)

-- the place of an SDO frame with all PDOs above it, and the fixed frames with lower identifiers
abbrev pub place_below_all : List Stream → ℕ → Rate → ℕ → StreamPlace
place_below_all streams pdos rate frame = trial (id_at streams frame) rate streams pdos (λ p. nat_lt p pdos) frame

-- an SDO frame with a deadline under a plan: its stream, its greatest response by the response-time test, and what the test says of
-- it below all PDOs
pub record IsFrameTimed (streams : List Stream) (plan : PlanValue) (t : FrameTimes) : Type 0 where
  pub tested : IsTested plan.streams (length plan.ids) t.place
  pub stream : slice_get plan.streams t.place ≡ Some t.stream
  pub response : PassesBy (place_by_id plan.streams t.place plan.rate) t.response
  pub below_all : IsJudged (place_below_all streams (length plan.ids) plan.rate t.place) t.below_all

-- the SDO frames with deadlines, in the order of the streams, and no others
pub record AreFrames (streams : List Stream) (plan : PlanValue) (frames : List FrameTimes) : Type 0 where
  pub rise : AllPairs (λ t u. t.place < u.place) frames
  pub each : All (IsFrameTimed streams plan) frames
  pub every : (f : ℕ) → IsTested plan.streams (length plan.ids) f → Any (λ t. t.place ≡ f) frames

-- where a PDO has an identifier of the second range, and not by a margin, some SDO frame fails below all PDOs
abbrev pub TellsWhy : PlanValue → List FrameTimes → Type 0
TellsWhy plan frames = plan.margin ≡ None → (p : ℕ) → p < length plan.ids → second_range.least ≤ id_of plan.ids p → Any (λ t. IsPass t.below_all → ⊥) frames
