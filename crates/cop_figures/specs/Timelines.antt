-- The bus over time, as a trace tells it.
use Rattle.std.specs.Prelude.{◌≡◌, ◌⊎◌, ◌↔◌, ◌==◌, ℕ, List, length, map, filter, take, Some, Ok, Err}
use Rattle.std.specs.List.{Contains}
use Rattle.std.specs.List.Sorted.{IsStrictlySortedBy}
use Rattle.std.specs.Ordering.{nat_cmp}
use Rattle.cop_frame.specs.declared.rates.Rate.{Rate}
use Rattle.cop_frame.specs.Rate.{ticks_of}
use Rattle.cop_rta.specs.declared.streams.Stream.{Stream}
use Rattle.cop_bus.specs.declared.transfers.Transfer.{Transfer}
use Rattle.cop_bus.specs.declared.faults.BusFault.{BusFault}
use Rattle.cop_bus.specs.declared.faults.BusFault.TheVariants.{Refused, Memory}
use Rattle.cop_bus.specs.Trace.{IsLegalTrace}
use Rattle.cop_bus.specs.Judge.{first_broken}
use Rattle.cop_bus.specs.Late.{first_late}
use Rattle.cop_bus.specs.Reading.{Told, trace_of}
use Rattle.cop_bus.specs.Transfers.{transfers_of}
use Rattle.cop_figures.specs.declared.timelines.Lane.{Lane}
use Rattle.cop_figures.specs.declared.timelines.Timeline.{Timeline}

-- the lane of an identifier: its transfers, in the order in which their instances are queued
abbrev pub lane_of : List Transfer → ℕ → Lane
lane_of transfers id = record { id = id; transfers = filter (λ t. t.id == id) transfers }

-- the lanes of transfers by rising identifier: one for each identifier that sends, and none for another
pub record AreLanes (transfers : List Transfer) (lanes : List Lane) : Type 0 where
  pub ids : List ℕ
  pub rise : IsStrictlySortedBy nat_cmp ids
  pub send : (id : ℕ) → Contains ids id ↔ Contains (map (λ t. t.id) transfers) id
  pub are : lanes ≡ map (lane_of transfers) ids

-- how many transfers are shown at most
abbrev pub most_shown : ℕ
most_shown = 5000

-- The text is a trace of a legal run in which all streams obey, and this is shown of it: its end, how many transfers end in it,
-- the lanes of the first of these, and the first instance that is late.
pub record IsTimeline (rate : Rate) (streams : List Stream) (text : List ℕ) (timeline : Timeline) : Type 0 where
  pub told : Told
  pub read : trace_of text ≡ Ok told
  pub legal : IsLegalTrace (ticks_of rate) streams told.until told.steps
  pub until : timeline.until ≡ told.until
  pub ended : timeline.ended ≡ length (transfers_of (ticks_of rate) told.until told.steps)
  pub lanes : AreLanes (take most_shown (transfers_of (ticks_of rate) told.until told.steps)) timeline.lanes.items
  pub late : timeline.late ≡ first_late (ticks_of rate) streams told.until told.steps

-- the text is no trace, or its first step that breaks a rule is this
abbrev pub ExplainsTimeline : Rate → List Stream → List ℕ → BusFault → Type 0
ExplainsTimeline rate streams text (Refused place number) =
    (trace_of text ≡ Err (place, number)) ⊎ ((told : Told) × (trace_of text ≡ Ok told) × (first_broken (ticks_of rate) streams told.until told.steps ≡ Some (place, number)))
ExplainsTimeline rate streams text Memory = Unit {0}
