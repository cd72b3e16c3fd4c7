-- The SYNCs of a play, as the simulator notes them for its synchronous streams.
use Rattle.std.specs.Prelude.{◌≡◌, ℕ, ◌*◌, List, [], ◌∷◌, ◌++◌, Option, Bool, true, suc, length, slice_get, nat_lt, ◌==◌, ◌&&◌, if◌then◌else◌}
use Rattle.std.specs.List.{list_any}
use Rattle.cop_rta.specs.declared.streams.Stream.{Stream}
use Rattle.cop_rta.specs.Test.{sync_id}
use Rattle.cop_bus.specs.declared.steps.Step.{Step}
use Rattle.cop_bus.specs.declared.steps.Step.TheVariants.{Queue, Start, End}
use Rattle.cop_bus.specs.Ends.{Ended, ended_by}
use Rattle.cop_sim.specs.declared.cues.Cue.{Cue}
use Rattle.cop_sim.specs.declared.cues.Cue.TheVariants.{Own}
use Rattle.cop_sim.specs.Cues.{cue_after, awaited_sync}

-- whether they are noted, and by number their events and the ends of their transfers
pub record SyncsValue : Type 0 where
  pub synchronous : Bool
  pub events : List ℕ
  pub ends : List ℕ

abbrev pub some_synchronous : List Stream → Bool
some_synchronous streams = list_any (λ k. nat_lt 0 k.every) streams

-- the events of the SYNCs that the steps queue
abbrev pub sync_events : List Step → List ℕ
sync_events [] = []
sync_events (Queue id at event frame ∷ steps) = if id == sync_id then event ∷ sync_events steps else sync_events steps
sync_events (Start id at ∷ steps) = sync_events steps
sync_events (End id at ∷ steps) = sync_events steps

-- the moments at which SYNCs end
abbrev pub sync_ends : List Step → List ℕ
sync_ends [] = []
sync_ends (End id at ∷ steps) = if id == sync_id then at ∷ sync_ends steps else sync_ends steps
sync_ends (Queue id at event frame ∷ steps) = sync_ends steps
sync_ends (Start id at ∷ steps) = sync_ends steps

-- where they are noted, those of the steps are
pub record AreNoted (steps : List Step) (v : SyncsValue) : Type 0 where
  pub events : v.synchronous ≡ true → v.events ≡ sync_events steps
  pub ends : v.synchronous ≡ true → v.ends ≡ sync_ends steps

-- whether a step of the identifier is noted
abbrev pub is_noted : SyncsValue → ℕ → Bool
is_noted v id = v.synchronous && (id == sync_id)

abbrev pub with_event : SyncsValue → ℕ → ℕ → SyncsValue
with_event v id event = record v { events = (if is_noted v id then v.events ++ event ∷ [] else v.events) }

abbrev pub with_end : SyncsValue → ℕ → ℕ → SyncsValue
with_end v id at = record v { ends = (if is_noted v id then v.ends ++ at ∷ [] else v.ends) }

-- the SYNC with a number, if it has ended
abbrev pub noted : SyncsValue → ℕ → Option Ended
noted v a = ended_by (slice_get v.events a) (slice_get v.ends a)

-- what answer number n of a stream waits for
abbrev pub noted_cue : SyncsValue → Stream → ℕ → Cue
noted_cue v k n = if k.every == 0 then Own else cue_after (noted v (awaited_sync k n))

-- it waits for the SYNC that ended last
abbrev pub is_awaited : SyncsValue → Stream → ℕ → Bool
is_awaited v k n = nat_lt 0 k.every && (suc n * k.every == length v.ends)
