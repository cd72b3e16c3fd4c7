-- A trace that is watched, step by step.
use Rattle.std.specs.Prelude.{◌≡◌, ℕ, ◌+◌, ◌-◌, ◌^◌, ◌≤◌, ◌<◌, ◌⊎◌, List, ◌++◌, Option, None, Some, true, false, length, is_some, nat_lt, slice_index, slice_index_or}
use Rattle.std.specs.BTreeSet.{BTreeSet, contains}
use Rattle.std.specs.Ordering.{nat_cmp}
use Rattle.cop_rta.specs.declared.streams.Stream.{Stream}
use Rattle.cop_bus.specs.declared.steps.Step.{Step}
use Rattle.cop_bus.specs.declared.steps.Content.{Content}
use Rattle.cop_bus.specs.Trace.{running}
use Rattle.cop_bus.specs.Ends.{sync_anchor}
use Rattle.cop_bus.specs.Judge.{stream_of, last_event}
use Rattle.cop_bus.specs.Growing.{KeepTheRules}
use Rattle.cop_watch.specs.declared.watching.Watch.{Watch}
use Rattle.cop_watch.specs.declared.bus.Bus.{Bus}
use Rattle.cop_watch.specs.declared.bus.Bus.TheVariants.{Idle, Sending, Joining}
use Rattle.cop_watch.specs.Rules.{is_after}
use Rattle.cop_watch.specs.declared.syncs.Syncs.{Syncs}
use Rattle.cop_watch.specs.Syncs.{MayCome, HangsOn, AreKnown}
use Rattle.cop_watch.specs.Rings.{ring_of, ArePassed}
use Rattle.cop_watch.specs.Knowing.{queues, starts, sent, IsNow, IsHeld, AreUnended, Awaits, runs_of, joins}

-- The steps that were taken break no rule, whatever comes next in place of what is awaited, and all is known of them that the next
-- one is judged by: what the bus does, the moment and the rank of the last one, by identifier the last event and the lengths of the
-- instances that wait, those of which some do, the events of the SYNCs that wait or run, and how many were sent.
pub record Knows (tau : ℕ) (streams : List Stream) (steps : List Step) (bus : Bus) (now rank : ℕ) (last : List (Option ℕ)) (marks : List ℕ) (syncs : Syncs) (events : List ℕ) (rings : List (List ℕ)) (waiting : BTreeSet ℕ) (sent_so_far : ℕ) : Type 0 where
  pub tick : 1 ≤ tau
  pub last_is : IsNow steps now rank
  pub fine : (ahead : List Step) → Awaits tau bus ahead → KeepTheRules tau streams now steps ahead
  pub runs : (ahead : List Step) → Awaits tau bus ahead → running tau (steps ++ ahead) (length steps) ≡ runs_of tau bus ahead
  pub none_ahead : (id : ℕ) → joins bus id ≡ false → starts id steps ≤ queues id steps
  pub one_ahead : (id : ℕ) → joins bus id ≡ true → starts id steps ≡ queues id steps + 1
  pub lasts : (id : ℕ) → slice_index_or last id None ≡ last_event id steps (length steps)
  pub unended : AreUnended steps events
  pub hangs : (ahead : List Step) → Awaits tau bus ahead → AreKnown syncs (steps ++ ahead) (length steps)
  pub marked : (ahead : List Step) → Awaits tau bus ahead → (id : ℕ) (k : Stream) → stream_of streams id ≡ Some k → 1 ≤ k.every → (v : ℕ) → last_event id steps (length steps) ≡ Some v
      → HangsOn (sync_anchor (steps ++ ahead) (length steps) v) (slice_index marks id)
  pub held : (id : ℕ) → IsHeld steps now id (ring_of rings id)
  pub listed : (id : ℕ) → contains nat_cmp waiting id ≡ nat_lt 0 (length (ring_of rings id))
  pub known : (id : ℕ) → 0 < queues id steps → is_some (stream_of streams id) ≡ true
  pub count : sent_so_far ≡ sent steps

pub record HasTaken (tau : ℕ) (streams : List Stream) (steps : List Step) (w : Watch) : Type 0 where
  pub ticks : w.ticks ≡ tau
  pub set : w.streams.now ≡ streams
  pub numbered : w.taken ≡ length steps
  pub knows : Knows tau streams steps w.bus w.at w.rank w.last.items w.marks.items w.syncs w.events.items w.rings.items w.waiting w.sent

-- a queue step may come at a moment, by what the bus does and what waits
abbrev pub IsOpen : ℕ → ℕ → BTreeSet ℕ → Bus → ℕ → Type 0
IsOpen tau now waiting Idle at = (at ≤ now) ⊎ ((k : ℕ) → contains nat_cmp waiting k ≡ false)
IsOpen tau now waiting (Sending id end) at = at < end
IsOpen tau now waiting (Joining id start) at = at < start + tau

pub record MayQueue (w : Watch) (id at event : ℕ) (frame : Content) (number : ℕ) : Type 0 where
  pub last_there : id < length w.last.items
  pub ring_there : id < length w.rings.items
  pub stream : Stream
  pub its : stream_of w.streams.now id ≡ Some stream
  pub mark_there : id < length w.marks.items
  pub obeying : MayCome stream (slice_index_or w.last.items id None) (slice_index w.marks.items id) w.syncs at event frame number
  pub order : is_after w.at w.rank at 1 ≡ true
  pub open_to : IsOpen w.ticks w.at w.waiting w.bus at

pub record MayStart (w : Watch) (id at : ℕ) : Type 0 where
  pub ring_there : id < length w.rings.items
  pub few : w.sent < 2 ^ 64 - 1
  pub idle : w.bus ≡ Idle
  pub by_now : at ≤ w.at
  pub order : is_after w.at w.rank at 2 ≡ true
  pub passed : ArePassed w.waiting id
  pub known : is_some (stream_of w.streams.now id) ≡ true

pub record MayEnd (w : Watch) (id at : ℕ) : Type 0 where
  pub sending : w.bus ≡ Sending id at
  pub order : is_after w.at w.rank at 0 ≡ true
  pub known : is_some (stream_of w.streams.now id) ≡ true
