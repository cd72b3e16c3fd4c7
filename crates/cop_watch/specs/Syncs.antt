-- The SYNCs that have ended, and what hangs on them.
use Rattle.std.specs.Prelude.{◌≡◌, ℕ, ◌+◌, ◌≤◌, ◌<◌, ◌⊎◌, List, [], ◌∷◌, ◌++◌, Option, Some, None, slice_get, ◌==◌, if◌then◌else◌}
use Rattle.cop_rta.specs.declared.streams.Stream.{Stream}
use Rattle.cop_rta.specs.Test.{sync_id}
use Rattle.cop_bus.specs.declared.steps.Step.{Step}
use Rattle.cop_bus.specs.declared.steps.Content.{Content}
use Rattle.cop_bus.specs.declared.anchors.Anchor.{Anchor}
use Rattle.cop_bus.specs.Trace.{count_to}
use Rattle.cop_bus.specs.Ends.{is_end, sync_anchor}
use Rattle.cop_watch.specs.declared.syncs.EndedSync.{EndedSync}
use Rattle.cop_watch.specs.declared.syncs.Syncs.{Syncs}
use Rattle.cop_watch.specs.declared.syncs.Newest.{Newest}
use Rattle.cop_watch.specs.declared.syncs.Newest.TheVariants.{Nothing, Sync}
use Rattle.cop_watch.specs.Rules.{Obeys, IsOfLength}

-- a SYNC is among those that are recalled
abbrev pub Recalls : Syncs → EndedSync → Type 0
Recalls syncs s = (place : ℕ) × (slice_get syncs.recent.items place ≡ Some (Some s))

-- or it is the newest
abbrev pub IsAmong : Syncs → EndedSync → Type 0
IsAmong syncs s = (syncs.newest ≡ Sync s) ⊎ Recalls syncs s

-- an event is no later than the latest of those that are recalled no more
abbrev pub IsForgotten : Option ℕ → ℕ → Type 0
IsForgotten None event = ⊥
IsForgotten (Some latest) event = event ≤ latest

-- no ended SYNC has the event
pub record IsNoSync (syncs : Syncs) (event : ℕ) : Type 0 where
  pub recalled : (s : EndedSync) → IsAmong syncs s → s.event ≡ event → ⊥
  pub later : IsForgotten syncs.forgotten event → ⊥

-- a synchronous stream may queue an instance of a recalled SYNC's event, by the mark of the one before
pub record ObeysSync (k : Stream) (before : Option ℕ) (mark : ℕ) (syncs : Syncs) (at event : ℕ) (frame : Content) (number : ℕ) : Type 0 where
  pub synced : 1 ≤ k.every
  pub sync : EndedSync
  pub on : IsAmong syncs sync
  pub its : sync.event ≡ event
  pub numbered : number ≡ sync.mark
  pub later : (v : ℕ) → before ≡ Some v → mark + k.every ≤ sync.mark
  pub after_from : sync.from ≤ at
  pub by : at ≤ sync.from + k.jitter
  pub length : IsOfLength k frame

-- a stream may queue an instance, and if it is synchronous that hangs on the SYNC of a number
abbrev pub MayCome : Stream → Option ℕ → ℕ → Syncs → ℕ → ℕ → Content → ℕ → Type 0
MayCome k before mark syncs at event frame number = Obeys k before at event frame ⊎ ObeysSync k before mark syncs at event frame number

-- the SYNC with this event, after so many others, is the first that ended of those with it, and none with a later one ended
pub record IsSync (xs : List Step) (i event mark from : ℕ) : Type 0 where
  pub number : count_to (is_end sync_id) xs i ≡ mark + 1
  pub first : sync_anchor xs i event ≡ Some (record { mark = mark; from = from })
  pub later : (e : ℕ) → event < e → sync_anchor xs i e ≡ None

-- something hangs on the SYNC of a number
abbrev pub HangsOn : Option Anchor → ℕ → Type 0
HangsOn None mark = ⊥
HangsOn (Some e) mark = e.mark ≡ mark

abbrev pub IsNewest : Newest → List Step → ℕ → Type 0
IsNewest Nothing xs i = count_to (is_end sync_id) xs i ≡ 0
IsNewest (Sync s) xs i = IsSync xs i s.event s.mark s.from

-- the SYNC that ended last is known, each that is recalled is the first that ended of those with its event, and which events no SYNC has
pub record AreKnown (syncs : Syncs) (xs : List Step) (i : ℕ) : Type 0 where
  pub newest : IsNewest syncs.newest xs i
  pub recent : (s : EndedSync) → Recalls syncs s → sync_anchor xs i s.event ≡ Some (record { mark = s.mark; from = s.from })
  pub none : (event : ℕ) → IsNoSync syncs event → sync_anchor xs i event ≡ None

-- how the newest one changes where a SYNC with an event ends
abbrev pub IsBehind : Newest → ℕ → ℕ → Type 0
IsBehind Nothing event mark = mark ≡ 0
IsBehind (Sync before) event mark = (before.event < event) × (mark ≡ before.mark + 1)

abbrev pub EndsLast : ℕ → Newest → ℕ → Newest → Type 0
EndsLast event newest at Nothing = ⊥
EndsLast event newest at (Sync s) = (s.event ≡ event) × (s.from ≡ at) × IsBehind newest s.event s.mark

-- One SYNC is put among some: what stands at a place afterwards stood there before or is that SYNC, and what does not stand there
-- any more, or that SYNC if it does not, is forgotten.
pub record Puts (before after : List (Option EndedSync)) (sync : EndedSync) (was is : Option ℕ) : Type 0 where
  pub there : (place : ℕ) (s : EndedSync) → slice_get after place ≡ Some (Some s) → (slice_get before place ≡ Some (Some s)) ⊎ (s ≡ sync)
  pub kept : (place : ℕ) (s : EndedSync) → slice_get before place ≡ Some (Some s) → (slice_get after place ≡ Some (Some s)) ⊎ IsForgotten is s.event
  pub itself : ((place : ℕ) × (slice_get after place ≡ Some (Some sync))) ⊎ IsForgotten is sync.event
  pub forgotten : (event : ℕ) → IsForgotten was event → IsForgotten is event

-- no SYNC has ended
pub record AreNone (syncs : Syncs) : Type 0 where
  pub newest : syncs.newest ≡ Nothing
  pub recent : (s : EndedSync) → Recalls syncs s → ⊥

-- A SYNC with an event ends: what is recalled afterwards was recalled before or was the newest, and what was known is recalled or forgotten.
pub record EndsOne (event : ℕ) (before : Syncs) (at : ℕ) (after : Syncs) : Type 0 where
  pub newest : EndsLast event before.newest at after.newest
  pub recent : (s : EndedSync) → Recalls after s → IsAmong before s
  pub kept : (s : EndedSync) → IsAmong before s → IsAmong after s ⊎ IsForgotten after.forgotten s.event
  pub forgotten : (v : ℕ) → IsForgotten before.forgotten v → IsForgotten after.forgotten v

-- the events that are kept after an instance is queued: only SYNC's are
abbrev pub events_with : ℕ → ℕ → List ℕ → List ℕ
events_with id event events = if id == sync_id then events ++ event ∷ [] else events

-- the SYNC whose event was kept first ends
pub record EndsFirst (before after : List ℕ) (syncs : Syncs) (at : ℕ) (syncs' : Syncs) : Type 0 where
  pub event : ℕ
  pub first : before ≡ event ∷ after
  pub ends : EndsOne event syncs at syncs'
