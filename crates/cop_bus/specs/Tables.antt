use Rattle.std.specs.Prelude.{◌≡◌, ℕ, ◌+◌, ◌≤◌, ◌<◌, List, All, Option, None, Some, Bool, true, suc, length, slice_index, slice_index_or, slice_set, is_some, false, ◌==◌}
use Rattle.cop_bus.specs.declared.steps.Step.{Step}
use Rattle.cop_bus.specs.declared.steps.Step.TheVariants.{Queue, Start, End}
use Rattle.cop_bus.specs.declared.ends.Syncs.{Syncs}
use Rattle.cop_bus.specs.declared.judging.Tables.{Tables}
use Rattle.cop_bus.specs.Trace.{is_queue, is_start, count_to, nth_that, step_at, running}
use Rattle.cop_bus.specs.Ends.{is_end, event_in, sync_anchor, runs_of}
use Rattle.cop_rta.specs.Test.{sync_id}
use Rattle.std.specs.BTreeMap.{get}
use Rattle.cop_bus.specs.Judge.{last_event, waits_after, stream_of}
use Rattle.cop_rta.specs.declared.streams.Stream.{Stream}
use Rattle.std.specs.BTreeSet.{BTreeSet, contains}
use Rattle.std.specs.Ordering.{nat_cmp}

-- What the judge's tables hold after the first i steps. A table has a place for each identifier.

-- a is the place of step number j, from 0, of those that pass, or the number of steps if there is none
pub record IsPlace (p : Step → Bool) (steps : List Step) (j a : ℕ) : Type 0 where
  pub within : a ≤ length steps
  pub passes : a < length steps → p (step_at steps a) ≡ true
  pub number : a < length steps → count_to p steps a ≡ j
  pub none : length steps ≤ a → count_to p steps (length steps) ≤ j

-- the place of each stream's first queue step from i on
pub record IsAhead (steps : List Step) (i : ℕ) (ahead : List ℕ) : Type 0 where
  pub ids : length ahead ≡ 65536
  pub places : (id : ℕ) → id < 65536 → IsPlace (is_queue id) steps (count_to (is_queue id) steps i) (slice_index ahead id)

-- for each queue step from i on the place of its stream's next one
pub record IsNext (steps : List Step) (i : ℕ) (next : List ℕ) : Type 0 where
  pub steps_long : length next ≡ length steps
  pub places : (a id : ℕ) → i ≤ a → a < length steps → is_queue id (step_at steps a) ≡ true → IsPlace (is_queue id) steps (suc (count_to (is_queue id) steps a)) (slice_index next a)

-- the place of each stream's first instance that is not sent by the first i steps
pub record IsUnsent (steps : List Step) (i : ℕ) (unsent : List ℕ) : Type 0 where
  pub ids : length unsent ≡ 65536
  pub places : (id : ℕ) → id < 65536 → IsPlace (is_queue id) steps (count_to (is_start id) steps i) (slice_index unsent id)

-- for each queue step the place of the start that sends its instance, if one of the first i steps does, and otherwise of
-- its stream's next queue step
pub record IsLinked (steps : List Step) (i : ℕ) (links : List ℕ) : Type 0 where
  pub steps_long : length links ≡ length steps
  pub sent : (a id : ℕ) → a < length steps → is_queue id (step_at steps a) ≡ true → count_to (is_queue id) steps a < count_to (is_start id) steps i →
      (slice_index links a < length steps) × IsPlace (is_start id) steps (count_to (is_queue id) steps a) (slice_index links a)
  pub unsent : (a id : ℕ) → a < length steps → is_queue id (step_at steps a) ≡ true → count_to (is_start id) steps i ≤ count_to (is_queue id) steps a →
      IsPlace (is_queue id) steps (suc (count_to (is_queue id) steps a)) (slice_index links a)

-- each stream's last event
pub record IsLast (steps : List Step) (i : ℕ) (last : List (Option ℕ)) : Type 0 where
  pub ids : length last ≡ 65536
  pub events : (id : ℕ) → id < 65536 → slice_index_or last id None ≡ last_event id steps i

-- the identifiers of which an instance waits, which are those of streams of the set
pub record IsWaiting (streams : List Stream) (steps : List Step) (i : ℕ) (waiting : BTreeSet ℕ) : Type 0 where
  pub those : (id : ℕ) → contains nat_cmp waiting id ≡ waits_after steps i id
  pub known : (id : ℕ) → waits_after steps i id ≡ true → is_some (stream_of streams id) ≡ true

-- What the judge knows of the SYNCs: how many have ended, the anchor of each event, and the event of the one that is sent.
pub record AreSyncs (tau : ℕ) (steps : List Step) (i : ℕ) (syncs : Syncs) : Type 0 where
  pub number : syncs.number ≡ count_to (is_end sync_id) steps i
  pub anchors : (event : ℕ) → get nat_cmp syncs.anchors event ≡ sync_anchor steps i event
  pub sent : runs_of sync_id (running tau steps i) ≡ 1 → event_in (nth_that (is_queue sync_id) syncs.number steps) ≡ Some syncs.sent
  pub balanced : count_to (is_start sync_id) steps i ≡ count_to (is_end sync_id) steps i + runs_of sync_id (running tau steps i)

-- where a stream is synchronous the judge knows the anchor of each event
abbrev pub AreAnchors : Stream → List Step → ℕ → Syncs → Type 0
AreAnchors k steps i syncs = 1 ≤ k.every → (event : ℕ) → get nat_cmp syncs.anchors event ≡ sync_anchor steps i event

-- what the judge knows after the first i steps, beside the transfer that runs
pub record AreTables (tau : ℕ) (streams : List Stream) (steps : List Step) (i : ℕ) (tables : Tables) : Type 0 where
  pub last : IsLast steps i tables.last.items
  pub unsent : IsUnsent steps i tables.unsent.items
  pub waiting : IsWaiting streams steps i tables.waiting
  pub syncs : All (λ k. 1 ≤ k.every → AreSyncs tau steps i tables.syncs) streams

-- how the tables change at a step
abbrev pub ahead_after : Step → ℕ → List ℕ → List ℕ
ahead_after (Queue id at event frame) i ahead = slice_set ahead id i
ahead_after (Start id at) i ahead = ahead
ahead_after (End id at) i ahead = ahead

abbrev pub next_after : Step → ℕ → List ℕ → List ℕ → List ℕ
next_after (Queue id at event frame) i ahead next = slice_set next i (slice_index ahead id)
next_after (Start id at) i ahead next = next
next_after (End id at) i ahead next = next

abbrev pub unsent_after : Step → List ℕ → List ℕ → List ℕ
unsent_after (Start id at) links unsent = slice_set unsent id (slice_index links (slice_index unsent id))
unsent_after (Queue id at event frame) links unsent = unsent
unsent_after (End id at) links unsent = unsent

abbrev pub links_after : Step → ℕ → List ℕ → List ℕ → List ℕ
links_after (Start id at) i unsent links = slice_set links (slice_index unsent id) i
links_after (Queue id at event frame) i unsent links = links
links_after (End id at) i unsent links = links

-- the step queues or sends an instance of the stream
abbrev pub is_queue_or_start : ℕ → Step → Bool
is_queue_or_start k (Queue id at event frame) = id == k
is_queue_or_start k (Start id at) = id == k
is_queue_or_start k (End id at) = false

abbrev pub last_after : Step → List (Option ℕ) → List (Option ℕ)
last_after (Queue id at event frame) last = slice_set last id (Some event)
last_after (Start id at) last = last
last_after (End id at) last = last
