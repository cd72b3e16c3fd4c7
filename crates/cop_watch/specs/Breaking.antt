-- Rules that a step breaks, by what is known of the steps before it.
use Rattle.std.specs.Prelude.{◌≡◌, ℕ, ◌+◌, ◌≤◌, ◌<◌, ◌⊎◌, length, Option, None, Some, Bool, true, false, not, nat_le, ◌&&◌, if◌then◌else◌}
use Rattle.std.specs.BTreeSet.{BTreeSet, contains}
use Rattle.std.specs.Ordering.{nat_cmp}
use Rattle.cop_rta.specs.declared.streams.Stream.{Stream}
use Rattle.cop_bus.specs.declared.steps.Content.{Content}
use Rattle.cop_bus.specs.declared.steps.Step.TheVariants.{Queue}
use Rattle.cop_bus.specs.Run.{gap_of}
use Rattle.cop_bus.specs.Judge.{is_of_length}
use Rattle.cop_watch.specs.declared.bus.Bus.{Bus}
use Rattle.cop_watch.specs.declared.bus.Bus.TheVariants.{Idle, Sending, Joining}
use Rattle.cop_watch.specs.declared.watching.Watch.{Watch}
use Rattle.cop_watch.specs.Rings.{ring_of}
use Rattle.cop_watch.specs.declared.syncs.EndedSync.{EndedSync}
use Rattle.cop_watch.specs.declared.syncs.Syncs.{Syncs}
use Rattle.cop_watch.specs.Syncs.{IsAmong, IsNoSync}

-- what an instance with an event hangs on: of a synchronous stream the SYNC that has it, or none; of another its own event
abbrev pub HangsAt : Stream → Syncs → ℕ → Option EndedSync → Type 0
HangsAt k syncs event None = (1 ≤ k.every) × IsNoSync syncs event
HangsAt k syncs event (Some s) = ((k.every ≡ 0) × (s.mark ≡ event) × (s.from ≡ event)) ⊎ ((1 ≤ k.every) × IsAmong syncs s × (s.event ≡ event))

-- the mark of what the stream's instance before hangs on, by its event and the number of its SYNC
abbrev pub IsMarkBefore : Stream → Option ℕ → ℕ → Option ℕ → Type 0
IsMarkBefore k None mark before = before ≡ None
IsMarkBefore k (Some v) mark before = ((k.every ≡ 0) × (before ≡ Some v)) ⊎ ((1 ≤ k.every) × (before ≡ Some mark))

-- rule 62
abbrev pub is_far : ℕ → Option ℕ → Option EndedSync → Bool
is_far gap None hang = true
is_far gap (Some before) None = true
is_far gap (Some before) (Some s) = nat_le (before + gap) s.mark

-- rule 63
abbrev pub is_timely : ℕ → Option EndedSync → ℕ → Bool
is_timely jitter None at = false
is_timely jitter (Some s) at = nat_le s.from at && nat_le at (s.from + jitter)

-- the least of rules 62 to 64 that an instance breaks; if it breaks none, what is next
abbrev pub instance_rule : Stream → Option ℕ → Option EndedSync → ℕ → Content → Option ℕ → Option ℕ
instance_rule k before hang at frame next =
    if not (is_far (gap_of k) before hang) then Some 62 else
    if not (is_timely k.jitter hang at) then Some 63 else
    if not (is_of_length (Some k) (Queue 0 0 0 frame)) then Some 64 else
    next

-- no joiner's queue step is awaited
abbrev pub IsAlone : Bus → Type 0
IsAlone Idle = Unit {0}
IsAlone (Sending id end) = Unit {0}
IsAlone (Joining id start) = ⊥

-- an instance waits of a stream with a lower identifier
pub record IsLower (waiting : BTreeSet ℕ) (id : ℕ) : Type 0 where
  pub one : ℕ
  pub below : one < id
  pub waits : contains nat_cmp waiting one ≡ true

-- some instance waits while nothing is sent, from the last step to a later moment
pub record IsIdleTo (w : Watch) (at : ℕ) : Type 0 where
  pub some : 0 < w.taken
  pub idle : w.bus ≡ Idle
  pub late : w.at < at
  pub one : ℕ
  pub waits : contains nat_cmp w.waiting one ≡ true

-- the transfer that runs ends by a moment
pub record IsOverBy (w : Watch) (at : ℕ) : Type 0 where
  pub id : ℕ
  pub end : ℕ
  pub runs : w.bus ≡ Sending id end
  pub late : end ≤ at

-- rules 65 and 68 of a moment at which no transfer ends
abbrev pub BreaksThen : Watch → ℕ → ℕ → Type 0
BreaksThen w at rule = (IsIdleTo w at × (rule ≡ 68)) ⊎ (IsOverBy w at × (rule ≡ 65))

-- rules 67 and 68 of the start of an instance that waits
pub record BreaksAtStart (w : Watch) (id at rule : ℕ) : Type 0 where
  pub there : 0 < length (ring_of w.rings.items id)
  pub breaks : (IsLower w.waiting id × (rule ≡ 67)) ⊎ (((k : ℕ) → k < id → contains nat_cmp w.waiting k ≡ false) × IsIdleTo w at × (rule ≡ 68))
