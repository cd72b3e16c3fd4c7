-- Runs of the bus. Moments are in ticks, and tau is the ticks of a bit. An instance of a synchronous stream has the event of a SYNC
-- instance, and is queued from the end of SYNC's transfer on.
use Rattle.std.specs.Prelude.{◌≡◌, ℕ, ◌+◌, ◌*◌, ◌≤◌, ◌<◌, List, Option, None, Some, Bool, true, All, AllPairs, Any, nat_le, slice_get, filter, ◌==◌, ◌&&◌, count_by, if◌then◌else◌, IsSome}
use Rattle.std.specs.Option.{ForSome}
pub use Rattle.cop_frame.specs.Lengths.{least_bits, worst_bits}
use Rattle.cop_frame.specs.declared.rates.Rate.{Rate}
use Rattle.cop_frame.specs.Rate.{ticks_of}
use Rattle.cop_rta.specs.declared.streams.Stream.{Stream}
use Rattle.cop_rta.specs.Test.{Passes, place_by_id, sync_id, sync_response, ahead_of, jitter_of}
use Rattle.cop_bus.specs.declared.anchors.Anchor.{Anchor}

-- An instance of a stream: its event, the moment at which it is queued, its frame's length in bits and number of
-- data bytes, and the moment at which its transfer starts, if it does.
pub record Instance : Type 0 where
  pub id : ℕ
  pub event : ℕ
  pub queued : ℕ
  pub bits : ℕ
  pub len : ℕ
  pub start : Option ℕ

-- its transfer runs at the moment x
abbrev pub Runs : ℕ → Instance → ℕ → Type 0
Runs tau y x = (s : ℕ) × (y.start ≡ Some s) × (s ≤ x) × (x < s + y.bits * tau)

-- it is queued by x and has not started before x
abbrev pub Waits : Instance → ℕ → Type 0
Waits y x = (y.queued ≤ x) × ForSome y.start (λ s. x ≤ s)

-- its length is one that a frame of the stream can have
pub record HasLengthOf (k : Stream) (y : Instance) : Type 0 where
  pub not_shorter : least_bits k.bytes ≤ y.bits
  pub not_longer : y.bits ≤ worst_bits k.bytes
  pub same_bytes : y.len ≡ k.bytes

-- it is of a stream of the set
pub record IsKnown (streams : List Stream) (y : Instance) : Type 0 where
  pub some_stream : Any (λ k. k.id ≡ y.id) streams
  pub length : All (λ k. k.id ≡ y.id → HasLengthOf k y) streams

-- y is sent before z is
abbrev pub IsSentBefore : Instance → Instance → Type 0
IsSentBefore y z = ForSome z.start (λ t. (s : ℕ) × (y.start ≡ Some s) × (s < t))

-- A legal run of the bus up to a moment: the instances, those of one stream in its order. Nothing is said of
-- when they are queued, and one that is sent may be queued after its start, and after the end.
pub record IsLegal (tau : ℕ) (streams : List Stream) (until : ℕ) (run : List Instance) : Type 0 where
  pub known : All (IsKnown streams) run
  -- the instances of a stream are sent in order
  pub in_order : AllPairs (λ y z. y.id ≡ z.id → IsSentBefore y z) run
  -- transfers do not overlap
  pub one_at_a_time : AllPairs (λ y z. (x : ℕ) → Runs tau y x → Runs tau z x → ⊥) run
  -- at each start some instance waits
  pub asked_for : All (λ y. ForSome y.start (λ s. Any (λ z. Waits z s) run)) run
  -- what is sent is queued by its start, or less than a bit time after it
  pub joined : All (λ y. ForSome y.start (λ s. y.queued < s + tau)) run
  -- at a start no instance with a lower identifier waits
  pub by_priority : All (λ y. ForSome y.start (λ s. All (λ z. Waits z s → y.id ≤ z.id) run)) run
  -- at no tick before the end does an instance wait while no transfer runs
  pub never_idle : (x : ℕ) → x < until → All (λ z. Waits z x → Any (λ y. Runs tau y x) run) run

-- An instance of SYNC by its number among those of a run, from 0: its event, and the end of its
-- transfer, which is not after the run.
pub record IsSync (tau until : ℕ) (run : List Instance) (number event ended : ℕ) : Type 0 where
  pub sync : Instance
  pub here : slice_get (filter (λ y. y.id == sync_id) run) number ≡ Some sync
  pub event_is : sync.event ≡ event
  pub start : ℕ
  pub starts : sync.start ≡ Some start
  pub ends : start + sync.bits * tau ≡ ended
  pub by_end : ended ≤ until

-- the least distance of two marks: of events the period, of SYNCs a number
abbrev pub gap_of : Stream → ℕ
gap_of k = if k.every == 0 then k.period else k.every

-- An instance of a stream hangs on its event, of a synchronous stream on the SYNC of that event: on its number and its end.
pub record IsAnchor (tau until : ℕ) (run : List Instance) (k : Stream) (y : Instance) (e : Anchor) : Type 0 where
  pub by_event : k.every ≡ 0 → (e.mark ≡ y.event) × (e.from ≡ y.event)
  pub by_sync : 1 ≤ k.every → IsSync tau until run e.mark y.event e.from

-- it is queued from there to the jitter after it, which is a synchronous stream's latency
pub record IsQueuedInTime (tau until : ℕ) (run : List Instance) (k : Stream) (y : Instance) : Type 0 where
  pub anchor : Anchor
  pub is_anchor : IsAnchor tau until run k y anchor
  pub after_anchor : anchor.from ≤ y.queued
  pub within_jitter : y.queued ≤ anchor.from + k.jitter

-- of two instances of a stream the earlier y: what it hangs on comes so far before at least, and it is not queued later
pub record ComesBefore (tau until : ℕ) (run : List Instance) (k : Stream) (y z : Instance) : Type 0 where
  pub far : (d e : Anchor) → IsAnchor tau until run k y d → IsAnchor tau until run k z e → d.mark + gap_of k ≤ e.mark
  pub queued_first : y.queued ≤ z.queued

-- the instances of a stream obey
pub record IsObeying (tau until : ℕ) (run : List Instance) (k : Stream) : Type 0 where
  pub in_time : All (λ y. y.id ≡ k.id → IsQueuedInTime tau until run k y) run
  pub in_order : AllPairs (λ y z. y.id ≡ k.id → z.id ≡ k.id → ComesBefore tau until run k y z) run

-- A legal run in which the stream m, which stands at an index of the set, and those with lower identifiers obey.
pub record IsRunAbove (rate : Rate) (streams : List Stream) (until : ℕ) (run : List Instance) (index : ℕ) (m : Stream) : Type 0 where
  pub stream : slice_get streams index ≡ Some m
  pub legal : IsLegal (ticks_of rate) streams until run
  pub obeying : All (λ k. k.id ≤ m.id → IsObeying (ticks_of rate) until run k) streams

-- the jitters at a rate: of a synchronous stream SYNC's response and the latency
abbrev pub jitter_at : List Stream → Rate → Stream → ℕ
jitter_at streams rate = jitter_of (ahead_of streams rate)

-- where the stream m or one above it is synchronous SYNC has a response
abbrev pub HasResponseAbove : Rate → List Stream → Stream → Type 0
HasResponseAbove rate streams m = All (λ k. k.id ≤ m.id → 1 ≤ k.every → IsSome (sync_response streams rate)) streams

-- the stream at an index passes the response-time test, with the lower identifiers above it
abbrev pub PassesById : Rate → List Stream → ℕ → Type 0
PassesById rate streams index = Passes (place_by_id streams index rate)

-- it has ended by so long after its event, if that moment is not after the run
abbrev pub IsOnTime : ℕ → ℕ → Option ℕ → Instance → Type 0
IsOnTime tau until deadline y =
    ForSome deadline (λ d. y.event + d ≤ until →
    (s : ℕ) × (y.start ≡ Some s) × (s + y.bits * tau ≤ y.event + d))

-- the same as `Waits`, as a test
abbrev pub is_unstarted : ℕ → Option ℕ → Bool
is_unstarted x None = true
is_unstarted x (Some s) = nat_le x s

abbrev pub waits : ℕ → Instance → Bool
waits x y = nat_le y.queued x && is_unstarted x y.start

-- how many instances of a stream wait at x
abbrev pub waiting : ℕ → ℕ → List Instance → ℕ
waiting id x run = count_by (λ y. (y.id == id) && waits x y) run
