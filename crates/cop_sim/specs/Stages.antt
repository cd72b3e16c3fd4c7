-- The simulator between two steps.
use Rattle.std.specs.Prelude.{◌≡◌, ◌≢◌, ℕ, ◌+◌, ◌-◌, ◌*◌, ◌<◌, ◌≤◌, ◌^◌, ◌⊎◌, List, [], ◌∷◌, ◌++◌, Option, None, Some, Bool, true, false, suc, length, map, get_or, replicate, slice_get, slice_set, Result, Ok, Err}
use Rattle.cop_frame.specs.Rate.{ticks_of}
use Rattle.cop_rta.specs.declared.streams.Stream.{Stream}
use Rattle.cop_rta.specs.Streams.{AreDistinct}
use Rattle.cop_bus.specs.declared.steps.Step.{Step}
use Rattle.cop_bus.specs.declared.steps.Step.TheVariants.{Queue, End}
use Rattle.cop_bus.specs.declared.bus.Instance.{Instance}
use Rattle.cop_bus.specs.Trace.{is_queue, is_start, count_to, nth_that, running, now_of}
use Rattle.cop_bus.specs.Rings.{RingValue, most_of, rings_of}
use Rattle.cop_bus.specs.Bus.{without_first}
use Rattle.cop_plan.specs.Values.{PlanValue}
use Rattle.cop_plan.specs.Planned.{IsPlanned}
use Rattle.cop_sim.specs.declared.behaviours.Offer.{Offer}
use Rattle.cop_sim.specs.declared.stages.Stage.{Stage}
use Rattle.cop_sim.specs.declared.faults.SimFault.{SimFault}
use Rattle.cop_sim.specs.declared.faults.SimFault.TheVariants.{Count, Disobeys as DisobeysAt, Backlog, Sink, Memory}
use Rattle.cop_sim.specs.declared.cues.Cue.{Cue}
use Rattle.cop_sim.specs.Cues.{cue_of, from_of}
use Rattle.cop_sim.specs.Syncs.{SyncsValue, some_synchronous, AreNoted, is_noted, with_event, with_end, noted_cue, is_awaited}
use Rattle.cop_sim.specs.Play.{Actor, actors_of, queued_at, queue_step, next_offer, IsSentAhead, obeys, obeys_after, IsPlay, IsPartialPlay}
use Rattle.cop_sim.specs.Going.{Goes}
use Rattle.cop_sim.specs.declared.due.Due.{Due}
use Rattle.cop_sim.specs.declared.choosing.Sent.{Sent}
use Rattle.cop_sim.specs.Seats.{next_at, answer_of, asks, IsCued}
use Rattle.cop_sim.specs.Sinks.{IsCause}

-- what is at hand: of each stream, by place, the identifier, the next offer, the ring of the instances that wait and how many were queued;
-- the transfer that runs, the place of a joiner that was sent and is not queued yet, the moment, and the SYNCs that are noted
pub record AtHand : Type 0 where
  pub ids : List ℕ
  pub next : List (Option Offer)
  pub rings : List RingValue
  pub queued : List ℕ
  pub running : Option (ℕ × ℕ)
  pub joined : Option ℕ
  pub now : ℕ
  pub syncs : SyncsValue

abbrev pub at_hand : Stage → AtHand
at_hand s = record { ids = s.offers.ids; next = s.offers.next; rings = s.waiting; queued = s.queued.items; running = s.running; joined = s.joined; now = s.now; syncs = s.syncs }

abbrev pub no_syncs : List Stream → SyncsValue
no_syncs streams = record { synchronous = some_synchronous streams; events = []; ends = [] }

-- what is at hand before the first step, by the first offers
abbrev pub at_first : List Stream → List (Option Offer) → AtHand
at_first streams next =
    record { ids = map (λ k. k.id) streams; next = next; rings = rings_of streams; queued = replicate (length streams) 0; running = None; joined = None; now = 0; syncs = no_syncs streams }

-- one for each stream
pub record AreSized (count : ℕ) (h : AtHand) : Type 0 where
  pub ids : length h.ids ≡ count
  pub next : length h.next ≡ count
  pub rings : length h.rings ≡ count
  pub queued : length h.queued ≡ count

-- how many instances of a stream the steps queue, and start
abbrev pub queues : ℕ → List Step → ℕ
queues id steps = count_to (is_queue id) steps (length steps)

abbrev pub starts : ℕ → List Step → ℕ
starts id steps = count_to (is_start id) steps (length steps)

-- After the steps an actor's next offer is at hand, and in its ring stand the instances that wait, first come first.
pub record IsHeld (until : ℕ) (steps : List Step) (a : Actor) (next : Option Offer) (ring : RingValue) : Type 0 where
  pub offer : next ≡ next_offer until steps (length steps) a
  pub its : ring.id ≡ a.stream.id
  pub count : length ring.waiting ≡ queues a.stream.id steps - starts a.stream.id steps
  pub each : (k : ℕ) (y : Instance) → slice_get ring.waiting k ≡ Some y → nth_that (is_queue a.stream.id) (starts a.stream.id steps + k) steps ≡ Some (Queue a.stream.id y.at y.event y.frame)

abbrev pub actor_of : {B : Type 0} → (B → ℕ → Option Offer) → (B → ℕ → ℕ → Bool) → Stream → B → Actor
actor_of offer agrees k b = record { stream = k; offer = offer b; agrees = agrees b }

-- one place: the actor's offer and ring are at hand, the behaviour answers what comes after those that it was asked for, and the offer obeys
pub record IsSeat {B : Type 0} (offer : B → ℕ → Option Offer) (agrees : B → ℕ → ℕ → Bool) (until : ℕ) (steps : List Step) (a : Actor) (b : B) (next : Option Offer) (ring : RingValue) (queued : ℕ) : Type 0 where
  pub held : IsHeld until steps a next ring
  pub most : ring.most ≡ most_of a.stream
  pub count : queued ≡ queues a.stream.id steps
  pub rest : (j : ℕ) → offer b j ≡ a.offer (queues a.stream.id steps + (asks (cue_of steps (length steps) a.stream) + j))
  pub same : (z u : ℕ) → agrees b z u ≡ a.agrees z u
  pub obeying : (o : Offer) → next ≡ Some o → obeys_after steps (length steps) a.stream o ≡ true

-- a transfer by the moment of its end and its identifier
abbrev pub flipped : Option (ℕ × ℕ) → Option (ℕ × ℕ)
flipped None = None
flipped (Some r) = Some (r.1, r.0)

-- the place of the joiner whose queue step is ahead
abbrev pub IsAwaited : List Actor → List (Option Offer) → List Step → List Step → Option ℕ → Type 0
IsAwaited actors next steps ahead None = ahead ≡ []
IsAwaited actors next steps ahead (Some i) = (a : Actor) × (slice_get actors i ≡ Some a) × IsSentAhead steps a × ((o : Offer) × (next_at next i ≡ Some o) × (ahead ≡ queue_step a.stream.id o ∷ []))

-- what is at hand after the steps of a partial play that goes on, by what the behaviours were at first and are now
pub record IsAt {B : Type 0} (offer : B → ℕ → Option Offer) (agrees : B → ℕ → ℕ → Bool) (plan : PlanValue) (until : ℕ) (firsts behaviours : List B) (h : AtHand) (steps : List Step) : Type 0 where
  pub planned : IsPlanned plan
  pub distinct : AreDistinct plan.streams
  pub firsts_are : length firsts ≡ length plan.streams
  pub ahead : List Step
  pub goes : Goes (ticks_of plan.rate) (actors_of offer agrees plan.streams firsts) until steps ahead
  pub sized : AreSized (length plan.streams) h
  pub ids_are : h.ids ≡ map (λ k. k.id) plan.streams
  pub behaviours_are : length behaviours ≡ length plan.streams
  pub seats : (i : ℕ) (a : Actor) (b : B) (r : RingValue) → slice_get (actors_of offer agrees plan.streams firsts) i ≡ Some a → slice_get behaviours i ≡ Some b → slice_get h.rings i ≡ Some r →
      IsSeat offer agrees until steps a b (next_at h.next i) r (get_or h.queued i 0)
  pub runs : h.running ≡ flipped (running (ticks_of plan.rate) (steps ++ ahead) (length steps))
  pub now_is : h.now ≡ now_of steps
  pub awaited : IsAwaited (actors_of offer agrees plan.streams firsts) h.next steps ahead h.joined
  pub noted : AreNoted steps h.syncs
  pub synchronous : h.syncs.synchronous ≡ some_synchronous plan.streams

-- a fault after the steps: what it says, and what the sink took of one step more
abbrev pub IsLeft : {S : Type 0} → (S → Step → S → Type 0) → (List Step → Type 0) → S → S → List Step → SimFault → Type 0
IsLeft takes partial s t steps Sink = partial steps
IsLeft takes partial s t steps (Backlog id) = partial steps × (t ≡ s)
IsLeft takes partial s t steps (DisobeysAt stream instance) = (x : Step) × partial (steps ++ x ∷ []) × takes s x t
IsLeft takes partial s t steps Count = ⊥
IsLeft takes partial s t steps Memory = (x : Step) × partial (steps ++ x ∷ []) × takes s x t

-- a fault of a plan's simulation
pub record IsFault {S : Type 0} (takes : S → Step → S → Type 0) (plan : PlanValue) (actors : List Actor) (until : ℕ) (failed : Bool) (s t : S) (steps : List Step) (fault : SimFault) : Type 0 where
  pub cause : IsCause plan actors (length plan.streams) until failed fault
  pub left : IsLeft takes (IsPartialPlay (ticks_of plan.rate) actors until) s t steps fault

-- ---- what each event changes

-- the instance of an offer
abbrev pub instance_of : Due → Instance
instance_of d = record { at = queued_at d.offer; id = d.id; event = d.offer.event; frame = d.offer.frame }

-- the ring with an instance behind the others
abbrev pub with_last : RingValue → Instance → RingValue
with_last r y = record { id = r.id; waiting = r.waiting ++ y ∷ []; most = r.most }

-- an instance waits in the ring of its place, unless it is the joiner's that was sent
abbrev pub IsPut : List RingValue → Option ℕ → ℕ → Instance → List RingValue → Option ℕ → Type 0
IsPut rings joined place y rings' joined' =
    ((joined ≡ Some place) × (joined' ≡ None) × (rings' ≡ rings))
    ⊎ ((joined ≢ Some place) × (joined' ≡ joined) × ((r : RingValue) → slice_get rings place ≡ Some r → (length r.waiting < r.most) × (rings' ≡ slice_set rings place (with_last r y))))

-- the ring is full, and it is not that joiner's
abbrev pub IsFull : List RingValue → Option ℕ → ℕ → Type 0
IsFull rings joined place = (joined ≢ Some place) × ((r : RingValue) → slice_get rings place ≡ Some r → r.most ≤ length r.waiting)

-- the stage after an offer is queued and its behaviour is asked again, if it can be
pub record IsQueued {B : Type 0} (offer : B → ℕ → Option Offer) (agrees : B → ℕ → ℕ → Bool) (until : ℕ) (streams : List Stream) (d : Due) (h h' : AtHand) (bs cs : List B) : Type 0 where
  pub put : queued_at d.offer ≤ until → IsPut h.rings h.joined d.place (instance_of d) h'.rings h'.joined
  pub ids : h'.ids ≡ h.ids
  pub running : h'.running ≡ h.running
  pub now : queued_at d.offer ≤ until → h'.now ≡ queued_at d.offer
  pub queued : get_or h.queued d.place 0 < 2 ^ 64 - 1 → h'.queued ≡ slice_set h.queued d.place (suc (get_or h.queued d.place 0))
  pub syncs : h'.syncs ≡ with_event h.syncs d.id d.offer.event
  pub asked : (k : Stream) (b : B) → slice_get streams d.place ≡ Some k → slice_get bs d.place ≡ Some b →
      (c : B) × (cs ≡ slice_set bs d.place c) × IsCued offer agrees (noted_cue h'.syncs k (get_or h'.queued d.place 0)) b c
      × (h'.next ≡ slice_set h.next d.place (answer_of offer until (noted_cue h'.syncs k (get_or h'.queued d.place 0)) (Some d.offer) b))

-- why it is not queued
abbrev pub InstanceFault : {S : Type 0} → (S → Step → S → Type 0) → Due → AtHand → S → S → SimFault → Type 0
InstanceFault takes d h s t (Backlog id) = (id ≡ d.id) × IsFull h.rings h.joined d.place × (t ≡ s)
InstanceFault takes d h s t (DisobeysAt stream instance) = ⊥
InstanceFault takes d h s t Sink = Unit {0}
InstanceFault takes d h s t Count = ⊥
InstanceFault takes d h s t Memory = queued_at d.offer < 2 ^ 64 → takes s (queue_step d.id d.offer) t

-- why it is not, or its behaviour does not obey, by the offers of the behaviours before
abbrev pub QueueFault : {B S : Type 0} → (B → ℕ → Option Offer) → (S → Step → S → Type 0) → ℕ → List Stream → Due → AtHand → List B → S → S → SimFault → Type 0
QueueFault offer takes until streams d h bs s t (Backlog id) = (id ≡ d.id) × IsFull h.rings h.joined d.place × (t ≡ s)
QueueFault {B} offer takes until streams d h bs s t (DisobeysAt stream instance) =
    (stream ≡ d.place) × (get_or h.queued d.place 0 < 2 ^ 64 - 1 → instance ≡ suc (get_or h.queued d.place 0)) × (queued_at d.offer ≤ until → takes s (queue_step d.id d.offer) t)
    × ((k : Stream) (b : B) → slice_get streams d.place ≡ Some k → slice_get bs d.place ≡ Some b →
    (o : Offer) × (answer_of offer until (noted_cue (with_event h.syncs d.id d.offer.event) k instance) (Some d.offer) b ≡ Some o)
    × (obeys k (Some d.offer) (from_of (noted_cue (with_event h.syncs d.id d.offer.event) k instance) o) o ≡ false))
QueueFault offer takes until streams d h bs s t Sink = Unit {0}
QueueFault offer takes until streams d h bs s t Count = ⊥
QueueFault offer takes until streams d h bs s t Memory = queued_at d.offer ≤ until → takes s (queue_step d.id d.offer) t

-- one place when a SYNC has ended: the behaviour is asked where it is the SYNC that it waits for
pub record IsCuedPlace {B : Type 0} (offer : B → ℕ → Option Offer) (agrees : B → ℕ → ℕ → Bool) (until : ℕ) (v : SyncsValue) (k : Stream) (queued : ℕ) (next next' : Option Offer) (b c : B) : Type 0 where
  pub asked : is_awaited v k queued ≡ true →
      IsCued offer agrees (noted_cue v k queued) b c × (next' ≡ answer_of offer until (noted_cue v k queued) None b)
      × ((o : Offer) → next' ≡ Some o → obeys k None (from_of (noted_cue v k queued) o) o ≡ true)
  pub other : is_awaited v k queued ≡ false → (c ≡ b) × (next' ≡ next)

-- the first n of them
pub record AreCued {B : Type 0} (offer : B → ℕ → Option Offer) (agrees : B → ℕ → ℕ → Bool) (until : ℕ) (streams : List Stream) (h h' : AtHand) (bs cs : List B) (n : ℕ) : Type 0 where
  pub others : h' ≡ record h { next = h'.next }
  pub long : length h'.next ≡ length h.next
  pub many : length cs ≡ length bs
  pub each : (i : ℕ) (k : Stream) (b : B) → i < n → slice_get streams i ≡ Some k → slice_get bs i ≡ Some b →
      (c : B) × (slice_get cs i ≡ Some c) × IsCuedPlace offer agrees until h.syncs k (get_or h.queued i 0) (next_at h.next i) (next_at h'.next i) b c
  pub rest : (i : ℕ) → n ≤ i → (slice_get cs i ≡ slice_get bs i) × (next_at h'.next i ≡ next_at h.next i)

-- why they are not: one of them does not obey
abbrev pub CueFault : {B : Type 0} → (B → ℕ → Option Offer) → ℕ → List Stream → AtHand → List B → SimFault → Type 0
CueFault {B} offer until streams h bs (DisobeysAt stream instance) =
    (stream < length streams) × (instance ≡ get_or h.queued stream 0)
    × ((k : Stream) (b : B) → slice_get streams stream ≡ Some k → slice_get bs stream ≡ Some b →
    (is_awaited h.syncs k instance ≡ true)
    × ((o : Offer) × (answer_of offer until (noted_cue h.syncs k instance) None b ≡ Some o) × (obeys k None (from_of (noted_cue h.syncs k instance) o) o ≡ false)))
CueFault offer until streams h bs (Backlog id) = ⊥
CueFault offer until streams h bs Sink = ⊥
CueFault offer until streams h bs Count = ⊥
CueFault offer until streams h bs Memory = ⊥

-- the stage after the transfer that runs ends
abbrev pub with_ended : AtHand → ℕ → ℕ → AtHand
with_ended h at id = record h { running = None; now = at; syncs = with_end h.syncs id at }

-- and after the behaviours are asked that waited for the SYNC that it is
pub record IsEnded {B : Type 0} (offer : B → ℕ → Option Offer) (agrees : B → ℕ → ℕ → Bool) (until : ℕ) (streams : List Stream) (at id : ℕ) (h h' : AtHand) (bs cs : List B) : Type 0 where
  pub asked : is_noted h.syncs id ≡ true → AreCued offer agrees until streams (with_ended h at id) h' bs cs (length streams)
  pub other : is_noted h.syncs id ≡ false → (h' ≡ with_ended h at id) × (cs ≡ bs)

-- why there is none
abbrev pub EndFault : {B S : Type 0} → (B → ℕ → Option Offer) → (S → Step → S → Type 0) → ℕ → List Stream → ℕ → ℕ → AtHand → List B → S → S → SimFault → Type 0
EndFault offer takes until streams at id h bs s t (DisobeysAt stream instance) =
    (is_noted h.syncs id ≡ true) × takes s (End id at) t × CueFault offer until streams (with_ended h at id) bs (DisobeysAt stream instance)
EndFault offer takes until streams at id h bs s t (Backlog n) = ⊥
EndFault offer takes until streams at id h bs s t Sink = Unit {0}
EndFault offer takes until streams at id h bs s t Count = ⊥
EndFault offer takes until streams at id h bs s t Memory = takes s (End id at) t

-- the stage after a transfer starts, of an instance that waits or else of a joiner
pub record IsStarted (ticks : ℕ) (s : Sent) (h h' : AtHand) : Type 0 where
  pub ids : h'.ids ≡ h.ids
  pub next : h'.next ≡ h.next
  pub queued : h'.queued ≡ h.queued
  pub now : h'.now ≡ h.now
  pub syncs : h'.syncs ≡ h.syncs
  pub rings : (r : RingValue) → slice_get h.rings s.place ≡ Some r → h'.rings ≡ slice_set h.rings s.place (without_first r)
  pub waiting : (r : RingValue) (y : Instance) → slice_get h.rings s.place ≡ Some r → slice_get r.waiting 0 ≡ Some y → (h'.joined ≡ h.joined) × (h'.running ≡ Some (h.now + y.frame.bits * ticks, s.id))
  pub joiner : (r : RingValue) (o : Offer) → slice_get h.rings s.place ≡ Some r → slice_get r.waiting 0 ≡ None → next_at h.next s.place ≡ Some o → (h'.joined ≡ Some s.place) × (h'.running ≡ Some (h.now + o.frame.bits * ticks, s.id))

-- a turn: one step more is taken, or the steps are the play, or there is a fault
abbrev pub IsTurned : {B S : Type 0} → (B → ℕ → Option Offer) → (B → ℕ → ℕ → Bool) → (S → Step → S → Type 0) → PlanValue → ℕ → List B → List B → AtHand → Bool → S → S → List Step → Result Bool SimFault → Type 0
IsTurned offer agrees takes plan until firsts bs h failed s t steps (Ok true) = (x : Step) × IsAt offer agrees plan until firsts bs h (steps ++ x ∷ []) × takes s x t
IsTurned offer agrees takes plan until firsts bs h failed s t steps (Ok false) = IsPlay (ticks_of plan.rate) (actors_of offer agrees plan.streams firsts) until steps × (t ≡ s)
IsTurned offer agrees takes plan until firsts bs h failed s t steps (Err fault) = IsFault takes plan (actors_of offer agrees plan.streams firsts) until failed s t steps fault

-- ---- the beginning

-- what a stream's first answer waits for before the first step
abbrev pub first_cue : Stream → Cue
first_cue k = cue_of [] 0 k

-- a behaviour that was asked for its first answer, which obeys; that of a synchronous stream is not asked yet
pub record IsFirst {B : Type 0} (offer : B → ℕ → Option Offer) (agrees : B → ℕ → ℕ → Bool) (until : ℕ) (k : Stream) (b c : B) (next : Option Offer) : Type 0 where
  pub asked : IsCued offer agrees (first_cue k) b c
  pub next_is : next ≡ answer_of offer until (first_cue k) None b
  pub obeying : (o : Offer) → next ≡ Some o → obeys k None (from_of (first_cue k) o) o ≡ true

-- the first n behaviours were asked
pub record AreFirst {B : Type 0} (offer : B → ℕ → Option Offer) (agrees : B → ℕ → ℕ → Bool) (until : ℕ) (streams : List Stream) (bs cs : List B) (next : List (Option Offer)) (n : ℕ) : Type 0 where
  pub long : length next ≡ n
  pub many : length cs ≡ length bs
  pub first : (i : ℕ) (k : Stream) (b : B) → i < n → slice_get streams i ≡ Some k → slice_get bs i ≡ Some b → (c : B) × (slice_get cs i ≡ Some c) × IsFirst offer agrees until k b c (next_at next i)
  pub rest : (i : ℕ) → n ≤ i → slice_get cs i ≡ slice_get bs i

-- why they are not: one of them does not obey
abbrev pub FirstFault : {B : Type 0} → (B → ℕ → Option Offer) → ℕ → List Stream → List B → SimFault → Type 0
FirstFault {B} offer until streams bs (DisobeysAt stream instance) =
    (stream < length streams) × (instance ≡ 0)
    × ((k : Stream) (b : B) → slice_get streams stream ≡ Some k → slice_get bs stream ≡ Some b → (o : Offer) × (answer_of offer until (first_cue k) None b ≡ Some o) × (obeys k None (from_of (first_cue k) o) o ≡ false))
FirstFault offer until streams bs (Backlog id) = ⊥
FirstFault offer until streams bs Sink = ⊥
FirstFault offer until streams bs Count = ⊥
FirstFault offer until streams bs Memory = Unit {0}
