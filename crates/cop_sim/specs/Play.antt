-- The play of behaviours: the one trace that their answers fix.
use Rattle.std.specs.Prelude.{◌≡◌, ℕ, ◌+◌, ◌-◌, ◌≤◌, ◌<◌, ◌⊎◌, List, [], ◌∷◌, ◌++◌, Option, None, Some, Bool, true, false, zero, suc, length, map, All, Any, nat_le, nat_lt, ◌&&◌, ◌||◌, ◌==◌, if◌then◌else◌, Contains}
use Rattle.std.specs.Option.{ForSome, option_and_then}
use Rattle.cop_rta.specs.declared.streams.Stream.{Stream}
use Rattle.cop_bus.specs.declared.steps.Step.{Step}
use Rattle.cop_bus.specs.declared.steps.Step.TheVariants.{Queue, Start, End}
use Rattle.cop_bus.specs.declared.steps.Content.{Content}
use Rattle.cop_bus.specs.Trace.{is_queue, is_start, count_to, step_at, last_of, now_of, IsLegalTrace}
use Rattle.cop_bus.specs.Judge.{waits_after, is_of_length}
use Rattle.cop_sim.specs.declared.behaviours.Offer.{Offer}
pub use Rattle.cop_sim.specs.Cues.{queued_at}
use Rattle.cop_sim.specs.Cues.{cue_of, answer_in, from_of}

-- A stream and what its behaviour means: its answers to `next`, by number, and to `joins`.
pub record Actor : Type 0 where
  pub stream : Stream
  pub offer : ℕ → Option Offer
  pub agrees : ℕ → ℕ → Bool

abbrev pub streams_of : List Actor → List Stream
streams_of actors = map (λ a. a.stream) actors

-- each stream with its behaviour
abbrev pub actors_of : {B : Type 0} → (B → ℕ → Option Offer) → (B → ℕ → ℕ → Bool) → List Stream → List B → List Actor
actors_of offer agrees [] bs = []
actors_of offer agrees (k ∷ ks) [] = []
actors_of offer agrees (k ∷ ks) (b ∷ bs) = record { stream = k; offer = offer b; agrees = agrees b } ∷ actors_of offer agrees ks bs

abbrev pub queue_step : ℕ → Offer → Step
queue_step id o = Queue id (queued_at o) o.event o.frame

-- the offer of a queue step, if the step queues an instance of the stream, and otherwise what was before
abbrev pub offer_or : ℕ → Step → Option Offer → Option Offer
offer_or k (Queue id at event frame) before = if id == k then Some (record { event = event; delay = at - event; frame = frame }) else before
offer_or k (Start id at) before = before
offer_or k (End id at) before = before

-- the last offer of a stream that the first i steps queue
abbrev pub queued_before : ℕ → List Step → ℕ → Option Offer
queued_before k steps zero = None
queued_before k steps (suc i) = offer_or k (step_at steps i) (queued_before k steps i)

-- the answer after those that the first i steps queue: of a synchronous stream not before the SYNC that it waits for has ended
abbrev pub next_answer : List Step → ℕ → Actor → Option Offer
next_answer steps i a = answer_in (cue_of steps i a.stream) (queued_before a.stream.id steps i) (a.offer (count_to (is_queue a.stream.id) steps i))

-- an offer that is queued by the end
abbrev pub by_end : ℕ → Offer → Option Offer
by_end until o = if nat_le (queued_at o) until then Some o else None

-- the offer after those that the first i steps queue, if it is not past the end
abbrev pub next_offer : ℕ → List Step → ℕ → Actor → Option Offer
next_offer until steps i a = option_and_then (by_end until) (next_answer steps i a)

-- each queue step of its stream is that of its next offer after the steps before
abbrev pub QueuesItsOffers : List Step → Actor → Type 0
QueuesItsOffers steps a = (i at event : ℕ) (frame : Content) → i < length steps → step_at steps i ≡ Queue a.stream.id at event frame →
    (o : Offer) × (next_answer steps i a ≡ Some o) × (step_at steps i ≡ queue_step a.stream.id o)

-- it joins the arbitration of the start at z, which comes after the first i steps
pub record Joins (tau until : ℕ) (steps : List Step) (i z : ℕ) (a : Actor) : Type 0 where
  pub none_waits : waits_after steps i a.stream.id ≡ false
  pub next : Offer
  pub is_next : next_offer until steps i a ≡ Some next
  pub after_start : z < queued_at next
  pub soon : queued_at next < z + tau
  pub says_so : a.agrees z (queued_at next) ≡ true

-- it may be sent there
abbrev pub Competes : ℕ → ℕ → List Step → ℕ → ℕ → Actor → Type 0
Competes tau until steps i z a = (waits_after steps i a.stream.id ≡ true) ⊎ Joins tau until steps i z a

-- at each start the lowest of those that wait or join is sent
abbrev pub SendsTheLowest : ℕ → List Actor → ℕ → List Step → Type 0
SendsTheLowest tau actors until steps = (i z id : ℕ) → i < length steps → step_at steps i ≡ Start id z →
    Any (λ a. (a.stream.id ≡ id) × Competes tau until steps i z a) actors × All (λ a. Competes tau until steps i z a → id ≤ a.stream.id) actors

-- the queue steps of one moment rise by identifier
abbrev pub QueuesRise : List Step → Type 0
QueuesRise steps = (i j at id id' event event' : ℕ) (frame frame' : Content) → i < j → j < length steps →
    step_at steps i ≡ Queue id at event frame → step_at steps j ≡ Queue id' at event' frame' → id ≤ id'

-- nothing starts at the end
abbrev pub StartsBefore : ℕ → List Step → Type 0
StartsBefore until steps = (i z id : ℕ) → i < length steps → step_at steps i ≡ Start id z → z < until

-- The play of these actors: a legal trace in which each queues its offers, up to the first answer that is none or
-- is past the end, and the lowest of those that wait or join is sent.
pub record IsPlay (tau : ℕ) (actors : List Actor) (until : ℕ) (steps : List Step) : Type 0 where
  pub legal : IsLegalTrace tau (streams_of actors) until steps
  pub offers : All (QueuesItsOffers steps) actors
  pub all_queued : All (λ a. next_offer until steps (length steps) a ≡ None) actors
  pub rising : QueuesRise steps
  pub none_at_end : StartsBefore until steps
  pub lowest : SendsTheLowest tau actors until steps

-- more of its instances were sent than are queued: a joiner's queue step is still to come
abbrev pub IsSentAhead : List Step → Actor → Type 0
IsSentAhead steps a = count_to (is_queue a.stream.id) steps (length steps) < count_to (is_start a.stream.id) steps (length steps)

-- the queue step to come of a joiner that was sent, if there is one
abbrev pub IsAhead : List Actor → ℕ → List Step → List Step → Type 0
IsAhead actors until steps ahead = (ahead ≡ [])
    ⊎ Any (λ a. IsSentAhead steps a × ((o : Offer) × (next_offer until steps (length steps) a ≡ Some o) × (ahead ≡ queue_step a.stream.id o ∷ []))) actors

-- The play up to some step of it, whether or not there is a play: with the queue step of a joiner that was sent the
-- steps are a legal trace, and no offer that is queued before the last one is left out. What the stream of a last queue
-- step offers next is still to be asked, and may be anything.
pub record IsPartialPlay (tau : ℕ) (actors : List Actor) (until : ℕ) (steps : List Step) : Type 0 where
  pub within : now_of steps ≤ until
  pub ahead : List Step
  pub is_ahead : IsAhead actors until steps ahead
  pub legal : IsLegalTrace tau (streams_of actors) (now_of (steps ++ ahead)) (steps ++ ahead)
  pub offers : All (QueuesItsOffers steps) actors
  pub none_left_out : All (λ a. is_queue a.stream.id (last_of steps) ≡ false → ForSome (next_offer until steps (length steps) a) (λ o. now_of steps ≤ queued_at o)) actors
  pub rising : QueuesRise steps
  pub none_at_end : StartsBefore until steps
  pub lowest : SendsTheLowest tau actors until steps

-- so many instances of a stream wait after the steps
abbrev pub waiting_after : ℕ → List Step → ℕ
waiting_after id steps = count_to (is_queue id) steps (length steps) - count_to (is_start id) steps (length steps)

abbrev pub event_of : Option Offer → Option ℕ
event_of None = None
event_of (Some o) = Some o.event

abbrev pub is_not_before : Option Offer → Offer → Bool
is_not_before None o = true
is_not_before (Some b) o = nat_le (queued_at b) (queued_at o)

-- an event is a period or more after the one before; a synchronous stream's SYNCs are as many numbers apart, whatever it answers
abbrev pub is_later : Stream → Option Offer → Offer → Bool
is_later k None o = true
is_later k (Some b) o = nat_lt 0 k.every || nat_le (b.event + k.period) o.event

-- queued from a moment to the jitter after it
abbrev pub is_in_time : Stream → ℕ → Offer → Bool
is_in_time k from o = nat_le from (queued_at o) && nat_le (queued_at o) (from + k.jitter)

-- An offer of the stream after another keeps its bounds: a period later, queued in time from a moment on and not before the other,
-- of a length and of the number of bytes of its frames.
abbrev pub obeys : Stream → Option Offer → ℕ → Offer → Bool
obeys k before from o = is_later k before o && is_in_time k from o && is_of_length (Some k) (queue_step k.id o) && is_not_before before o

-- it does so after the first i steps: from its event on, or from the end of the SYNC that it waited for
abbrev pub obeys_after : List Step → ℕ → Stream → Offer → Bool
obeys_after steps i k o = obeys k (queued_before k.id steps i) (from_of (cue_of steps i k) o) o

-- After a partial play that queues so many of the actor's offers its next answer is an offer, not past the end, that does not.
pub record Disobeys (tau : ℕ) (actors : List Actor) (until : ℕ) (a : Actor) (n : ℕ) : Type 0 where
  pub its : Contains actors a
  pub steps : List Step
  pub partial : IsPartialPlay tau actors until steps
  pub number : count_to (is_queue a.stream.id) steps (length steps) ≡ n
  pub offer : Offer
  pub is_next : next_offer until steps (length steps) a ≡ Some offer
  pub breaks : obeys_after steps (length steps) a.stream offer ≡ false

-- how many instances of a stream that is no PDO with a deadline may wait
abbrev pub most_waiting : ℕ
most_waiting = 64

-- the play up to some queue step of the stream leaves more of its instances waiting
pub record IsBacklog (tau : ℕ) (actors : List Actor) (until id : ℕ) : Type 0 where
  pub steps : List Step
  pub partial : IsPartialPlay tau actors until steps
  pub queued : is_queue id (last_of steps) ≡ true
  pub too_many : most_waiting < waiting_after id steps
