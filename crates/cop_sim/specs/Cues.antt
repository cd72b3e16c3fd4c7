-- When the behaviour of a stream is asked: of a synchronous one once a SYNC has ended, which gives its instance the event.
use Rattle.std.specs.Prelude.{ℕ, ◌+◌, ◌-◌, ◌*◌, List, Option, None, Some, Bool, true, false, suc, take, max, ◌==◌, if◌then◌else◌}
use Rattle.cop_rta.specs.declared.streams.Stream.{Stream}
use Rattle.cop_bus.specs.declared.steps.Step.{Step}
use Rattle.cop_bus.specs.Trace.{is_queue, count_to}
use Rattle.cop_bus.specs.Ends.{Ended, sync_number}
use Rattle.cop_sim.specs.declared.behaviours.Offer.{Offer}
use Rattle.cop_sim.specs.declared.cues.Cue.{Cue}
use Rattle.cop_sim.specs.declared.cues.Cue.TheVariants.{Own, Sync, Awaited}

-- the moment at which an offer is queued
abbrev pub queued_at : Offer → ℕ
queued_at o = o.event + o.delay

abbrev pub cue_after : Option Ended → Cue
cue_after None = Awaited
cue_after (Some e) = Sync e.event e.at

-- the SYNC that answer number n of a synchronous stream waits for, both from 0: each answer is for so many SYNCs
abbrev pub awaited_sync : Stream → ℕ → ℕ
awaited_sync k n = suc n * k.every - 1

-- what answer number n of a stream waits for, by the SYNCs that are queued and have ended in the steps
abbrev pub cue_by : List Step → Stream → ℕ → Cue
cue_by steps k n = if k.every == 0 then Own else cue_after (sync_number steps (awaited_sync k n))

-- what the answer after those that the first i steps queue waits for
abbrev pub cue_of : List Step → ℕ → Stream → Cue
cue_of steps i k = cue_by (take i steps) k (count_to (is_queue k.id) steps i)

-- it waits no more
abbrev pub is_given : Cue → Bool
is_given Own = true
is_given (Sync event ended) = true
is_given Awaited = false

abbrev pub last_moment : Option Offer → ℕ
last_moment None = 0
last_moment (Some b) = queued_at b

-- An answer for a SYNC: its event is SYNC's, and it is queued its delay after SYNC's end, but not before the one before it.
abbrev pub filled : Option Offer → ℕ → ℕ → Offer → Offer
filled before event ended o = record { event = event; delay = max (ended + o.delay) (last_moment before) - event; frame = o.frame }

-- what is offered by an answer to a cue, after the offer before
abbrev pub answer_in : Cue → Option Offer → Option Offer → Option Offer
answer_in Own before answer = answer
answer_in (Sync event ended) before None = None
answer_in (Sync event ended) before (Some o) = Some (filled before event ended o)
answer_in Awaited before answer = None

-- the moment from which an offer may be queued: its event, or the end of its SYNC
abbrev pub from_of : Cue → Offer → ℕ
from_of Own o = o.event
from_of (Sync event ended) o = ended
from_of Awaited o = o.event
