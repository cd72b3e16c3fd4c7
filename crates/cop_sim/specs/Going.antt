-- A partial play that can go on.
use Rattle.std.specs.Prelude.{◌≡◌, ℕ, ◌+◌, ◌≤◌, ◌<◌, ◌⊎◌, List, [], ◌∷◌, ◌++◌, None, Some, true, false, length, is_some, Contains}
use Rattle.cop_bus.specs.declared.steps.Step.{Step}
use Rattle.cop_bus.specs.declared.steps.Content.{Content}
use Rattle.cop_bus.specs.declared.steps.Step.TheVariants.{Queue}
use Rattle.cop_bus.specs.Trace.{is_queue, is_start, count_to, step_at, running, last_of, now_of}
use Rattle.cop_bus.specs.Judge.{stream_of, is_in_order, broken_by}
use Rattle.cop_rta.specs.Test.{sync_id}
use Rattle.cop_bus.specs.Ends.{is_end}
use Rattle.cop_bus.specs.Growing.{KeepTheRules}
use Rattle.cop_sim.specs.declared.behaviours.Offer.{Offer}
use Rattle.cop_sim.specs.Play.{Actor, streams_of, queued_at, queue_step, next_offer, QueuesItsOffers, SendsTheLowest, QueuesRise, StartsBefore, IsSentAhead, obeys_after}

-- An actor's next offer, which obeys, comes in turn after the steps.
pub record IsNext (until : ℕ) (steps : List Step) (a : Actor) (o : Offer) : Type 0 where
  pub in_turn : is_in_order until steps (length steps) (queue_step a.stream.id o) ≡ true
  pub obeying : obeys_after steps (length steps) a.stream o ≡ true
  pub rising : (i id event : ℕ) (frame : Content) → i < length steps → step_at steps i ≡ Queue id (queued_at o) event frame → id ≤ a.stream.id

-- how many instances of a stream are queued by what is ahead
abbrev pub queued_ahead : ℕ → List Step → ℕ
queued_ahead k ahead = count_to (is_queue k) ahead (length ahead)

-- A partial play that can go on: what runs has not ended, and each next offer that obeys is as it should be.
pub record Goes (tau : ℕ) (actors : List Actor) (until : ℕ) (steps ahead : List Step) : Type 0 where
  pub fine : KeepTheRules tau (streams_of actors) until steps ahead
  pub ahead_fine : (y : Step) → ahead ≡ y ∷ [] → broken_by tau (streams_of actors) until (steps ++ ahead) (length steps) y ≡ None
  pub sent : (ahead ≡ []) ⊎ ((a : Actor) × Contains actors a × IsSentAhead steps a × ((o : Offer) × (next_offer until steps (length steps) a ≡ Some o) × (ahead ≡ queue_step a.stream.id o ∷ [])))
  pub clear : running tau (steps ++ ahead) (length steps) ≡ None → ahead ≡ []
  pub started : (k : ℕ) → count_to (is_start k) steps (length steps) ≤ count_to (is_queue k) steps (length steps) + queued_ahead k ahead
  pub unfinished : (r : ℕ × ℕ) → running tau (steps ++ ahead) (length steps) ≡ Some r → now_of steps < r.1
  pub known : (r : ℕ × ℕ) → running tau (steps ++ ahead) (length steps) ≡ Some r → is_some (stream_of (streams_of actors) r.0) ≡ true
  pub offers : (a : Actor) → Contains actors a → QueuesItsOffers steps a
  pub ended : count_to (is_end sync_id) steps (length steps) ≤ count_to (is_queue sync_id) steps (length steps)
  pub next : (a : Actor) → Contains actors a → (o : Offer) → next_offer until steps (length steps) a ≡ Some o →
      obeys_after steps (length steps) a.stream o ≡ true → IsNext until steps a o
  pub none_left_out : (a : Actor) → Contains actors a → is_queue a.stream.id (last_of steps) ≡ false → (o : Offer) → next_offer until steps (length steps) a ≡ Some o → now_of steps ≤ queued_at o
  pub rising : QueuesRise steps
  pub none_at_end : StartsBefore until steps
  pub lowest : SendsTheLowest tau actors until steps
