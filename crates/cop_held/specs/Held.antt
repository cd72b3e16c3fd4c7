-- Streams whose frames are handed over so far apart, as an inhibit time has it: the least time between two transmissions of a PDO (CiA 301,
-- "Inhibit time"). A frame is handed over at the moment at which it is queued.
use Rattle.std.specs.Prelude.{◌≡◌, ℕ, ◌+◌, ◌*◌, ◌≤◌, Bool, true, false, List, Option, Some, map, if◌then◌else◌, All, AllPairs}
use Rattle.std.specs.Option.{ForSome}
use Rattle.cop_frame.specs.Rate.{ticks_of}
use Rattle.cop_rta.specs.Test.{sync_id}
use Rattle.cop_bus.specs.Run.{Instance, IsLegal, IsObeying}
use Rattle.cop_plan.specs.Values.{PlanValue}

-- of two instances of a stream the later is handed over so long after the earlier, or longer
abbrev pub AreHeldApart : ℕ → ℕ → List Instance → Type 0
AreHeldApart gap id run = AllPairs (λ y z. y.id ≡ id → z.id ≡ id → y.queued + gap ≤ z.queued) run

-- an instance of a stream that is held, its hand-over being its event; one of another stream as it is
abbrev pub redated_one : (ℕ → Bool) → Instance → Instance
redated_one held y = record y { event = if held y.id then y.queued else y.event }

-- the run in which hand-overs are the events of the streams that are held
abbrev pub redated : (ℕ → Bool) → List Instance → List Instance
redated held run = map (redated_one held) run

-- A legal run of the plan's streams at its rate. Those that are held are sent by events and handed over a period apart, whatever their events
-- are; all others obey, the fixed frames too. SYNC is not held.
pub record IsHeldRunOf (plan : PlanValue) (held : ℕ → Bool) (until : ℕ) (run : List Instance) : Type 0 where
  pub legal : IsLegal (ticks_of plan.rate) plan.streams until run
  pub by_events : All (λ k. held k.id ≡ true → k.every ≡ 0) plan.streams
  pub apart : All (λ k. held k.id ≡ true → AreHeldApart k.period k.id run) plan.streams
  pub obeying : All (λ k. held k.id ≡ false → IsObeying (ticks_of plan.rate) until run k) plan.streams
  pub no_sync : held sync_id ≡ false

-- it has ended by so long after it was handed over, if that moment is not after the run
abbrev pub IsSentOnTime : ℕ → ℕ → Option ℕ → Instance → Type 0
IsSentOnTime tau until deadline y = ForSome deadline (λ d. y.queued + d ≤ until → (s : ℕ) × (y.start ≡ Some s) × (s + y.bits * tau ≤ y.queued + d))
