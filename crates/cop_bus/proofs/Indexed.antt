-- The rules of a trace by indexes, but for those by which the streams obey.
use Rattle.std.specs.Prelude.{◌≡◌, ℕ, ◌+◌, ◌*◌, ◌≤◌, ◌<◌, ◌⊎◌, List, None, Some, suc, length, All, Any}
use Rattle.std.specs.Option.{ForSome}
use Rattle.cop_rta.specs.declared.streams.Stream.{Stream}
use Rattle.cop_bus.specs.declared.steps.Step.{Step}
use Rattle.cop_bus.specs.declared.steps.Content.{Content}
use Rattle.cop_bus.specs.declared.steps.Step.TheVariants.{Queue, Start, End}
use Rattle.cop_bus.specs.Trace.{at_of, rank_of, is_queue, is_start, count_to, nth_that, step_at, running, instance, instances}
use Rattle.cop_bus.specs.Run.{IsKnown, IsLegal}

-- an instance of the stream waits after the first i steps
abbrev pub WaitsAfter : List Step → ℕ → ℕ → Type 0
WaitsAfter steps i id = count_to (is_start id) steps i < count_to (is_queue id) steps i

-- The rules, by steps, but for 62 and 63.
pub record Obeys (tau : ℕ) (streams : List Stream) (until : ℕ) (steps : List Step) : Type 0 where
  -- 60: moments don't fall, none is after the end; ends, then queues, then starts
  pub ordered : (i j : ℕ) → i < j → j < length steps →
      (at_of (step_at steps i) < at_of (step_at steps j)) ⊎ ((at_of (step_at steps i) ≡ at_of (step_at steps j)) × (rank_of (step_at steps i) ≤ rank_of (step_at steps j)))
  pub by_end : (i : ℕ) → i < length steps → at_of (step_at steps i) ≤ until
  -- 61, 64: of a stream, of a length of the stream
  pub known : (i at id event : ℕ) (frame : Content) → i < length steps → step_at steps i ≡ Queue id at event frame → IsKnown streams (instance steps i at id event frame)
  -- 65: a start only where no transfer runs, an end only of the one that runs and at its moment, and none is missing
  pub start_free : (i at id : ℕ) → i < length steps → step_at steps i ≡ Start id at → running tau steps i ≡ None
  pub end_due : (i at id : ℕ) → i < length steps → step_at steps i ≡ End id at → running tau steps i ≡ Some (id, at)
  pub none_missing : (i id at : ℕ) → i < length steps → running tau steps i ≡ Some (id, at) →
      (at_of (step_at steps i) < at) ⊎ (step_at steps i ≡ End id at)
  pub last_missing : (id at : ℕ) → running tau steps (length steps) ≡ Some (id, at) → until < at
  -- 66: some instance waits at a start, and the stream has one to send, queued less than a bit time later
  pub start_asked : (i at id : ℕ) → i < length steps → step_at steps i ≡ Start id at → (k : ℕ) × WaitsAfter steps i k
  pub start_has : (i at id : ℕ) → i < length steps → step_at steps i ≡ Start id at →
      (q event : ℕ) × (frame : Content) × (nth_that (is_queue id) (count_to (is_start id) steps i) steps ≡ Some (Queue id q event frame)) × (q < at + tau)
  -- 67: none with a lower identifier waits at a start
  pub start_lowest : (i at id : ℕ) → i < length steps → step_at steps i ≡ Start id at → (k : ℕ) → WaitsAfter steps i k → id ≤ k
  -- 68: none waits at an earlier tick at which no transfer runs
  pub not_idle : (i k : ℕ) → suc i < length steps → running tau steps (suc i) ≡ None → WaitsAfter steps (suc i) k → at_of (step_at steps (suc i)) ≤ at_of (step_at steps i)
  pub last_not_idle : (i k : ℕ) → suc i ≡ length steps → running tau steps (suc i) ≡ None → WaitsAfter steps (suc i) k → until ≤ at_of (step_at steps i)

-- A trace is the steps, in order, of a legal run: each start is of an instance, and the ends are those
-- of the instances that end by the last moment, each once.
pub record IsTraceOf (tau : ℕ) (streams : List Stream) (until : ℕ) (steps : List Step) : Type 0 where
  pub ordered : (i j : ℕ) → i < j → j < length steps →
      (at_of (step_at steps i) < at_of (step_at steps j)) ⊎ ((at_of (step_at steps i) ≡ at_of (step_at steps j)) × (rank_of (step_at steps i) ≤ rank_of (step_at steps j)))
  pub by_end : (i : ℕ) → i < length steps → at_of (step_at steps i) ≤ until
  pub no_more_starts : (id : ℕ) → count_to (is_start id) steps (length steps) ≤ count_to (is_queue id) steps (length steps)
  pub ends_are : (i at id : ℕ) → i < length steps → step_at steps i ≡ End id at →
      Any (λ y. (y.id ≡ id) × ((s : ℕ) × (y.start ≡ Some s) × (s + y.bits * tau ≡ at))) (instances steps)
  pub each_end : All (λ y. ForSome y.start (λ s. s + y.bits * tau ≤ until → (i : ℕ) × (i < length steps) × (step_at steps i ≡ End y.id (s + y.bits * tau)))) (instances steps)
  pub ends_once : (i j at at' id id' : ℕ) → i < j → j < length steps → step_at steps i ≡ End id at → step_at steps j ≡ End id' at' → at < at'
  pub legal : IsLegal tau streams until (instances steps)
