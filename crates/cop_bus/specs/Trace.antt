-- Traces of the bus, and the runs of which they are.
use Rattle.std.specs.Prelude.{◌≡◌, ℕ, ◌+◌, ◌-◌, ◌*◌, ◌≤◌, ◌<◌, ◌⊎◌, List, [], ◌∷◌, Option, None, Some, Bool, false, zero, suc, length, slice_index_or, ◌==◌, All, Any, if◌then◌else◌}
use Rattle.std.specs.Option.{ForSome}
use Rattle.cop_rta.specs.declared.streams.Stream.{Stream}
use Rattle.cop_bus.specs.declared.steps.Step.{Step}
use Rattle.cop_bus.specs.declared.steps.Content.{Content}
use Rattle.cop_bus.specs.declared.steps.Step.TheVariants.{Queue, Start, End}
use Rattle.cop_bus.specs.Run.{Instance, IsLegal, IsObeying}

abbrev pub at_of : Step → ℕ
at_of (Queue id at event frame) = at
at_of (Start id at) = at
at_of (End id at) = at

-- at one moment ends come first, then queues, then starts
abbrev pub rank_of : Step → ℕ
rank_of (End id at) = 0
rank_of (Queue id at event frame) = 1
rank_of (Start id at) = 2

abbrev pub is_queue : ℕ → Step → Bool
is_queue k (Queue id at event frame) = id == k
is_queue k (Start id at) = false
is_queue k (End id at) = false

abbrev pub is_start : ℕ → Step → Bool
is_start k (Start id at) = id == k
is_start k (Queue id at event frame) = false
is_start k (End id at) = false

-- how many of the first i pass
abbrev pub count_to : (Step → Bool) → List Step → ℕ → ℕ
count_to p [] i = 0
count_to p (x ∷ xs) zero = 0
count_to p (x ∷ xs) (suc i) = (if p x then 1 else 0) + count_to p xs i

-- number j, from 0, of those that pass
abbrev pub nth_that : (Step → Bool) → ℕ → List Step → Option Step
nth_that p j [] = None
nth_that p zero (x ∷ xs) = if p x then Some x else nth_that p zero xs
nth_that p (suc j) (x ∷ xs) = if p x then nth_that p j xs else nth_that p (suc j) xs

abbrev pub moment_of : Option Step → Option ℕ
moment_of None = None
moment_of (Some x) = Some (at_of x)

-- the instance that is queued at step number i: it is sent at the start of its stream that has its number
abbrev pub instance : List Step → ℕ → ℕ → ℕ → ℕ → Content → Instance
instance steps i at id event frame = record {
  id = id;
  event = event;
  queued = at;
  bits = frame.bits;
  len = frame.len;
  start = moment_of (nth_that (is_start id) (count_to (is_queue id) steps i) steps);
}

-- the instances of a trace, in the order in which they are queued
abbrev pub instances_from : List Step → ℕ → List Step → List Instance
instances_from steps i [] = []
instances_from steps i (Queue id at event frame ∷ rest) = instance steps i at id event frame ∷ instances_from steps (suc i) rest
instances_from steps i (Start id at ∷ rest) = instances_from steps (suc i) rest
instances_from steps i (End id at ∷ rest) = instances_from steps (suc i) rest

abbrev pub instances : List Step → List Instance
instances steps = instances_from steps 0 steps

abbrev pub bits_of : Option Step → ℕ
bits_of (Some (Queue id at event frame)) = frame.bits
bits_of (Some (Start id at)) = 0
bits_of (Some (End id at)) = 0
bits_of None = 0

abbrev pub no_step : Step
no_step = End 0 0

abbrev pub step_at : List Step → ℕ → Step
step_at steps i = slice_index_or steps i no_step

-- the last step, and its moment, 0 if there is none
abbrev pub last_of : List Step → Step
last_of steps = step_at steps (length steps - 1)

abbrev pub now_of : List Step → ℕ
now_of steps = at_of (last_of steps)

-- the transfer that runs after the first i steps: its identifier and the moment of its end
abbrev pub after : ℕ → List Step → ℕ → Step → Option (ℕ × ℕ) → Option (ℕ × ℕ)
after tau steps i (Queue id at event frame) running = running
after tau steps i (Start id at) running = Some (id, at + bits_of (nth_that (is_queue id) (count_to (is_start id) steps i) steps) * tau)
after tau steps i (End id at) running = None

abbrev pub running : ℕ → List Step → ℕ → Option (ℕ × ℕ)
running tau steps zero = None
running tau steps (suc i) = after tau steps i (step_at steps i) (running tau steps i)

-- A trace is the steps, in order, of a legal run in which all streams obey: each start is of an instance, and the ends are those
-- of the instances that end by the last moment, each once.
pub record IsLegalTrace (tau : ℕ) (streams : List Stream) (until : ℕ) (steps : List Step) : Type 0 where
  pub ordered : (i j : ℕ) → i < j → j < length steps →
      (at_of (step_at steps i) < at_of (step_at steps j)) ⊎ ((at_of (step_at steps i) ≡ at_of (step_at steps j)) × (rank_of (step_at steps i) ≤ rank_of (step_at steps j)))
  pub by_end : (i : ℕ) → i < length steps → at_of (step_at steps i) ≤ until
  pub no_more_starts : (id : ℕ) → count_to (is_start id) steps (length steps) ≤ count_to (is_queue id) steps (length steps)
  pub ends_are : (i at id : ℕ) → i < length steps → step_at steps i ≡ End id at →
      Any (λ y. (y.id ≡ id) × ((s : ℕ) × (y.start ≡ Some s) × (s + y.bits * tau ≡ at))) (instances steps)
  pub each_end : All (λ y. ForSome y.start (λ s. s + y.bits * tau ≤ until → (i : ℕ) × (i < length steps) × (step_at steps i ≡ End y.id (s + y.bits * tau)))) (instances steps)
  pub ends_once : (i j at at' id id' : ℕ) → i < j → j < length steps → step_at steps i ≡ End id at → step_at steps j ≡ End id' at' → at < at'
  pub legal : IsLegal tau streams until (instances steps)
  pub obeying : All (IsObeying tau until (instances steps)) streams
