-- Traces that grow.
use Rattle.std.specs.Prelude.{◌≡◌, ℕ, ◌<◌, ◌⊎◌, List, ◌++◌, None, false, length}
use Rattle.cop_rta.specs.declared.streams.Stream.{Stream}
use Rattle.cop_bus.specs.declared.steps.Step.{Step}
use Rattle.cop_bus.specs.Trace.{is_queue, step_at}
use Rattle.cop_bus.specs.Judge.{broken_by}

-- each of the steps keeps the rules up to an end, with what is ahead behind them
abbrev pub KeepTheRules : ℕ → List Stream → ℕ → List Step → List Step → Type 0
KeepTheRules tau streams until steps ahead = (i : ℕ) → i < length steps → broken_by tau streams until (steps ++ ahead) i (step_at steps i) ≡ None

-- no stream is queued at both
abbrev pub AreOfOthers : Step → Step → Type 0
AreOfOthers x y = (id : ℕ) → (is_queue id x ≡ false) ⊎ (is_queue id y ≡ false)
