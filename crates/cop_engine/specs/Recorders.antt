-- A sink that writes a trace and counts its transfers.
use Rattle.std.specs.Prelude.{◌≡◌, ℕ, ◌+◌, ◌-◌, ◌^◌, min, List, Option, None, if◌then◌else◌}
use Rattle.cop_bus.specs.declared.steps.Step.{Step}
use Rattle.cop_bus.specs.Piecewise.{Writes, Finishes}
use Rattle.cop_engine.specs.declared.seeded_runs.Recorder.{Recorder}
use Rattle.cop_engine.specs.Judgements.{is_start, judged_text}

-- the number of transfers after a step
abbrev pub counted : ℕ → Step → ℕ
counted n x = if is_start x then min (n + 1) (2 ^ 64 - 1) else n

abbrev pub Records : {W : Type 0} → (W → Option (List ℕ)) → Recorder W → Step → Recorder W → Type 0
Records contents s x t = Writes contents s.trace x t.trace × (t.transfers ≡ counted s.transfers x)

-- what is said of its transfers, and the writer with the trace's end
abbrev pub IsFinished : {W : Type 0} → (W → Option (List ℕ)) → Recorder W → ℕ → List ℕ → W → Type 0
IsFinished contents s until text w = (text ≡ judged_text s.transfers None) × Finishes contents s.trace until w
