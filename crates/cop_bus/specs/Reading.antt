-- The trace of a text.
use Rattle.std.specs.Prelude.{◌≡◌, ℕ, ◌+◌, ◌≤◌, ◌<◌, ◌^◌, List, [], ◌∷◌, ◌++◌, length, drop, replicate, All, ◌-◌, Option, Some, None, Result, Ok, Err}
use Rattle.cop_table.specs.Reading.{◌>>=◌}
use Rattle.cop_table.specs.Records.{under_header, BadHeader}
use Rattle.cop_bus.specs.Format.{Fields, header}
use Rattle.cop_bus.specs.Entries.{entry_in}
use Rattle.cop_bus.specs.declared.steps.Step.{Step}
use Rattle.cop_bus.specs.declared.steps.Content.{Content}
use Rattle.cop_bus.specs.declared.steps.Step.TheVariants.{Queue, Start, End}
use Rattle.cop_bus.specs.declared.runs.Trace.{Trace}
use Rattle.cop_bus.specs.declared.entries.Entry.{Entry}
use Rattle.cop_bus.specs.declared.entries.Entry.TheVariants.{Taken, Until}
use Rattle.cop_bus.specs.declared.entries.EntryFault.{EntryFault}
use Rattle.cop_bus.specs.declared.faults.BusFault.{BusFault}
use Rattle.cop_bus.specs.declared.faults.BusFault.TheVariants.{Refused, Memory}

-- what a trace tells
pub record Told : Type 0 where
  pub until : ℕ
  pub steps : List Step

abbrev pub told : Trace → Told
told trace = record { until = trace.until; steps = trace.steps.items }

-- the record at which a text is refused, with the number of such a fault; want of memory has none
abbrev pub refused_at : BusFault → Option (ℕ × ℕ)
refused_at (Refused place number) = Some (place, number)
refused_at Memory = None

-- a text that is not read is refused at a record, by number 69
abbrev pub refuse : {A : Type 0} → ℕ → Result A (ℕ × ℕ)
refuse place = Err (place, 69)

-- the record of the end, at a place, is the last one
abbrev pub ended : ℕ → ℕ → List Step → List Fields → Result Told (ℕ × ℕ)
ended place until steps [] = Ok (record { until = until; steps = steps })
ended place until steps (row ∷ rows) = refuse (place + 1)

-- what a record adds to the steps before it, where `rest` tells what the records after it make of the steps
abbrev pub taken : ℕ → List Step → List Fields → Result Entry EntryFault → (List Step → Result Told (ℕ × ℕ)) → Result Told (ℕ × ℕ)
taken place steps rows (Ok (Taken step)) rest = rest (steps ++ step ∷ [])
taken place steps rows (Ok (Until until)) rest = ended place until steps rows
taken place steps rows (Err fault) rest = refuse place

-- the trace of the records after so many, which gave these steps
unfoldable pub trace_from : ℕ → List Step → List Fields → Result Told (ℕ × ℕ)
trace_from place steps [] = refuse (place + 1)
trace_from place steps (row ∷ rows) = taken (place + 1) steps rows (entry_in row) (λ more. trace_from (place + 1) more rows)

abbrev pub at_header : {A : Type 0} → Result A BadHeader → Result A (ℕ × ℕ)
at_header (Ok x) = Ok x
at_header (Err b) = refuse 0

abbrev pub rows_in : List ℕ → Result (List Fields) (ℕ × ℕ)
rows_in text = at_header (under_header header text)

-- the trace of a text: its records count from 1
unfoldable pub trace_of : List ℕ → Result Told (ℕ × ℕ)
trace_of text = rows_in text >>= trace_from 0 []

-- a frame whose data bytes a record tells: at most 8, and those after them are 0
pub record IsWritableFrame (frame : Content) : Type 0 where
  pub bits : frame.bits < 2 ^ 32
  pub len : frame.len ≤ 8
  pub all : length frame.body ≡ 8
  pub bytes : All (λ b. b < 256) frame.body
  pub rest : drop frame.len frame.body ≡ replicate (8 - frame.len) 0

abbrev pub IsWritable : Step → Type 0
IsWritable (Queue id at event frame) = (at < 2 ^ 64) × (id < 2 ^ 16) × (event < 2 ^ 64) × IsWritableFrame frame
IsWritable (Start id at) = (at < 2 ^ 64) × (id < 2 ^ 16)
IsWritable (End id at) = (at < 2 ^ 64) × (id < 2 ^ 16)

-- numbers of their types, and frames whose data a record tells
pub record AreWritable (until : ℕ) (steps : List Step) : Type 0 where
  pub end : until < 2 ^ 64
  pub each : All IsWritable steps
