-- The text of a trace, as far as it was read.
use Rattle.std.specs.Prelude.{◌≡◌, ℕ, ◌<◌, List, [], ◌++◌, Bool, false, All, None, Some, Result, Ok, length, ◌==◌}
use Rattle.cop_rta.specs.declared.streams.Stream.{Stream}
use Rattle.cop_table.specs.Reading.{◌>>=◌}
use Rattle.cop_table.specs.Records.{rest_under}
use Rattle.cop_table.specs.Plain.{is_quote, is_line_end, pieces, cut_lines}
use Rattle.cop_table.specs.Lines.{first_line}
use Rattle.cop_bus.specs.declared.steps.Step.{Step}
use Rattle.cop_bus.specs.Format.{Fields, header}
use Rattle.cop_bus.specs.Reading.{Told, at_header, trace_from, trace_of}
use Rattle.cop_bus.specs.Judge.{first_broken}
use Rattle.cop_watch.specs.declared.watching.Watch.{Watch}
use Rattle.cop_watch.specs.declared.reading.Stage.{Stage}
use Rattle.cop_watch.specs.declared.reading.Stage.TheVariants.{Header, Steps, Ended}
use Rattle.cop_watch.specs.declared.reading.TraceWatch.{TraceWatch}
use Rattle.cop_watch.specs.Knowing.{sent}
use Rattle.cop_watch.specs.declared.found.Seen.{Seen}
use Rattle.cop_watch.specs.declared.found.Seen.TheVariants as seen
use Rattle.cop_watch.specs.Found.{Follows}

-- the first byte of a byte order mark
abbrev pub is_mark_byte : ℕ → Bool
is_mark_byte c = c == 239

-- the trace of some records
abbrev pub trace_in : List Fields → Result Told (ℕ × ℕ)
trace_in rows = at_header (rest_under header rows) >>= trace_from 0 []

-- after the header and some steps: what comes next goes on from them
pub record AreSteps (tau : ℕ) (streams : List Stream) (rows : List Fields) (w : Watch) : Type 0 where
  pub steps : List Step
  pub place : ℕ
  pub taken : Follows tau streams steps w
  pub goes_on : (more : List Fields) → trace_in (rows ++ more) ≡ trace_from place steps more

-- after the record of the end
pub record AreAll (tau : ℕ) (streams : List Stream) (rows : List Fields) (until : ℕ) (w : Watch) : Type 0 where
  pub steps : List Step
  pub taken : Follows tau streams steps w
  pub all : trace_in rows ≡ Ok (record { until = until; steps = steps })

abbrev pub IsAt : ℕ → List Stream → List Fields → Watch → Stage → Type 0
IsAt tau streams rows w Header = (rows ≡ []) × Follows tau streams [] w
IsAt tau streams rows w Steps = AreSteps tau streams rows w
IsAt tau streams rows w (Ended until) = AreAll tau streams rows until w

-- of a text some records are read, and a line that has not ended
pub record IsRead (tau : ℕ) (streams : List Stream) (text : List ℕ) (w : Watch) (line : List ℕ) (stage : Stage) : Type 0 where
  pub rows : List Fields
  pub at : IsAt tau streams rows w stage
  pub all : (more : List ℕ) → cut_lines (pieces is_line_end (text ++ more)) ≡ rows ++ cut_lines (pieces is_line_end (line ++ more))
  pub whole : first_line line ≡ line

pub record HasRead (tau : ℕ) (streams : List Stream) (text : List ℕ) (t : TraceWatch) : Type 0 where
  pub plain : All (λ c. is_quote c ≡ false) text
  pub unmarked : All (λ c. is_mark_byte c ≡ false) text
  pub read : IsRead tau streams text t.watch t.line.items t.stage

-- a line, or a part of one, is taken off a text
pub record TakesLine (rest left : List ℕ) (w : Watch) (line : List ℕ) (stage : Stage) (w' : Watch) (line' : List ℕ) (stage' : Stage) : Type 0 where
  pub first : List ℕ
  pub divided : first ++ left ≡ rest
  pub shorter : length left < length rest
  pub read : (tau : ℕ) (streams : List Stream) (text : List ℕ) → IsRead tau streams text w line stage → IsRead tau streams (text ++ first) w' line' stage'

-- the text is that of a trace that breaks no rule, in which so many instances are sent
pub record IsLawful (tau : ℕ) (streams : List Stream) (text : List ℕ) (count : ℕ) : Type 0 where
  pub told : Told
  pub is : trace_of text ≡ Ok told
  pub clean : first_broken tau streams told.until told.steps ≡ None
  pub sent_is : count ≡ sent told.steps

-- the text is that of a trace whose first step that breaks a rule is this, and the least rule that it breaks
pub record IsUnlawful (tau : ℕ) (streams : List Stream) (text : List ℕ) (step rule : ℕ) : Type 0 where
  pub told : Told
  pub is : trace_of text ≡ Ok told
  pub broken : first_broken tau streams told.until told.steps ≡ Some (step, rule)

-- what is seen of the trace of a text
abbrev pub Shows : ℕ → List Stream → List ℕ → Seen → Type 0
Shows tau streams text (seen.Lawful sent) = IsLawful tau streams text sent
Shows tau streams text (seen.Broken step rule) = IsUnlawful tau streams text step rule
