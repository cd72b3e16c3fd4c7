-- Why a text is refused.
use Rattle.std.specs.Prelude.{ℕ, ◌≡◌, List, None, Result, Err, IsOk}
use Rattle.cop_tidy_device.specs.Device.{Meaning}
use Rattle.cop_tidy_reading.specs.declared.question.Question as reading
use Rattle.cop_tidy_reading.specs.declared.question.ReadingFault.{ReadingFault}
use Rattle.cop_tidy_reading.specs.declared.question.ReadingFault.TheVariants as faults
use Rattle.cop_tidy_reading.specs.declared.words.Words.{Words}
use Rattle.cop_tidy_reading.specs.Questions as abouts
use Rattle.cop_tidy_reading.specs.Reading.{loosely}
use Rattle.cop_tidy.specs.declared.fault.Question.{Question}
use Rattle.cop_tidy.specs.declared.fault.Question.TheVariants.{Asked, Left}
use Rattle.cop_tidy.specs.declared.fault.TidyFault.{TidyFault}
use Rattle.cop_tidy.specs.declared.fault.TidyFault.TheVariants.{Refused, Memory}
use Rattle.cop_tidy.specs.Standing.{Stands}

-- the number of a refusal
abbrev pub number_of : Question → ℕ
number_of (Asked about) = abouts.number_of about
number_of (Left number) = 79

-- the fault of a reading, as one of tidy
abbrev pub fault_of : ReadingFault → TidyFault
fault_of faults.Memory = Memory
fault_of (faults.Asked question) = Refused (record { question = Asked question.about; line = question.line })

-- what a question is to the reading of a text: one that the text asks at this line, or 79, where it asks none
abbrev pub IsAskedBy : Result Meaning reading.Question → Question → ℕ → Type 0
IsAskedBy read (Asked about) line = read ≡ Err (record { about = about; line = line })
IsAskedBy read (Left number) line = IsOk read

-- A text is refused where memory runs out; else something stands against it, and it asks this question at this line, or none, and then it is 79.
abbrev pub IsWhy : Words → List ℕ → TidyFault → Type 0
IsWhy words text Memory = Unit {0}
IsWhy words text (Refused refusal) = IsAskedBy (loosely text words) refusal.question refusal.line × (Stands words text None → ⊥)

-- no question that a text asks
abbrev pub IsNoQuestion : Question → Type 0
IsNoQuestion (Asked about) = Unit {0} → ⊥
IsNoQuestion (Left number) = Unit {0}

-- memory ran out, or it is 79
abbrev pub IsRest : TidyFault → Type 0
IsRest Memory = Unit {0}
IsRest (Refused refusal) = IsNoQuestion refusal.question
