-- What the keys of a section state (CiA 306, "Object descriptions").
use Rattle.std.specs.Prelude.{ℕ, Bool, false, List, Option, Some, None, Result, Ok, Err}
use Rattle.cop_eds.specs.declared.description.Access.{Access}
use Rattle.cop_eds.specs.declared.description.ObjectType.{ObjectType}
use Rattle.cop_tidy_lines.specs.declared.choices.Digits.{Digits}
use Rattle.cop_tidy_lines.specs.declared.numerals.Unclear.{Unclear}
use Rattle.cop_tidy_lines.specs.declared.numerals.Unclear.TheVariants.{NoNumber, OctalOrDecimal}
use Rattle.cop_tidy_lines.specs.declared.keys.Key.{Key}
use Rattle.cop_tidy_lines.specs.declared.keys.Key.TheVariants as keys
use Rattle.cop_tidy_lines.specs.Numerals.{number_meant, flag_meant}
use Rattle.cop_tidy_lines.specs.Words.{object_type_meant, data_type_meant, access_meant}
use Rattle.cop_tidy_reading.specs.declared.question.About.TheVariants as abouts
use Rattle.cop_tidy_reading.specs.declared.question.Question.{Question}
use Rattle.cop_tidy_reading.specs.Questions.{ask, some_read, clear, or_ask}
use Rattle.cop_tidy_reading.specs.Items.{Said}
use Rattle.cop_tidy_reading.specs.Sections.{entry_of}

-- what an entry is by a reading of its line and its text, where it is there
abbrev pub read_by : {A : Type 0} → (ℕ → List ℕ → Result A Question) → Option (ℕ × List ℕ) → Result (Option A) Question
read_by read None = Ok None
read_by read (Some entry) = some_read (read entry.0 entry.1)

-- what is no number may be an unknown type
abbrev pub typed : {A : Type 0} → ℕ → Result A Unclear → Result A Question
typed line (Ok a) = Ok a
typed line (Err NoNumber) = ask abouts.Types line
typed line (Err OctalOrDecimal) = ask abouts.Radix line

-- a number that a key states
abbrev pub number_at : Option Digits → List Said → ℕ → Key → Result (Option ℕ) Question
number_at digits items section key = read_by (λ line text. clear line (number_meant digits text)) (entry_of items section key)

-- whether a key says yes
abbrev pub flag_at : Option Digits → List Said → ℕ → Key → Result (Option Bool) Question
flag_at digits items section key = read_by (λ line text. clear line (flag_meant digits text)) (entry_of items section key)

-- the kind of object
abbrev pub object_type_at : Option Digits → List Said → ℕ → Result (Option ObjectType) Question
object_type_at digits items section =
    read_by (λ line text. or_ask abouts.Types line (object_type_meant digits text)) (entry_of items section keys.ObjectType)

-- the number of the data type
abbrev pub data_type_at : Option Digits → List Said → ℕ → Result (Option ℕ) Question
data_type_at digits items section = read_by (λ line text. typed line (data_type_meant digits text)) (entry_of items section keys.DataType)

-- the access
abbrev pub access_at : List Said → ℕ → Result (Option Access) Question
access_at items section = read_by (λ line text. or_ask abouts.Accesses line (access_meant text)) (entry_of items section keys.AccessType)

-- a flag that is no where nothing is stated
abbrev pub or_no : Result (Option Bool) Question → Result Bool Question
or_no (Ok (Some flag)) = Ok flag
or_no (Ok None) = Ok false
or_no (Err question) = Err question

-- whether PDOs may move the value
abbrev pub mappable_at : Option Digits → List Said → ℕ → Result Bool Question
mappable_at digits items section = or_no (flag_at digits items section keys.PdoMapping)
