-- Readings that leave a question open, one after the other and side by side.
use Rattle.std.specs.Prelude.{ℕ, Bool, ◌||◌, ◌&&◌, ◌==◌, nat_lt, List, [], ◌∷◌, if◌then◌else◌, Option, Some, None, Result, Ok, Err}
use Rattle.cop_tidy_lines.specs.declared.numerals.Unclear.{Unclear}
use Rattle.cop_tidy_lines.specs.declared.numerals.Unclear.TheVariants.{NoNumber, OctalOrDecimal}
use Rattle.cop_tidy_reading.specs.declared.question.About.{About}
use Rattle.cop_tidy_reading.specs.declared.question.About.TheVariants as abouts
use Rattle.cop_tidy_reading.specs.declared.question.Question.{Question}

-- the numbers of the questions
abbrev pub number_of : About → ℕ
number_of abouts.NoText = 70
number_of abouts.NoLine = 71
number_of abouts.Repeated = 72
number_of abouts.Lists = 73
number_of abouts.Types = 74
number_of abouts.Accesses = 75
number_of abouts.Numbers = 76
number_of abouts.Compact = 77
number_of abouts.Radix = 78

-- a question at a line
abbrev pub ask : {A : Type 0} → About → ℕ → Result A Question
ask about line = Err (record { about = about; line = line })

-- one reading after the other
infixl 10 ◌>>=◌
abbrev pub ◌>>=◌ : {A B : Type 0} → Result A Question → (A → Result B Question) → Result B Question
(Ok x) >>= f = f x
(Err q) >>= f = Err q

-- the question of the lesser line; on one line, of the lesser number
abbrev pub is_behind : Question → Question → Bool
is_behind a b = nat_lt b.line a.line || ((b.line == a.line) && nat_lt (number_of b.about) (number_of a.about))

-- the earlier one of two questions
abbrev pub earlier : Question → Question → Question
earlier a b = if is_behind a b then b else a

-- readings side by side: both values, or the earliest question
unfoldable pub both : {A B : Type 0} → Result A Question → Result B Question → Result (A × B) Question
both (Ok a) (Ok b) = Ok (a, b)
both (Ok a) (Err q) = Err q
both (Err q) (Ok b) = Err q
both (Err q) (Err r) = Err (earlier q r)

-- the earlier one of a question and of that which a reading beside it leaves open
abbrev pub first_asked : {A : Type 0} → Question → Result A Question → Question
first_asked q (Ok a) = q
first_asked q (Err r) = earlier q r

-- the first value, and those behind it
abbrev pub with_first : {A : Type 0} → Result (A × List A) Question → Result (List A) Question
with_first (Err q) = Err q
with_first (Ok pair) = Ok (pair.0 ∷ pair.1)

-- all of them side by side
unfoldable pub all_of : {A : Type 0} → List (Result A Question) → Result (List A) Question
all_of [] = Ok []
all_of (read ∷ reads) = with_first (both read (all_of reads))

-- ---- a question that was asked before

-- a question behind one that may have been asked
abbrev pub asked_behind : Option Question → Question → Question
asked_behind None r = r
asked_behind (Some q) r = earlier q r

-- the question that is asked after a reading, behind one that may have been asked before
abbrev pub asked_after : {A : Type 0} → Option Question → Result A Question → Option Question
asked_after asked (Ok a) = asked
asked_after asked (Err r) = Some (asked_behind asked r)

-- what was read, where nothing is left open
abbrev pub read_there : {A : Type 0} → Result A Question → Option A
read_there (Ok a) = Some a
read_there (Err q) = None

-- nothing, or the question
abbrev pub checked : Option Question → Result (Unit {0}) Question
checked None = Ok tt
checked (Some q) = Err q

-- ---- single readings

-- what was read of something that is there
abbrev pub some_read : {A : Type 0} → Result A Question → Result (Option A) Question
some_read (Ok a) = Ok (Some a)
some_read (Err q) = Err q

-- a number that is none, or that is octal or decimal, at its line
abbrev pub clear : {A : Type 0} → ℕ → Result A Unclear → Result A Question
clear line (Ok a) = Ok a
clear line (Err NoNumber) = ask abouts.Numbers line
clear line (Err OctalOrDecimal) = ask abouts.Radix line

-- what was read, or a question about something else
abbrev pub or_ask : {A : Type 0} → About → ℕ → Option A → Result A Question
or_ask about line None = ask about line
or_ask about line (Some a) = Ok a

-- a question, or nothing to ask
abbrev pub unless : Bool → About → ℕ → Result (Unit {0}) Question
unless test about line = if test then Ok tt else ask about line
