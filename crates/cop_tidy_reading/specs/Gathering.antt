-- Values that are read one after the other, and the earliest question that they leave open.
use Rattle.std.specs.Prelude.{List, ◌++◌, Option, None, Some, Result, Ok, Err}
use Rattle.std.specs.List.{flat_map}
use Rattle.std.specs.Global.{Vec}
use Rattle.cop_tidy_reading.specs.declared.question.Question.{Question}
use Rattle.cop_tidy_reading.specs.Questions.{◌>>=◌, earlier, both, all_of}

-- what each of some readings found, in their order
abbrev pub joined_by : {A B : Type 0} → (A → List B) → Result (List A) Question → Result (List B) Question
joined_by view read = read >>= λ found. Ok (flat_map view found)

-- what is found with one reading more
abbrev pub with_found : {A B : Type 0} → (A → List B) → List B → Result A Question → List B
with_found view found (Ok a) = found ++ view a
with_found view found (Err question) = found

-- what was found and what further readings find, or the earliest question, of which one may have been asked
abbrev pub gathered : {B : Type 0} → Option Question → List B → Result (List B) Question → Result (List B) Question
gathered None found (Ok more) = Ok (found ++ more)
gathered None found (Err q) = Err q
gathered (Some q) found (Ok more) = Err q
gathered (Some q) found (Err r) = Err (earlier q r)

-- what a function found, as a list
abbrev pub vec_seen : {B : Type 0} → Result (Vec B) Question → Result (List B) Question
vec_seen (Ok found) = Ok found.items
vec_seen (Err question) = Err question

-- nothing, or the earliest question of some readings
abbrev pub all_clear : List (Result (Unit {0}) Question) → Result (Unit {0}) Question
all_clear reads = all_of reads >>= λ _. Ok tt

-- a reading beside another one, which must leave nothing open
abbrev pub beside : {A B : Type 0} → Result A Question → Result B Question → Result B Question
beside a b = both a b >>= λ found. Ok found.1
