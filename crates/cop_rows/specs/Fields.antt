-- Fields of a record.
use Rattle.std.specs.Prelude.{ℕ, Bool, ◌&&◌, List, [], ◌∷◌, ◌==◌, nat_le, if◌then◌else◌, Option, Some, None, Result, Ok, Err}
use Rattle.cop_table.specs.Reading.{◌>>=◌}
use Rattle.cop_table.specs.Numbers.{number_of}
use Rattle.cop_table.specs.Records.{under_header, under_one_of, BadHeader}
use Rattle.cop_rows.specs.declared.refusals.Column.{Column}
use Rattle.cop_rows.specs.declared.refusals.Rule.{Rule}
use Rattle.cop_rows.specs.declared.refusals.Rule.TheVariants as rules
use Rattle.cop_rows.specs.declared.refusals.Refusal.{Refusal}
use Rattle.cop_rows.specs.Refusals.{refuse}
use Rattle.cop_rows.specs.Names.{is_name}

abbrev pub is_within : ℕ → ℕ → ℕ → Bool
is_within least most n = nat_le least n && nat_le n most

abbrev pub within : Column → ℕ → ℕ → Option ℕ → Result ℕ Rule
within column least most None = Err (rules.Value column)
within column least most (Some n) = if is_within least most n then Ok n else Err (rules.Value column)

-- the number that 1 to 10 decimal digits write in a column, in a range
abbrev pub number_within : Column → ℕ → ℕ → List ℕ → Result ℕ Rule
number_within column least most text = within column least most (number_of 10 text)

-- a name in a column is its own text
abbrev pub name_of : Column → List ℕ → Result (List ℕ) Rule
name_of column text = if is_name text then Ok text else Err (rules.Value column)

abbrev pub with_first : ℕ → List (List ℕ) → List (List ℕ)
with_first b [] = (b ∷ []) ∷ []
with_first b (part ∷ parts) = (b ∷ part) ∷ parts

-- the parts of a text that the byte c divides, one more than there are such bytes
abbrev pub parts : ℕ → List ℕ → List (List ℕ)
parts c [] = [] ∷ []
parts c (b ∷ bs) = if b == c then [] ∷ parts c bs else with_first b (parts c bs)

-- what each element of a list gives, or the first refusal
unfoldable pub each : {A B F : Type 0} → (A → Result B F) → List A → Result (List B) F
each f [] = Ok []
each f (x ∷ xs) = f x >>= λ y. each f xs >>= λ ys. Ok (y ∷ ys)

abbrev pub at_header : {A : Type 0} → Result A BadHeader → Result A Refusal
at_header (Ok x) = Ok x
at_header (Err b) = refuse rules.Header 0

-- the records under the header
abbrev pub rows_under : List (List ℕ) → List ℕ → Result (List (List (List ℕ))) Refusal
rows_under header text = at_header (under_header header text)

-- which of the headers it is, and the records under it
abbrev pub rows_under_one_of : List (List (List ℕ)) → List ℕ → Result (ℕ × List (List (List ℕ))) Refusal
rows_under_one_of headers text = at_header (under_one_of headers text)
