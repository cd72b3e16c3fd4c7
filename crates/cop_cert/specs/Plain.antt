-- Refusal files in which no quote stands, read where they lie.
use Rattle.std.specs.Prelude.{◌≡◌, ℕ, ◌+◌, ◌<◌, true, List, [], ◌∷◌, ◌++◌, length, Option, Some, Result, Ok, codes, decimal}
use Rattle.std.specs.List.{list_all}
use Rattle.std.specs.Char.{is_digit}
use Rattle.csv.specs.Machine.{line_feed}
use Rattle.csv.specs.Writing.{comma}
use Rattle.cop_table.specs.Reading.{◌>>=◌}
use Rattle.cop_table.specs.Rows.{rows_from}
use Rattle.cop_table.specs.Plain.{is_line_end, pieces, cut_lines}
use Rattle.cop_table.specs.Numbers.{number_of}
use Rattle.cop_frame.specs.declared.rates.Rate.{Rate}
use Rattle.cop_frame.specs.Rate.{kbits_of}
use Rattle.cop_cert.specs.Format.{Fields}
use Rattle.cop_cert.specs.Entries.{entry_in}
use Rattle.cop_cert.specs.Reading.{taken, ended}
use Rattle.cop_cert.specs.declared.drafts.Draft.{Draft}
use Rattle.cop_cert.specs.declared.entries.Entry.{Entry}
use Rattle.cop_cert.specs.declared.entries.Listed.{Listed}
use Rattle.cop_cert.specs.declared.entries.Listed.TheVariants as lists
use Rattle.cop_cert.specs.declared.entries.Version.{Version}
use Rattle.cop_cert.specs.declared.faults.Breach.{Breach}
use Rattle.cop_cert.specs.declared.refusals.Refusal.{Refusal}

-- the records of a text without a quote
abbrev pub rows_of_text : List ℕ → List Fields
rows_of_text text = cut_lines (pieces is_line_end text)

-- where the records that are left lead, of which the first has the number after this
abbrev pub leads : Version → ℕ → Option Draft → List Fields → Result (List Refusal) Breach
leads version place draft rows = rows_from (taken version) (place + 1) draft rows >>= ended (place + length rows)

-- first the digits of a number, up to a line feed
pub record HasNumber (text : List ℕ) (number : ℕ) (left : List ℕ) : Type 0 where
  pub digits : List ℕ
  pub divided : digits ++ line_feed ∷ left ≡ text
  pub all : list_all (λ c. is_digit c 10) digits ≡ true
  pub is : number_of 20 digits ≡ Some number

-- first a line that begins with these bytes, of which the number is the rest
pub record HasLine (head text : List ℕ) (number : ℕ) (left : List ℕ) : Type 0 where
  pub behind : List ℕ
  pub divided : head ++ behind ≡ text
  pub ends : HasNumber behind number left
  pub shorter : length left < length text

-- a text whose first record says this
pub record Says (version : Version) (text : List ℕ) (said : Entry) (left : List ℕ) : Type 0 where
  pub row : Fields
  pub rows : rows_of_text text ≡ row ∷ rows_of_text left
  pub entry : entry_in version row ≡ Ok said

-- what stands before the number in records that differ from an entry's by the number alone
pub record IsBefore (version : Version) (head : List ℕ) (entry : Entry) : Type 0 where
  pub says : (text : List ℕ) (number : ℕ) (left : List ℕ) → HasLine head text number left → Says version text (record entry { value = number }) left

-- the word of a list's records
abbrev pub list_word : Listed → List ℕ
list_word lists.Busy = codes "busy"
list_word lists.Queue = codes "queue"

-- what stands before the number in a record, as it is written
abbrev pub head_text : Rate → ℕ → List ℕ → List ℕ
head_text rate number what = ((((decimal (kbits_of rate) ++ comma ∷ []) ++ decimal number) ++ comma ∷ []) ++ what) ++ comma ∷ []
