-- A record of a refusal file.
use Rattle.std.specs.Prelude.{ℕ, Bool, true, false, not, ◌&&◌, ◌||◌, List, [], ◌∷◌, length, codes, find, ◌==◌, nat_le, if◌then◌else◌, Option, Some, None, Result, Ok, Err}
use Rattle.std.specs.Option.{option_map_or}
use Rattle.std.specs.Str.{bytes_eq}
use Rattle.cop_table.specs.Reading.{◌>>=◌}
use Rattle.cop_table.specs.Records.{field}
use Rattle.cop_table.specs.Numbers.{number_of}
use Rattle.cop_frame.specs.declared.rates.Rate.{Rate}
use Rattle.cop_frame.specs.declared.rates.Rate.TheVariants.{Kbit10, Kbit20, Kbit50, Kbit125, Kbit250, Kbit500, Kbit800, Kbit1000}
use Rattle.cop_frame.specs.Rate.{kbits_of}
use Rattle.cop_cert.specs.Format.{Fields}
use Rattle.cop_cert.specs.declared.entries.Entry.{Entry}
use Rattle.cop_cert.specs.declared.entries.Word.{Word}
use Rattle.cop_cert.specs.declared.entries.Word.TheVariants as words
use Rattle.cop_cert.specs.declared.entries.Listed.TheVariants as lists
use Rattle.cop_cert.specs.declared.entries.Side.TheVariants as sides
use Rattle.cop_cert.specs.declared.entries.Version.{Version}
use Rattle.cop_cert.specs.declared.entries.Version.TheVariants.{First, Second, Third}
use Rattle.cop_cert.specs.declared.faults.Rule.{Rule}
use Rattle.cop_cert.specs.declared.faults.Rule.TheVariants as rules

abbrev pub rates : List Rate
rates = Kbit10 ∷ Kbit20 ∷ Kbit50 ∷ Kbit125 ∷ Kbit250 ∷ Kbit500 ∷ Kbit800 ∷ Kbit1000 ∷ []

-- the rate of so many kbit/s
abbrev pub rate_of : ℕ → Option Rate
rate_of kbits = find (λ rate. kbits_of rate == kbits) rates

-- a PDO's number is 1 to 512, and 0 stands for a fixed frame, of which the first version says nothing
abbrev pub least_number : Version → ℕ
least_number First = 1
least_number Second = 0
least_number Third = 0

abbrev pub or_rule : {A : Type 0} → Rule → Option A → Result A Rule
or_rule rule None = Err rule
or_rule rule (Some x) = Ok x

-- a number of 1 to 20 digits that fits 64 bits
abbrev pub number_in : List ℕ → Result ℕ Rule
number_in text = or_rule rules.Number (number_of 20 text)

abbrev pub rate_in : List ℕ → Result Rate Rule
rate_in text = number_in text >>= λ kbits. or_rule rules.Number (rate_of kbits)

abbrev pub pdo_number_in : Version → List ℕ → Result ℕ Rule
pdo_number_in version text = number_in text >>= λ number.
    if nat_le (least_number version) number && nat_le number 512 then Ok number else Err rules.Number

-- the words that the first version has not and the second has
abbrev pub second_word_of : List ℕ → Option Word
second_word_of text =
    if bytes_eq text (codes "uplong") then Some (words.Long sides.Up)
    else if bytes_eq text (codes "uplate") then Some (words.Late sides.Up)
    else if bytes_eq text (codes "sync") then Some words.Sync
    else if bytes_eq text (codes "sdo") then Some words.Sdo
    else None

-- the words that the first version has not: one more in the third
abbrev pub new_word_of : Version → List ℕ → Option Word
new_word_of First text = None
new_word_of Second text = second_word_of text
new_word_of Third text = if bytes_eq text (codes "same") then Some words.Same else second_word_of text

abbrev pub word_of : Version → List ℕ → Option Word
word_of version text =
    if bytes_eq text (codes "long") then Some (words.Long sides.Place)
    else if bytes_eq text (codes "late") then Some (words.Late sides.Place)
    else if bytes_eq text (codes "busy") then Some (words.Number lists.Busy)
    else if bytes_eq text (codes "queue") then Some (words.Number lists.Queue)
    else new_word_of version text

-- the identifiers of SDO frames
abbrev pub is_sdo : ℕ → Bool
is_sdo id = (nat_le 0x581 id && nat_le id 0x5FF) || (nat_le 0x601 id && nat_le id 0x67F)

-- `long`, `uplong`, `sync` and `same` have the value 0, `sdo` the identifier of an SDO frame
abbrev pub is_value_of : Word → ℕ → Bool
is_value_of (words.Long side) value = value == 0
is_value_of (words.Late side) value = true
is_value_of words.Sync value = value == 0
is_value_of words.Same value = value == 0
is_value_of words.Sdo value = is_sdo value
is_value_of (words.Number list) value = true

-- `uplong`, `uplate` and `same` are of PDOs, `sync` and `sdo` of fixed frames
abbrev pub is_number_of : Word → ℕ → Bool
is_number_of (words.Long sides.Place) number = true
is_number_of (words.Long sides.Up) number = nat_le 1 number
is_number_of (words.Late sides.Place) number = true
is_number_of (words.Late sides.Up) number = nat_le 1 number
is_number_of words.Sync number = number == 0
is_number_of words.Same number = nat_le 1 number
is_number_of words.Sdo number = number == 0
is_number_of (words.Number list) number = true

abbrev pub with_value : Rate → ℕ → ℕ → Word → Result Entry Rule
with_value rate number value word =
    if not (is_value_of word value) then Err rules.Number
    else if is_number_of word number then Ok (record { rate = rate; number = number; word = word; value = value })
    else Err rules.Misplaced

-- what a record says, or the least rule that it breaks by itself
unfoldable pub entry_in : Version → Fields → Result Entry Rule
entry_in version row = if not (length row == 4) then Err rules.Fields else do
  rate ← rate_in (field row 0)
  number ← pdo_number_in version (field row 1)
  value ← number_in (field row 3)
  word ← or_rule rules.Misplaced (word_of version (field row 2))
  with_value rate number value word

abbrev pub writes : List ℕ → ℕ → Bool
writes text n = option_map_or (λ m. m == n) (number_of 20 text) false

-- the version that a record names, by its numbers
abbrev pub version_in : Fields → Option Version
version_in row =
    if not (writes (field row 0) 0 && writes (field row 1) 0 && bytes_eq (field row 2) (codes "version")) then None
    else if writes (field row 3) 1 then Some First
    else if writes (field row 3) 2 then Some Second
    else if writes (field row 3) 3 then Some Third
    else None
