-- Values and limits of objects (CiA 306: ParameterValue, DefaultValue, LowLimit and HighLimit).
use Rattle.std.specs.Prelude.{ℕ, Bool, true, ◌&&◌, ◌||◌, ◌==◌, List, [], ◌∷◌, length, codes, if◌then◌else◌, Option, Some, None, Result, Ok, Err}
use Rattle.std.specs.List.{flat_map}
use Rattle.std.specs.Option.{option_map, option_to_list, option_and_then}
use Rattle.cop_eds.specs.declared.amount.Amount.{Amount}
use Rattle.cop_eds.specs.declared.amount.Amount.TheVariants as amounts
use Rattle.cop_eds.specs.Text.{same_name}
use Rattle.cop_dict.specs.declared.data_type.DataType.{DataType}
use Rattle.cop_dict.specs.Types.{greatest_of, is_boolean, is_text}
use Rattle.cop_tidy_lines.specs.declared.choices.Digits.{Digits}
use Rattle.cop_tidy_lines.specs.declared.numerals.Unclear.{Unclear}
use Rattle.cop_tidy_lines.specs.declared.numerals.Unclear.TheVariants.{NoNumber}
use Rattle.cop_tidy_lines.specs.declared.keys.Key.{Key}
use Rattle.cop_tidy_lines.specs.declared.keys.Key.TheVariants as keys
use Rattle.cop_tidy_lines.specs.Numerals.{is_yes, is_no}
use Rattle.cop_tidy_lines.specs.Amounts.{amount_meant, is_no_value}
use Rattle.cop_tidy_lines.specs.Typed.{typed_value, typed_limit, limit_stated}
use Rattle.cop_tidy_reading.specs.declared.question.Question.{Question}
use Rattle.cop_tidy_reading.specs.Questions.{clear}
use Rattle.cop_tidy_reading.specs.Items.{Said}
use Rattle.cop_tidy_reading.specs.Sections.{raw_of, entry_of}
use Rattle.cop_tidy_device.specs.declared.device.Value.{Value}
use Rattle.cop_tidy_device.specs.declared.device.Value.TheVariants.{Nothing, Number, Text}

-- a key of a section in which a value may stand
pub record Source : Type 0 where
  pub section : ℕ
  pub key : Key

-- a word for no value, or a mark without digits
abbrev pub is_absent : List ℕ → Bool
is_absent text = is_no_value text || same_name text (codes "0x")

-- the amount that a text writes in a type of numbers, whether it fits or not; a BOOLEAN may be a word of truth
abbrev pub written_amount : Option Digits → DataType → List ℕ → Result Amount Unclear
written_amount digits data_type text =
    if is_boolean data_type && is_yes text then Ok (amounts.Decimal 1)
    else if is_boolean data_type && is_no text then Ok (amounts.Decimal 0)
    else amount_meant digits text

-- an amount, where there is one
abbrev pub fitting : Option Amount → Result Amount Unclear
fitting None = Err NoNumber
fitting (Some amount) = Ok amount

-- an amount in its type
abbrev pub typed_by : DataType → ℕ → Result Amount Unclear → Result Amount Unclear
typed_by data_type greatest (Err unclear) = Err unclear
typed_by data_type greatest (Ok amount) = fitting (typed_value data_type greatest amount)

-- the value that a text is in a type with this greatest number
abbrev pub number_value : Option Digits → DataType → ℕ → List ℕ → Result Amount Unclear
number_value digits data_type greatest text = typed_by data_type greatest (written_amount digits data_type text)

-- what is no number is asked for in an object that is needed, and left out in another
abbrev pub number_or : Bool → Result Amount Question → Result Value Question → Result Value Question
number_or needed (Ok amount) other = Ok (Number amount)
number_or needed (Err question) other = if needed then Err question else other

-- what a source decides: its number, or a question; none where it states none or is left out
abbrev pub decided : Bool → Option (Result Amount Question) → Option (Result Value Question)
decided needed None = None
decided needed (Some (Ok amount)) = Some (Ok (Number amount))
decided needed (Some (Err question)) = if needed then Some (Err question) else None

-- the first of these readings that is a number
abbrev pub first_number : Bool → List (Result Amount Question) → Result Value Question
first_number needed [] = Ok Nothing
first_number needed (read ∷ reads) = number_or needed read (first_number needed reads)

-- an entry that states a value
abbrev pub unless_absent : ℕ × List ℕ → Option (ℕ × List ℕ)
unless_absent entry = if is_absent entry.1 then None else Some entry

-- the line and the text of a source that states a value
abbrev pub stated_at : List Said → Source → Option (ℕ × List ℕ)
stated_at items source = option_and_then unless_absent (entry_of items source.section source.key)

-- its number
abbrev pub read_at : Option Digits → DataType → ℕ → Option (ℕ × List ℕ) → Option (Result Amount Question)
read_at digits data_type greatest stated = option_map (λ entry. clear entry.0 (number_value digits data_type greatest entry.1)) stated

-- the numbers of those sources that state a value
abbrev pub reads_in : Option Digits → List Said → DataType → ℕ → List Source → List (Result Amount Question)
reads_in digits items data_type greatest sources =
    flat_map (λ source. option_to_list (read_at digits data_type greatest (stated_at items source))) sources

-- a value that is not empty
abbrev pub unless_blank : ℕ × List ℕ → Option (List ℕ)
unless_blank raw = if length raw.1 == 0 then None else Some raw.1

-- what stands in a source as it is, where it is not empty
abbrev pub raw_at : List Said → Source → Option (List ℕ)
raw_at items source = option_and_then unless_blank (raw_of items source.section source.key)

-- those of some sources
abbrev pub texts_in : List Said → List Source → List (List ℕ)
texts_in items sources = flat_map (λ source. option_to_list (raw_at items source)) sources

-- the first text
abbrev pub text_by : List (List ℕ) → Value
text_by [] = Nothing
text_by (text ∷ texts) = Text text

-- a text is what stands there as it is
abbrev pub first_text : List Said → List Source → Value
first_text items sources = text_by (texts_in items sources)

-- the value by the greatest number of its type, where that has numbers
abbrev pub value_by : Option Digits → List Said → DataType → Option ℕ → Bool → List Source → Result Value Question
value_by digits items data_type None needed sources = Ok (if is_text data_type then first_text items sources else Nothing)
value_by digits items data_type (Some greatest) needed sources = first_number needed (reads_in digits items data_type greatest sources)

-- the value of an object, which may stand in one of these sources
unfoldable pub value_in : Option Digits → List Said → DataType → Bool → List Source → Result Value Question
value_in digits items data_type needed sources = value_by digits items data_type (greatest_of data_type) needed sources

-- ---- limits

-- an amount that was read
abbrev pub ok_amount : Result Amount Unclear → Option Amount
ok_amount (Ok amount) = Some amount
ok_amount (Err unclear) = None

-- the amount of a limit that is there
abbrev pub limit_amount_by : Option Digits → DataType → Option (ℕ × List ℕ) → Option Amount
limit_amount_by digits data_type None = None
limit_amount_by digits data_type (Some entry) = if is_absent entry.1 then None else ok_amount (written_amount digits data_type entry.1)

-- the amount that a limit states
abbrev pub limit_amount : Option Digits → List Said → DataType → ℕ → Key → Option Amount
limit_amount digits items data_type section key = limit_amount_by digits data_type (entry_of items section key)

-- a limit beside the other one; one with no reading or two is left out
abbrev pub limit_beside : Bool → DataType → ℕ → Option Amount → Option Amount → Option Amount
limit_beside is_low data_type greatest limit other =
    option_and_then (λ amount. typed_limit is_low data_type greatest amount (option_and_then (limit_stated data_type greatest) other)) limit

-- a limit by the greatest number of its type
abbrev pub limit_by : Option ℕ → Option Digits → List Said → DataType → ℕ → Bool → Option Amount
limit_by None digits items data_type section is_low = None
limit_by (Some greatest) digits items data_type section is_low =
    if is_low
    then limit_beside true data_type greatest (limit_amount digits items data_type section keys.LowLimit) (limit_amount digits items data_type section keys.HighLimit)
    else limit_beside is_low data_type greatest (limit_amount digits items data_type section keys.HighLimit) (limit_amount digits items data_type section keys.LowLimit)

-- the low or the high limit of an object
unfoldable pub limit_in : Option Digits → List Said → DataType → ℕ → Bool → Option Amount
limit_in digits items data_type section is_low = limit_by (greatest_of data_type) digits items data_type section is_low
