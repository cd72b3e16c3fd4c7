-- The first value that some sources state.
use Rattle.std.proofs.Common.{◌≡◌, ℕ, Bool, true, false, List, [], ◌∷◌, ◌++◌, Option, None, Some, Result, Ok, Err, unwrap_or, refl}
use Rattle.std.specs.Option.{option_to_list}
use Rattle.cop_eds.specs.declared.amount.Amount.{Amount}
use Rattle.cop_dict.specs.declared.data_type.DataType.{DataType}
use Rattle.cop_tidy_lines.specs.declared.choices.Digits.{Digits}
use Rattle.cop_tidy_reading.specs.declared.question.Question.{Question}
use Rattle.cop_tidy_reading.specs.Items.{Said}
use Rattle.cop_tidy_device.specs.declared.device.Value.{Value}
use Rattle.cop_tidy_device.specs.declared.device.Value.TheVariants.{Nothing, Text}
use Rattle.cop_tidy_reading.specs.Values.{Source, decided, first_number, stated_at, read_at, reads_in, raw_at, texts_in, text_by}

by_read : (needed : Bool) (read : Option (Result Amount Question)) (reads : List (Result Amount Question)) →
    first_number needed (option_to_list read ++ reads) ≡ unwrap_or (decided needed read) (first_number needed reads)
by_read needed None reads = refl
by_read needed (Some (Ok amount)) reads = refl
by_read true (Some (Err question)) reads = refl
by_read false (Some (Err question)) reads = refl

-- what a source decides counts before those behind it
pub next_read : (needed : Bool) (digits : Option Digits) (items : List Said) (data_type : DataType) (greatest : ℕ) (source : Source) (sources : List Source) →
    first_number needed (reads_in digits items data_type greatest (source ∷ sources))
    ≡ unwrap_or (decided needed (read_at digits data_type greatest (stated_at items source))) (first_number needed (reads_in digits items data_type greatest sources))
next_read needed digits items data_type greatest source sources =
    by_read needed (read_at digits data_type greatest (stated_at items source)) (reads_in digits items data_type greatest sources)

abbrev pub text_first : Option (List ℕ) → Value → Value
text_first None other = other
text_first (Some text) other = Text text

by_text : (text : Option (List ℕ)) (texts : List (List ℕ)) → text_by (option_to_list text ++ texts) ≡ text_first text (text_by texts)
by_text None texts = refl
by_text (Some text) texts = refl

pub next_text : (items : List Said) (source : Source) (sources : List Source) →
    text_by (texts_in items (source ∷ sources)) ≡ text_first (raw_at items source) (text_by (texts_in items sources))
next_text items source sources = by_text (raw_at items source) (texts_in items sources)
