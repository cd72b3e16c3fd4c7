-- What a text has still to give, at the start of a record.
use Rattle.std.specs.Prelude.{ℕ, List}
use Rattle.cop_table.specs.Plain.{is_line_end, pieces, cut_lines}
use Rattle.cop_table.specs.Records.{records_of}
use Rattle.cop_table.specs.Left.{left_of, IsBetween}
use Rattle.cop_table.specs.declared.records.Text.{Text}
use Rattle.cop_table.specs.declared.records.Text.TheVariants.{Plain, Whole, Quoted}

abbrev pub left_in : Text → List (List (List ℕ))
left_in (Plain text) = cut_lines (pieces is_line_end text.now)
left_in (Whole text) = records_of text.now
left_in (Quoted reader) = left_of reader.value

abbrev pub IsAtRecord : Text → Type 0
IsAtRecord (Plain text) = Unit {0}
IsAtRecord (Whole text) = Unit {0}
IsAtRecord (Quoted reader) = IsBetween reader.value
