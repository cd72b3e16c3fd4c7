-- Reading the table of settings.
use Rattle.std.specs.Prelude.{ℕ, not, ◌||◌, List, [], ◌∷◌, length, codes, ◌==◌, nat_lt, if◌then◌else◌, slice_set, get_or, Option, Some, None, Result, Ok, Err}
use Rattle.std.specs.List.{position}
use Rattle.std.specs.Str.{bytes_eq}
use Rattle.cop_table.specs.Reading.{◌>>=◌}
use Rattle.cop_table.specs.Records.{field}
use Rattle.cop_table.specs.Rows.{rows_from}
use Rattle.cop_eds.specs.declared.amount.Amount.{Amount}
use Rattle.cop_eds.specs.declared.fault.Rule as eds
use Rattle.cop_eds.specs.Amount.{amount_of}
use Rattle.cop_eds.specs.Number.{number_in}
use Rattle.cop_rows.specs.declared.refusals.Column.TheVariants as columns
use Rattle.cop_rows.specs.declared.refusals.Rule.{Rule}
use Rattle.cop_rows.specs.declared.refusals.Rule.TheVariants as rules
use Rattle.cop_rows.specs.declared.refusals.Refusal.{Refusal}
use Rattle.cop_rows.specs.declared.node_table.DeviceRow.{DeviceRow}
use Rattle.cop_rows.specs.declared.setting_rows.SettingRow.{SettingRow}
use Rattle.cop_rows.specs.declared.settings.Address.{Address}
use Rattle.cop_rows.specs.declared.settings.Asked.{Asked}
use Rattle.cop_rows.specs.Fields.{number_within, within, parts, rows_under}
use Rattle.cop_rows.specs.Nodes.{NodeLists}
use Rattle.cop_rows.specs.SettingRows.{is_settable, with_row}
use Rattle.cop_rows.specs.Refusals.{placed}

-- the number up to a greatest that at least so many hexadecimal digits and at most so many write
abbrev pub hexadecimal_within : ℕ → ℕ → ℕ → List ℕ → Result ℕ Rule
hexadecimal_within least most greatest text =
    if nat_lt (length text) least || nat_lt most (length text) then Err (rules.Value columns.Object) else within columns.Object 0 greatest (number_in 16 text)

abbrev pub index_in : List ℕ → Result ℕ Rule
index_in text = hexadecimal_within 4 4 0xFFFF text

abbrev pub sub_in : List ℕ → Result ℕ Rule
sub_in text = hexadecimal_within 1 2 0xFF text

-- four hexadecimal digits of an index, or these, a dot and one or two digits of a sub
abbrev pub object_from : List (List ℕ) → Result Address Rule
object_from [] = Err (rules.Value columns.Object)
object_from (first ∷ []) = index_in first >>= λ index. Ok (record { index = index; sub = 0 })
object_from (first ∷ second ∷ []) =
    index_in first >>= λ index. sub_in second >>= λ sub. Ok (record { index = index; sub = sub })
object_from (first ∷ second ∷ third ∷ more) = Err (rules.Value columns.Object)

abbrev pub object_in : List ℕ → Result Address Rule
object_in text = object_from (parts 46 text)

abbrev pub some_amount : Result Amount eds.Rule → Result Amount Rule
some_amount (Ok amount) = Ok amount
some_amount (Err _) = Err (rules.Value columns.Value)

-- a value as EDS files write them (CiA 306, DefaultValue)
abbrev pub amount_in : List ℕ → Result Amount Rule
amount_in text = some_amount (amount_of text)

-- the word of the row
abbrev pub word_in : List ℕ → Result (Unit {0}) Rule
word_in text = if bytes_eq text (codes "set") then Ok tt else Err (rules.Value columns.Row)

-- what a record asks, or the least rule that it breaks by itself
unfoldable pub asked_of : ℕ → List (List ℕ) → Result Asked Rule
asked_of place row = if not (length row == 4) then Err rules.Fields else do
  word ← word_in (field row 0)
  node ← number_within columns.Node 1 127 (field row 1)
  object ← object_in (field row 2)
  amount ← amount_in (field row 3)
  Ok (record { node = node; row = record { place = place; index = object.index; sub = object.sub; amount = amount } })

-- the rows of a device and one more
abbrev pub with_asked : DeviceRow → SettingRow → Result DeviceRow Rule
with_asked device row =
    if is_settable row.index then (with_row device.settings row >>= λ rows. Ok (record device { settings = rows })) else Err rules.NotSettable

abbrev pub no_device : DeviceRow
no_device = record { place = 0; node = 0; name = []; eds = []; settings = [] }

abbrev pub asked_at : NodeLists → SettingRow → Option ℕ → Result NodeLists Rule
asked_at lists row None = Err rules.NoDevice
asked_at lists row (Some place) = with_asked (get_or lists.devices place no_device) row >>= λ device. Ok (record lists { devices = slice_set lists.devices place device })

-- the table of nodes and what is asked of a device of it, or the rule against it
abbrev pub asked_in : NodeLists → Asked → Result NodeLists Rule
asked_in lists asked = asked_at lists asked.row (position (λ d. d.node == asked.node) lists.devices)

abbrev pub added : ℕ → NodeLists → List (List ℕ) → Result NodeLists Refusal
added place lists row = placed place (asked_of place row >>= asked_in lists)

abbrev pub header : List (List ℕ)
header = codes "row" ∷ codes "node" ∷ codes "object" ∷ codes "value" ∷ []

-- the records under the header
abbrev pub rows_in : List ℕ → Result (List (List (List ℕ))) Refusal
rows_in text = rows_under header text

-- the table of nodes with the values that a table of settings asks of its devices
unfoldable pub with_settings : NodeLists → List ℕ → Result NodeLists Refusal
with_settings lists text = do
  rows ← rows_in text
  rows_from added 1 lists rows
