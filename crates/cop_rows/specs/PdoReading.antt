-- Reading the table of PDOs.
use Rattle.std.specs.Prelude.{ℕ, ◌≡◌, ◌≤◌, ◌⊎◌, Bool, ◌&&◌, ◌||◌, not, List, [], ◌∷◌, ◌++◌, length, codes, ◌==◌, if◌then◌else◌, Result, Ok, Err}
use Rattle.std.specs.List.{list_any}
use Rattle.cop_table.specs.Reading.{◌>>=◌}
use Rattle.cop_table.specs.Records.{field}
use Rattle.cop_table.specs.Rows.{rows_from}
use Rattle.cop_rows.specs.declared.refusals.Column.TheVariants as columns
use Rattle.cop_rows.specs.declared.refusals.Rule.{Rule}
use Rattle.cop_rows.specs.declared.refusals.Rule.TheVariants as rules
use Rattle.cop_rows.specs.declared.refusals.Refusal.{Refusal}
use Rattle.cop_rows.specs.declared.pdo_table.Consumer.{Consumer}
use Rattle.cop_rows.specs.declared.pdo_table.PdoRow.{PdoRow}
use Rattle.cop_rows.specs.declared.pdos.Numbers.{Numbers}
use Rattle.cop_rows.specs.Fields.{number_within, is_within, parts, each, rows_under}
use Rattle.cop_rows.specs.Refusals.{placed}

-- a node and an RPDO, of the two parts between which a dot stands
abbrev pub consumer_from : List (List ℕ) → Result Consumer Rule
consumer_from [] = Err (rules.Value columns.Consumers)
consumer_from (first ∷ []) = Err (rules.Value columns.Consumers)
consumer_from (first ∷ second ∷ []) =
    number_within columns.Consumers 1 127 first >>= λ node. number_within columns.Consumers 1 512 second >>= λ rpdo. Ok (record { node = node; rpdo = rpdo })
consumer_from (first ∷ second ∷ third ∷ more) = Err (rules.Value columns.Consumers)

abbrev pub consumer_of : List ℕ → Result Consumer Rule
consumer_of text = consumer_from (parts 46 text)

-- the list and one more
abbrev pub one_more : {A F : Type 0} → List A → Result A F → Result (List A) F
one_more xs r = r >>= λ x. Ok (xs ++ x ∷ [])

-- no bytes, for none, or consumers with one blank between them
abbrev pub consumers_of : List ℕ → Result (List Consumer) Rule
consumers_of text = if length text == 0 then Ok [] else each consumer_of (parts 32 text)

-- the ranges of the numbers: times are in microseconds
pub record IsNumbers (n : Numbers) : Type 0 where
  pub node_least : 1 ≤ n.node
  pub node_most : n.node ≤ 127
  pub tpdo_least : 1 ≤ n.tpdo
  pub tpdo_most : n.tpdo ≤ 512
  pub period : (n.period ≡ 0) ⊎ ((100 ≤ n.period) × (n.period ≤ 60000000))
  pub jitter_most : n.jitter ≤ 60000000
  pub deadline_least : 1 ≤ n.deadline
  pub deadline_most : n.deadline ≤ 60000000

-- 0 for a PDO that is sent by SYNC, or 100 to 60,000,000
abbrev pub is_period_or_none : ℕ → Bool
is_period_or_none n = (n == 0) || is_within 100 60000000 n

abbrev pub if_period_or_none : ℕ → Result ℕ Rule
if_period_or_none n = if is_period_or_none n then Ok n else Err (rules.Value columns.Period)

abbrev pub period_in : List ℕ → Result ℕ Rule
period_in text = number_within columns.Period 0 60000000 text >>= if_period_or_none

-- the numbers of a record, or the least rule that it breaks
unfoldable pub numbers_in : List (List ℕ) → Result Numbers Rule
numbers_in row = if not (length row == 6) then Err rules.Fields else do
  node ← number_within columns.Node 1 127 (field row 0)
  tpdo ← number_within columns.Tpdo 1 512 (field row 1)
  period ← period_in (field row 2)
  jitter ← number_within columns.Jitter 0 60000000 (field row 3)
  deadline ← number_within columns.Deadline 1 60000000 (field row 4)
  Ok (record { node = node; tpdo = tpdo; period = period; jitter = jitter; deadline = deadline })

abbrev pub with_consumers : Numbers → List Consumer → PdoRow
with_consumers n consumers =
    record { node = n.node; tpdo = n.tpdo; period = n.period; jitter = n.jitter; deadline = n.deadline; consumers = consumers }

-- the PDO of a record, or the least rule that it breaks
abbrev pub pdo_in : List (List ℕ) → Result PdoRow Rule
pdo_in row = numbers_in row >>= λ n. consumers_of (field row 5) >>= λ consumers. Ok (with_consumers n consumers)

-- whether a row is this PDO's
abbrev pub is_named : List PdoRow → ℕ → ℕ → Bool
is_named rows node tpdo = list_any (λ p. (p.node == node) && (p.tpdo == tpdo)) rows

-- the rows and one more, or the first rule against it
abbrev pub pushed : List PdoRow → PdoRow → Result (List PdoRow) Rule
pushed rows row =
    if is_named rows row.node row.tpdo then Err rules.PdoRepeated
    else if length rows == 512 then Err rules.Full
    else Ok (rows ++ row ∷ [])

-- the PDO of a record after those of the records before it
abbrev pub added : ℕ → List PdoRow → List (List ℕ) → Result (List PdoRow) Refusal
added place rows row = placed place (pdo_in row >>= pushed rows)

abbrev pub header : List (List ℕ)
header = codes "node" ∷ codes "tpdo" ∷ codes "period" ∷ codes "jitter" ∷ codes "deadline" ∷ codes "consumers" ∷ []

-- the records under the header
abbrev pub rows_in : List ℕ → Result (List (List (List ℕ))) Refusal
rows_in text = rows_under header text

-- the PDOs of a table
unfoldable pub pdos_of : List ℕ → Result (List PdoRow) Refusal
pdos_of text = do
  rows ← rows_in text
  rows_from added 1 [] rows
