-- The values that a table of settings asks of a device.
use Rattle.std.specs.Prelude.{ℕ, ◌≡◌, ◌≢◌, ◌+◌, ◌*◌, Bool, true, ◌||◌, ◌==◌, nat_le, List, [], ◌∷◌, ◌++◌, All, AllPairs, if◌then◌else◌, Result, Ok, Err}
use Rattle.std.specs.List.{list_any}
use Rattle.std.specs.BTreeSet.{BTreeSet, contains}
use Rattle.std.specs.Ordering.{nat_cmp}
use Rattle.cop_rows.specs.declared.setting_rows.SettingRow.{SettingRow}
use Rattle.cop_rows.specs.declared.refusals.Rule.{Rule}
use Rattle.cop_rows.specs.declared.refusals.Rule.TheVariants as rules

-- an index and a sub as one number (CiA 301, "Object dictionary": the multiplexer of an SDO)
abbrev pub object_of : SettingRow → ℕ
object_of row = row.index * 256 + row.sub

-- An object whose value a row may ask for: error behaviour, and all from 2000h on, the manufacturers' and the device profiles'. The
-- others of the communication profile area say what a device sends and hears, which is the plan's (CiA 301, "Object dictionary").
abbrev pub is_settable : ℕ → Bool
is_settable index = nat_le 0x2000 index || (index == 0x1029)

abbrev pub IsSettingRow : SettingRow → Type 0
IsSettingRow row = is_settable row.index ≡ true

-- each row is of an object that may be set, and no two are of one object
pub record AreSettingRows (rows : List SettingRow) : Type 0 where
  pub settable : All IsSettingRow rows
  pub apart : AllPairs (λ r s. object_of r ≢ object_of s) rows

-- a row is of this object
abbrev pub has_object : List SettingRow → ℕ → Bool
has_object rows object = list_any (λ r. object_of r == object) rows

-- a set has the objects of the rows
abbrev pub KnowsObjects : BTreeSet ℕ → List SettingRow → Type 0
KnowsObjects objects rows = (object : ℕ) → contains nat_cmp objects object ≡ has_object rows object

-- the rows and one more, if its object has none
abbrev pub with_row : List SettingRow → SettingRow → Result (List SettingRow) Rule
with_row rows row = if has_object rows (object_of row) then Err rules.RowRepeated else Ok (rows ++ row ∷ [])
