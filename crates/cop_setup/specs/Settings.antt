-- Settings of a device, and the dictionary in which they are written.
use Rattle.std.specs.Prelude.{◌≡◌, ◌<◌, ◌*◌, ◌^◌, ℕ, Bool, true, ◌&&◌, ◌==◌, List, fold, Some, IfSome, IsSome, is_some}
use Rattle.std.specs.Int.{bytes_low_first}
use Rattle.cop_dict.specs.declared.data_type.DataType.{DataType}
use Rattle.cop_dict.specs.Types.{bits_of, greatest_of}
use Rattle.cop_dict.specs.Find.{Entry, entry_at}
use Rattle.cop_dict.specs.Dict.{with_value}
use Rattle.cop_dict.specs.Build.{least_width}
use Rattle.cop_setup.specs.declared.setting.Setting.{Setting}
use Rattle.cop_setup.specs.declared.setting.Width.{Width}
use Rattle.cop_setup.specs.declared.setting.Width.TheVariants.{Four}
use Rattle.cop_setup.specs.Width.{size_of}

-- the bytes of a setting's value
abbrev pub bytes_of : Setting → List ℕ
bytes_of setting = bytes_low_first 0 (size_of setting.width) setting.value

-- the dictionary with the value of a setting
abbrev pub with_setting : List Entry → Setting → List Entry
with_setting dict setting = with_value setting.index setting.sub (bytes_of setting) dict

-- the dictionary with each setting's last value
abbrev pub planned : List Entry → List Setting → List Entry
planned dict settings = fold with_setting dict settings

-- the COB-ID of the PDO with this communication record
abbrev pub cob_id_set : ℕ → ℕ → Setting
cob_id_set index cob_id = record { index = index; sub = 1; value = cob_id; width = Four }

-- a setting's value fits its bytes
pub record IsFit (setting : Setting) : Type 0 where
  pub value : setting.value < 2 ^ (8 * size_of setting.width)

-- a setting is of an object that a dictionary has
abbrev pub HasObject : List Entry → Setting → Type 0
HasObject dict setting = IsSome (entry_at dict setting.index setting.sub)

-- values of the type are numbers of this width: BOOLEAN, and integers of 1, 2 or 4 bytes
abbrev pub has_numbers : DataType → Width → Bool
has_numbers data_type width = is_some (greatest_of data_type) && (least_width data_type == size_of width)

-- a setting is a number that its object can have, by its bytes, or as a number below 0 by its two's complement; a BOOLEAN has 0 and 1
pub record IsNumber (dict : List Entry) (setting : Setting) : Type 0 where
  pub entry : Entry
  pub here : entry_at dict setting.index setting.sub ≡ Some entry
  pub numbers : has_numbers entry.description.data_type setting.width ≡ true
  pub fits : IfSome (bits_of entry.description.data_type) (λ bits. setting.value < 2 ^ bits)
