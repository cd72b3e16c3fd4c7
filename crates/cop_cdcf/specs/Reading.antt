-- How a concise form is read (CiA 302-3, object 1F22h, "Concise DCF").
use Rattle.std.specs.Prelude.{ℕ, zero, suc, ◌+◌, ◌*◌, ◌^◌, ◌<◌, ◌==◌, List, [], ◌∷◌, slice_index, drop, Option, Some, None, option_and_then, option_map, if◌then◌else◌}
use Rattle.cop_setup.specs.declared.setting.Setting.{Setting}
use Rattle.cop_setup.specs.declared.setting.Width.{Width}
use Rattle.cop_setup.specs.declared.setting.Width.TheVariants.{One, Two, Four}
use Rattle.cop_setup.specs.Width.{size_of}

-- the number that so many bytes are, the least significant first
abbrev pub number_in : ℕ → List ℕ → ℕ
number_in zero bytes = 0
number_in (suc n) bytes = slice_index bytes 0 + 256 * number_in n (drop 1 bytes)

-- the width of a value of so many bytes, where settings have it
abbrev pub width_of : ℕ → Option Width
width_of size = if size == 1 then Some One else if size == 2 then Some Two else if size == 4 then Some Four else None

-- the setting at the front, where its value has this width
abbrev pub setting_from : List ℕ → Width → Setting
setting_from bytes width = record { index = number_in 2 bytes; sub = number_in 1 (drop 2 bytes); value = number_in (size_of width) (drop 7 bytes); width = width }

-- so many settings, one behind the other, where each value has one, two or four bytes
abbrev pub settings_from : ℕ → List ℕ → Option (List Setting)
settings_from zero bytes = Some []
settings_from (suc n) bytes =
    option_and_then (λ width. option_map (λ rest. setting_from bytes width ∷ rest) (settings_from n (drop (size_of width) (drop 7 bytes)))) (width_of (number_in 4 (drop 3 bytes)))

-- the settings of a concise form: their number comes first
abbrev pub settings_in : List ℕ → Option (List Setting)
settings_in bytes = settings_from (number_in 4 bytes) (drop 4 bytes)

-- the numbers of a setting have room in their bytes
pub record IsWritable (setting : Setting) : Type 0 where
  pub index : setting.index < 2 ^ 16
  pub sub : setting.sub < 2 ^ 8
  pub value : setting.value < 256 ^ size_of setting.width
