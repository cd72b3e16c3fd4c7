-- The concise form of settings (CiA 302-3, object 1F22h, "Concise DCF").
use Rattle.std.specs.Prelude.{ℕ, zero, suc, ◌/◌, ◌%◌, List, [], ◌∷◌, ◌++◌, length}
use Rattle.std.specs.List.{flat_map}
use Rattle.cop_setup.specs.declared.setting.Setting.{Setting}
use Rattle.cop_setup.specs.Width.{size_of}

-- a number in so many bytes, the least significant first
abbrev pub number_bytes : ℕ → ℕ → List ℕ
number_bytes zero number = []
number_bytes (suc n) number = number % 256 ∷ number_bytes n (number / 256)

-- a setting: its index in 2 bytes, its sub in 1, how many bytes the value has in 4, and the value
abbrev pub entry_of : Setting → List ℕ
entry_of setting =
    number_bytes 2 setting.index ++ (number_bytes 1 setting.sub ++ (number_bytes 4 (size_of setting.width) ++ number_bytes (size_of setting.width) setting.value))

-- how many settings there are in 4 bytes, and then each in their order
abbrev pub concise_of : List Setting → List ℕ
concise_of settings = number_bytes 4 (length settings) ++ flat_map entry_of settings
