-- The numbers that bytes stand for.
use Rattle.std.specs.Prelude.{ℕ, ◌+◌, ◌*◌, ◌==◌, Bool, List, [], ◌∷◌, nat_lt, ℤ, pos, ◌-ℤ◌, if◌then◌else◌}
use Rattle.std.specs.List.{list_all}
use Rattle.std.specs.Option.{option_map_or}
use Rattle.cop_dict.specs.declared.data_type.DataType.{DataType}
use Rattle.cop_dict.specs.Types.{half_of}

-- the number that bytes are, the least significant first
abbrev pub number : List ℕ → ℕ
number [] = 0
number (byte ∷ bytes) = byte + 256 * number bytes

-- all bytes are 0
abbrev pub is_zero : List ℕ → Bool
is_zero bytes = list_all (λ byte. byte == 0) bytes

-- the number that a pattern stands for: from `half` on less by twice as much, which is two's complement
abbrev pub signed_from : ℕ → ℕ → ℤ
signed_from half pattern = if nat_lt pattern half then pos pattern else pos pattern -ℤ pos (2 * half)

-- the number that a pattern stands for in a data type
abbrev pub value_of : DataType → ℕ → ℤ
value_of data_type pattern = option_map_or (λ half. signed_from half pattern) (half_of data_type) (pos pattern)
