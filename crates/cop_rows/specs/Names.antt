-- Names of devices and of files.
use Rattle.std.specs.Prelude.{ℕ, Bool, ◌&&◌, ◌||◌, ◌==◌, List, length, nat_le}
use Rattle.std.specs.List.{list_all}
use Rattle.std.specs.Char.{is_ascii_alphanumeric}

-- a letter, a digit, a blank, '_', '-' or '.'
abbrev pub is_name_code : ℕ → Bool
is_name_code c = is_ascii_alphanumeric c || (c == 32) || (c == 95) || (c == 45) || (c == 46)

-- 1 to 40 of these
abbrev pub is_name : List ℕ → Bool
is_name text = nat_le 1 (length text) && nat_le (length text) 40 && list_all is_name_code text
