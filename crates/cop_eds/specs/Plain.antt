-- Keys that stand in a line as they are.
use Rattle.std.specs.Prelude.{ℕ, Bool, not, ◌||◌, ◌==◌, List}
use Rattle.std.specs.List.{list_all}
use Rattle.cop_eds.specs.Text.{is_blank}

-- the byte is neither an equals sign nor a blank
abbrev pub is_inner : ℕ → Bool
is_inner b = not ((b == 61) || is_blank b)

-- such bytes only
abbrev pub is_plain : List ℕ → Bool
is_plain key = list_all is_inner key
