-- Names of sections.
use Rattle.std.specs.Prelude.{ℕ, ◌+◌, ◌*◌, Bool, false, ◌&&◌, List, length, take, drop, codes, ◌==◌, nat_le, if◌then◌else◌, Option, Some, None}
use Rattle.std.specs.Option.{option_map}
use Rattle.cop_eds.specs.Text.{same_name}
use Rattle.cop_eds.specs.Number.{number_in}

-- the number of an object's section among all that there can be: by rising index, and of one index its own
-- section first, then its sub sections by rising sub
abbrev pub object_code : ℕ → ℕ
object_code index = index * 257

abbrev pub sub_code : ℕ → ℕ → ℕ
sub_code index sub = index * 257 + (sub + 1)

-- `sub` and one or two hexadecimal digits
unfoldable pub sub_of : List ℕ → Option ℕ
sub_of name = if same_name (take 3 name) (codes "sub") && nat_le (length name) 5 then number_in 16 (drop 3 name) else None

abbrev pub both_codes : Option ℕ → Option ℕ → Option ℕ
both_codes (Some index) (Some sub) = Some (sub_code index sub)
both_codes (Some index) None = None
both_codes None sub = None

-- the number of a section with this name, where that is four hexadecimal digits, or these and a sub (CiA 306)
abbrev pub code_of : List ℕ → Option ℕ
code_of name =
    if nat_le (length name) 4
    then (if length name == 4 then option_map object_code (number_in 16 name) else None)
    else both_codes (number_in 16 (take 4 name)) (sub_of (drop 4 name))

-- names without ASCII case; `1800sub1` and `1800sub01` name one section
abbrev pub same_names : Option ℕ → Option ℕ → List ℕ → List ℕ → Bool
same_names (Some m) (Some n) a b = m == n
same_names (Some m) None a b = false
same_names None (Some n) a b = false
same_names None None a b = same_name a b

unfoldable pub same_section : List ℕ → List ℕ → Bool
same_section a b = same_names (code_of a) (code_of b) a b

abbrev pub has_code : Option ℕ → ℕ → Bool
has_code None code = false
has_code (Some m) code = m == code
