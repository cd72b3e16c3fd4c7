-- Names of sections in other spellings than that of CiA 306.
use Rattle.std.specs.Prelude.{ℕ, ◌-◌, Bool, true, false, not, ◌&&◌, ◌||◌, ◌==◌, nat_le, List, [], ◌∷◌, ◌++◌, length, take, drop, slice_index, codes, filter, if◌then◌else◌, Option, Some, None, is_some}
use Rattle.std.specs.Option.{option_map, option_and_then, option_or}
use Rattle.cop_eds.specs.Text.{is_blank, trim, same_name}
use Rattle.cop_eds.specs.Number.{is_hexadecimal, number_in}

-- a sign that stands before a word in a name; behind the word `sub` dots and slashes are none
abbrev pub is_sign : Bool → ℕ → Bool
is_sign dots b = (is_blank b || ((b == 95) || (b == 45))) || (dots && ((b == 46) || (b == 47)))

-- without the signs at the front
abbrev pub without_signs : Bool → List ℕ → List ℕ
without_signs dots [] = []
without_signs dots (b ∷ bs) = if is_sign dots b then without_signs dots bs else b ∷ bs

-- without 0x in front
abbrev pub without_prefix : List ℕ → List ℕ
without_prefix bs = if is_hexadecimal bs then drop 2 bs else bs

-- without 0x or $ in front
abbrev pub without_mark : List ℕ → List ℕ
without_mark bs = if slice_index bs 0 == 36 then drop 1 bs else without_prefix bs

abbrev pub is_letter : ℕ → Bool
is_letter b = (b == 104) || (b == 72)

-- without h in front
abbrev pub without_letter : List ℕ → List ℕ
without_letter bs = if is_letter (slice_index bs 0) then drop 1 bs else bs

-- without h at the end
abbrev pub without_end : List ℕ → List ℕ
without_end bs = if is_letter (slice_index bs (length bs - 1)) then take (length bs - 1) bs else bs

abbrev pub is_byte : Option ℕ → Bool
is_byte None = false
is_byte (Some n) = nat_le n 255

-- at most two digits of three that write a byte
abbrev pub short : List ℕ → List ℕ
short digits = if nat_le (length digits) 2 then digits else drop 1 digits

-- one to three hexadecimal digits that write a byte
unfoldable pub sub_digits : List ℕ → Option (List ℕ)
sub_digits digits = if nat_le (length digits) 3 && is_byte (number_in 16 digits) then Some (short digits) else None

-- what follows the word `sub` and the signs round it
unfoldable pub after_sub : List ℕ → Option (List ℕ)
after_sub bs =
    let word = without_signs true bs in
    if same_name (take 3 word) (codes "sub") then Some (without_end (without_prefix (without_signs false (drop 3 word)))) else None

abbrev pub with_sub : List ℕ → List ℕ → List ℕ
with_sub index digits = index ++ codes "sub" ++ digits

-- the name of the section of an index, or of a sub that the rest names
abbrev pub with_rest : List ℕ → List ℕ → Option (List ℕ)
with_rest index rest =
    if length rest == 0 then Some index else option_map (with_sub index) (option_and_then sub_digits (after_sub rest))

-- four hexadecimal digits
abbrev pub is_index : List ℕ → Bool
is_index index = (length index == 4) && is_some (number_in 16 index)

-- the name of an object's section as CiA 306 spells it: HHHH or HHHHsubD, of which makers write 0x, $, h, blanks and other signs
unfoldable pub object_spelled : List ℕ → Option (List ℕ)
object_spelled name =
    let all = without_mark (trim name) in
    if is_index (take 4 all) then with_rest (take 4 all) (without_letter (drop 4 all)) else None

-- a word that CiA 306 has behind the digits of an object, for sections that say nothing of its own
abbrev pub is_word : List ℕ → Bool
is_word word =
    (same_name word (codes "Name") || same_name word (codes "Value"))
    || (same_name word (codes "Denotation") || same_name word (codes "ObjectLinks"))

-- what CiA 306 has behind the digits of an object, in its spelling or in another: nothing, a sub, or one of these words
abbrev pub is_rest : List ℕ → Bool
is_rest rest = (length rest == 0) || (is_some (option_and_then sub_digits (after_sub rest)) || is_word (without_signs true rest))

-- the index with whose digits a name begins that is none of CiA 306 in any spelling, as `2100 foo`
unfoldable pub strange_index : List ℕ → Option ℕ
strange_index name =
    let all = without_mark (trim name) in
    if is_index (take 4 all) && not (is_rest (without_letter (drop 4 all))) then number_in 16 (take 4 all) else None

-- without blanks
abbrev pub dense : List ℕ → List ℕ
dense name = filter (λ b. not (is_blank b)) name

-- the name of a section that the strict reading looks for beside the objects' sections
abbrev pub read_name : List ℕ → Option (List ℕ)
read_name all =
    if same_name all (codes "MandatoryObjects") then Some (codes "MandatoryObjects")
    else if same_name all (codes "OptionalObjects") then Some (codes "OptionalObjects")
    else if same_name all (codes "ManufacturerObjects") then Some (codes "ManufacturerObjects")
    else if same_name all (codes "DeviceInfo") then Some (codes "DeviceInfo")
    else None

-- the name of another section of CiA 306
abbrev pub other_name : List ℕ → Option (List ℕ)
other_name all =
    if same_name all (codes "FileInfo") then Some (codes "FileInfo")
    else if same_name all (codes "DummyUsage") then Some (codes "DummyUsage")
    else if same_name all (codes "Comments") then Some (codes "Comments")
    else if same_name all (codes "DeviceComissioning") then Some (codes "DeviceComissioning")
    else None

-- the name of a section that the strict reading looks for, in the spelling of CiA 306
unfoldable pub read_spelled : List ℕ → Option (List ℕ)
read_spelled name = option_or (object_spelled name) (read_name (dense name))

-- the name of a section of CiA 306, in its spelling
unfoldable pub spelled : List ℕ → Option (List ℕ)
spelled name = option_or (read_spelled name) (other_name (dense name))
