-- Names of sections, in the spelling of CiA 306 and in others.
use Rattle.std.specs.Prelude.{ℕ, ◌-◌, Bool, true, false, not, ◌||◌, ◌==◌, nat_lt, nat_le, List, [], ◌∷◌, length, take, drop, slice_index, codes, filter, if◌then◌else◌, Option, Some, None}
use Rattle.cop_eds.specs.Text.{is_blank, trim, same_name}
use Rattle.cop_eds.specs.Number.{is_hexadecimal, number_in}
use Rattle.cop_tidy_lines.specs.declared.names.ListName.TheVariants as lists
use Rattle.cop_tidy_lines.specs.declared.names.SectionName.{SectionName}
use Rattle.cop_tidy_lines.specs.declared.names.SectionName.TheVariants as names

-- blanks and the signs that makers write round the word `sub`, or in its place
abbrev pub is_sign : ℕ → Bool
is_sign b = (is_blank b || ((b == 95) || (b == 45))) || ((b == 46) || (b == 47))

-- without blanks and such signs at the front
abbrev pub without_signs : List ℕ → List ℕ
without_signs [] = []
without_signs (b ∷ bs) = if is_sign b then without_signs bs else b ∷ bs

-- without 0x in front
abbrev pub without_prefix : List ℕ → List ℕ
without_prefix bs = if is_hexadecimal bs then drop 2 bs else bs

-- without 0x or $ in front
abbrev pub without_mark : List ℕ → List ℕ
without_mark bs = if slice_index bs 0 == 36 then drop 1 bs else without_prefix bs

-- the letter h
abbrev pub is_letter : ℕ → Bool
is_letter b = (b == 104) || (b == 72)

-- without h in front
abbrev pub without_letter : List ℕ → List ℕ
without_letter bs = if is_letter (slice_index bs 0) then drop 1 bs else bs

-- without h at the end
abbrev pub without_end : List ℕ → List ℕ
without_end bs = if is_letter (slice_index bs (length bs - 1)) then take (length bs - 1) bs else bs

-- hexadecimal digits that write the sub: one or two, or three with a value below 10; three others have two meanings
abbrev pub sub_by : ℕ → ℕ → Option ℕ → Option SectionName
sub_by index count None = Some names.Unread
sub_by index count (Some n) =
    if nat_le count 2 || nat_lt n 10 then Some (names.Sub index n) else if count == 3 then None else Some names.Unread

-- the sub that hexadecimal digits write (CiA 306: HHHHsubD)
abbrev pub sub_named : ℕ → List ℕ → Option SectionName
sub_named index digits = if nat_lt 3 (length digits) then Some names.Unread else sub_by index (length digits) (number_in 16 digits)

-- what follows the word `sub`, or `subindex`
abbrev pub after_sub : List ℕ → Option (List ℕ)
after_sub bs =
    if same_name (take 8 bs) (codes "subindex") then Some (drop 8 bs)
    else if same_name (take 3 bs) (codes "sub") then Some (drop 3 bs)
    else None

-- a point, an underline or a slash
abbrev pub is_divider : ℕ → Bool
is_divider b = (b == 46) || ((b == 95) || (b == 47))

-- the sub behind a divider
abbrev pub divided : ℕ → List ℕ → Option SectionName
divided index rest = if is_divider (slice_index rest 0) then sub_named index (without_end (drop 1 rest)) else Some names.Unread

-- the sub behind the word `sub`, or behind a divider
abbrev pub sub_or_divided : ℕ → List ℕ → Option (List ℕ) → Option SectionName
sub_or_divided index rest None = divided index rest
sub_or_divided index rest (Some digits) = sub_named index (without_end (without_prefix (without_signs digits)))

-- the section that belongs to an index by the rest of its name
unfoldable pub rest_named : ℕ → List ℕ → Option SectionName
rest_named index rest =
    if length rest == 0 then Some (names.Object index)
    else if same_name (without_signs rest) (codes "Value") then Some (names.Values index)
    else if same_name (without_signs rest) (codes "Name") then Some (names.Names index)
    else sub_or_divided index rest (after_sub (without_signs rest))

-- without blanks
unfoldable pub dense : List ℕ → List ℕ
dense name = filter (λ b. not (is_blank b)) name

-- a section that is of no object
unfoldable pub other_name : List ℕ → SectionName
other_name all =
    if same_name all (codes "MandatoryObjects") then names.List lists.Mandatory
    else if same_name all (codes "OptionalObjects") then names.List lists.Optional
    else if same_name all (codes "ManufacturerObjects") then names.List lists.Manufacturer
    else if same_name all (codes "DeviceInfo") then names.DeviceInfo
    else names.Unread

-- four hexadecimal digits
abbrev pub index_of : List ℕ → Option ℕ
index_of digits = if length digits == 4 then number_in 16 digits else None

-- a section that belongs to an index, or another one
abbrev pub named_by : Option ℕ → List ℕ → List ℕ → Option SectionName
named_by None rest name = Some (other_name (dense name))
named_by (Some index) rest name = rest_named index rest

-- the section that a name is of: HHHH and HHHHsubD (CiA 306), of which makers write 0x, $, h, blanks and other signs; none where the sub has two meanings
unfoldable pub section_name : List ℕ → Option SectionName
section_name name =
    named_by (index_of (take 4 (without_mark (trim name)))) (without_letter (drop 4 (without_mark (trim name)))) name

-- something reads the section
abbrev pub is_read : SectionName → Bool
is_read names.Unread = false
is_read (names.Names index) = false
is_read (names.Object index) = true
is_read (names.Sub index sub) = true
is_read (names.Values index) = true
is_read (names.List list) = true
is_read names.DeviceInfo = true
