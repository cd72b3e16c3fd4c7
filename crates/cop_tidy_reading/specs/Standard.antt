-- What CiA 301 says of the objects of the communication profile.
use Rattle.std.specs.Prelude.{ℕ, Bool, ◌||◌, ◌&&◌, ◌==◌, nat_le, nat_lt, if◌then◌else◌, Option, Some, None}
use Rattle.cop_eds.specs.declared.description.Access.{Access}
use Rattle.cop_eds.specs.declared.description.Access.TheVariants.{ReadOnly, Constant}
use Rattle.cop_dict.specs.Mapping.{is_between}
use Rattle.cop_dict.specs.Pdo.{is_communication, is_mapping}

-- a record of a PDO
abbrev pub is_pdo : ℕ → Bool
is_pdo index = is_between 0x1400 0x1BFF index

-- what SYNC, EMCY, heartbeats, SDO and PDOs do on the bus: a list may not leave it out without a word
abbrev pub is_guarded : ℕ → Bool
is_guarded index =
    ((index == 0x1005) || ((index == 0x1006) || is_between 0x1014 0x1017 index)) || ((index == 0x1200) || (is_pdo index || nat_lt 0xFFFF index))

-- objects whose values a plan reads
abbrev pub is_needed : ℕ → Bool
is_needed index =
    ((index == 0x1000) || (is_between 0x1005 0x1007 index || ((index == 0x1010) || (index == 0x1011))))
    || (is_between 0x1014 0x1018 index || ((index == 0x1200) || is_pdo index))

-- 0005h is UNSIGNED8, 0006h UNSIGNED16, 0007h UNSIGNED32, 0009h VISIBLE_STRING
abbrev pub communication_type : ℕ → Option ℕ
communication_type sub =
    if sub == 1 then Some 7 else
    if (sub == 3) || (sub == 5) then Some 6 else
    if nat_le sub 6 then Some 5 else None

-- sub 0 of an array is the number of its entries
abbrev pub counted : ℕ → ℕ
counted sub = if sub == 0 then 5 else 7

-- the data type of an object, where CiA 301 leaves no choice
unfoldable pub standard_type : ℕ → ℕ → Option ℕ
standard_type index sub =
    if (index == 0x1000) || ((index == 0x1002) || (is_between 0x1005 0x1007 index || (index == 0x1014))) then Some 7 else
    if (index == 0x1001) || ((index == 0x100D) || ((index == 0x1019) || (index == 0x1029))) then Some 5 else
    if (index == 0x1003) || ((index == 0x1010) || ((index == 0x1011) || ((index == 0x1016) || (index == 0x1018)))) then Some (counted sub) else
    if is_between 0x1008 0x100A index then Some 9 else
    if (index == 0x100C) || ((index == 0x1015) || (index == 0x1017)) then Some 6 else
    if is_communication index then communication_type sub else
    if is_mapping index then Some (counted sub) else None

-- the data type by which a PDO can be planned, whatever a text says: that of its identifier and of its mapping
unfoldable pub forced_type : ℕ → ℕ → Option ℕ
forced_type index sub =
    if is_communication index && (sub == 1) then Some 7 else if is_mapping index then Some (counted sub) else None

-- the access of an object, where CiA 301 leaves no choice
unfoldable pub standard_access : ℕ → ℕ → Option Access
standard_access index sub =
    if is_between 0x1000 0x1002 index || ((index == 0x1018) || ((index == 0x1003) && nat_lt 0 sub)) then Some ReadOnly
    else if is_between 0x1008 0x100A index then Some Constant
    else None
