-- PDOs that a device has by CompactPDO (CiA 306): those up to NrOfRXPDO and NrOfTXPDO.
use Rattle.std.specs.Prelude.{ℕ, zero, suc, ◌+◌, ◌%◌, ◌==◌, Bool, true, false, not, ◌&&◌, nat_lt, nat_le, List, codes, if◌then◌else◌, Option, Some, None}
use Rattle.cop_eds.specs.declared.line.Place.{Place}
use Rattle.cop_eds.specs.Sections.{place_of, key_line}
use Rattle.cop_eds_hazards.specs.Stated.{stated_or_0}
use Rattle.cop_eds_hazards.specs.Listed.{is_listed}

-- of the first so many records from one on, exactly those below a count are listed
unfoldable pub are_counted : List ℕ → ℕ → ℕ → ℕ → Bool
are_counted text first count zero = true
are_counted text first count (suc n) =
    are_counted text first count n && (if nat_lt n count then is_listed text (first + n) else not (is_listed text (first + n)))

-- exactly the PDOs up to a count that can be are listed
abbrev pub are_all_listed : List ℕ → ℕ → Option ℕ → Bool
are_all_listed text first None = false
are_all_listed text first (Some count) = nat_le count 512 && are_counted text first count 512

-- the sub-indexes of which CompactPDO tells: at most six, the COB-ID among them
abbrev pub are_subs : ℕ → Bool
are_subs subs = (subs % 2 == 1) && nat_lt subs 64

abbrev pub are_described : List ℕ → ℕ → Bool
are_described text section =
    are_all_listed text 0x1400 (stated_or_0 text section (codes "NrOfRXPDO"))
    && are_all_listed text 0x1800 (stated_or_0 text section (codes "NrOfTXPDO"))

-- what CompactPDO states leaves PDOs out that no section describes, or cannot be
abbrev pub is_implicit : List ℕ → ℕ → Option ℕ → Bool
is_implicit text section None = true
is_implicit text section (Some subs) = not (subs == 0) && not (are_subs subs && are_described text section)

abbrev pub implicit_in : List ℕ → Option Place → Option ℕ
implicit_in text None = None
implicit_in text (Some place) =
    if is_implicit text place.section (stated_or_0 text place.section (codes "CompactPDO")) then key_line text place.section (codes "CompactPDO")
    else None

-- hazard 82: the line of CompactPDO, where it leaves PDOs out
unfoldable pub implicit_line : List ℕ → Option ℕ
implicit_line text = implicit_in text (place_of text (codes "DeviceInfo"))
