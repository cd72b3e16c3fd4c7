-- Numbers of PDOs that are above what the lists name (CiA 306: NrOfRXPDO and NrOfTXPDO of DeviceInfo).
use Rattle.std.specs.Prelude.{ℕ, zero, suc, ◌+◌, Bool, List, [], ◌++◌, codes, if◌then◌else◌, Option, Some, None}
use Rattle.std.specs.Option.{option_to_list}
use Rattle.cop_eds.specs.declared.line.Place.{Place}
use Rattle.cop_eds.specs.Sections.{place_of, key_line}
use Rattle.cop_eds_hazards.specs.declared.hazards.Hazard.{Hazard}
use Rattle.cop_eds_hazards.specs.Stated.{stated, stated_or_0}
use Rattle.cop_eds_hazards.specs.Listed.{names, is_listed}
use Rattle.cop_eds_hazards.specs.Hazards.{is_above, hazard_at}

-- how many of so many indexes from one on the lists name
unfoldable pub listed_among : List ℕ → ℕ → ℕ → ℕ
listed_among text first zero = 0
listed_among text first (suc n) = listed_among text first n + (if is_listed text (first + n) then 1 else 0)

-- warning 85: a key states more PDOs than the lists name communication records from this index on
abbrev pub miscount_at : List ℕ → ℕ → List ℕ → ℕ → Option Hazard
miscount_at text section key first =
    if is_above (listed_among text first 512) (stated text section key) then hazard_at 85 (key_line text section key) else None

-- no sub-index is described by CompactPDO
abbrev pub is_plain : List ℕ → ℕ → Bool
is_plain text section = names 0 (stated_or_0 text section (codes "CompactPDO"))

abbrev pub miscounts_in : List ℕ → Option Place → List Hazard
miscounts_in text None = []
miscounts_in text (Some place) =
    if is_plain text place.section then
    option_to_list (miscount_at text place.section (codes "NrOfRXPDO") 0x1400) ++ option_to_list (miscount_at text place.section (codes "NrOfTXPDO") 0x1800)
    else []

-- the lines of NrOfRXPDO and then of NrOfTXPDO that state too many, where CompactPDO describes none
unfoldable pub miscounts_of : List ℕ → List Hazard
miscounts_of text = miscounts_in text (place_of text (codes "DeviceInfo"))
