-- What stays of an accepted text: its objects, and its rates.
use Rattle.std.specs.Prelude.{ℕ, ◌≡◌, ◌⊎◌, ◌↔◌, Bool, not, true, false, ◌&&◌, ◌||◌, ◌==◌, List, Option, Some, None, Ok, All}
use Rattle.std.specs.List.{Contains}
use Rattle.cop_frame.specs.declared.rates.Rate.{Rate}
use Rattle.cop_eds.specs.Rates.{support_of}
use Rattle.cop_dict.specs.Types.{is_unsigned32}
use Rattle.cop_dict.specs.Find.{Entry, AreAlike, entry_at}
use Rattle.cop_dict.specs.Build.{built}
use Rattle.cop_tidy.specs.declared.taking.Taken.{Taken}
use Rattle.cop_tidy.specs.Accepted.{IsAccepted}
use Rattle.cop_tidy.specs.Identified.{is_record, is_identifier}

-- a sub 1 of another type than CiA 301 says
abbrev pub is_mistyped : Entry → Bool
is_mistyped entry = (entry.sub == 1) && not (is_unsigned32 entry.description.data_type)

abbrev pub is_absent : Option Entry → Bool
is_absent None = true
is_absent (Some _) = false

-- a sub 0 without a sub 1 in its dictionary: the record is described as one value
abbrev pub is_alone : List Entry → Entry → Bool
is_alone dict entry = (entry.sub == 0) && is_absent (entry_at dict entry.index 1)

-- the entry of a dictionary by which the record of a PDO has no identifier
abbrev pub is_unidentified : List Entry → Entry → Bool
is_unidentified dict entry = is_record entry.index && (is_mistyped entry || is_alone dict entry)

-- another entry has the type, the access, the flag, the limits and the value of this one
abbrev pub IsLike : Entry → Option Entry → Type 0
IsLike entry None = Unit {0} → ⊥
IsLike entry (Some other) = AreAlike entry other

-- the record of a PDO has no identifier by an entry of the first dictionary, and has one in the second
abbrev pub is_identified_now : List Entry → List Entry → Entry → Bool
is_identified_now before after entry = is_unidentified before entry && is_identifier (entry_at after entry.index 1)

-- the entry of the first dictionary stands in the second, unless the record of a PDO had no identifier by it, and has one now
abbrev pub IsKept : List Entry → List Entry → Entry → Type 0
IsKept before after entry = (is_identified_now before after entry ≡ true) ⊎ IsLike entry (entry_at after entry.index entry.sub)

-- each entry of the first dictionary stands in the second
unfoldable pub AreKept : List Entry → List Entry → Type 0
AreKept before after = All (IsKept before after) before

-- each entry of a text's dictionary for a node stands in that of the other text
unfoldable pub Stays : ℕ → List ℕ → List ℕ → Type 0
Stays node old new = (before after : List Entry) → built old node ≡ Ok before → built new node ≡ Ok after → AreKept before after

-- a text supports no rate
unfoldable pub SupportsNone : List ℕ → Type 0
SupportsNone text = (rate : Rate) → support_of text rate ≡ Ok true → ⊥

-- both texts support the same rates
unfoldable pub SupportsSame : List ℕ → List ℕ → Type 0
SupportsSame old new = (rate : Rate) → (support_of old rate ≡ Ok true) ↔ (support_of new rate ≡ Ok true)

-- a text that supports a rate supports the same as the other one
abbrev pub KeepsRates : List ℕ → List ℕ → Type 0
KeepsRates old new = SupportsNone old ⊎ SupportsSame old new

-- where the old text is accepted its objects stay in the new one, as the first and the last node have them, and its rates
abbrev pub Keeps : List ℕ → List ℕ → Type 0
Keeps old new = IsAccepted old → (Stays 1 old new × Stays 127 old new) × KeepsRates old new

-- the same of what is taken of two texts
unfoldable pub HasNone : List Rate → Type 0
HasNone rates = (rate : Rate) → Contains rates rate → ⊥

unfoldable pub HaveSame : List Rate → List Rate → Type 0
HaveSame before after = (rate : Rate) → Contains before rate ↔ Contains after rate

abbrev pub AreAllKept : Taken → Taken → Type 0
AreAllKept before after = (AreKept before.first after.first × AreKept before.last after.last) × (HasNone before.rates ⊎ HaveSame before.rates after.rates)
