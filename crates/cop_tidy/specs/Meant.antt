-- A text that the strict reading takes for the device that another one describes.
use Rattle.std.specs.Prelude.{ℕ, ◌≡◌, ◌≤◌, ◌<◌, ◌==◌, ◌||◌, ◌↔◌, nat_le, Bool, true, List, Ok}
use Rattle.std.specs.List.{Contains, list_all, list_any}
use Rattle.std.specs.Ordering.{nat_cmp}
use Rattle.std.specs.BTreeSet.{BTreeSet, contains}
use Rattle.cop_frame.specs.declared.rates.Rate.{Rate}
use Rattle.cop_frame.specs.declared.rates.Rate.TheVariants.{Kbit10, Kbit20, Kbit50, Kbit125, Kbit250, Kbit500, Kbit800, Kbit1000}
use Rattle.cop_eds.specs.Rates.{support_of}
use Rattle.cop_dict.specs.Find.{Entry}
use Rattle.cop_dict.specs.Build.{built}
use Rattle.cop_eds_hazards.specs.Listed.{is_listed}
use Rattle.cop_tidy_device.specs.Device.{Meaning, dictionary_for}
use Rattle.cop_tidy_reading.specs.declared.words.Words.{Words}
use Rattle.cop_tidy_reading.specs.Reading.{loosely}

-- the text supports a rate exactly where it is one of these
abbrev pub SaysRate : List ℕ → List Rate → Rate → Type 0
SaysRate text rates rate = (support_of text rate ≡ Ok true) ↔ Contains rates rate

-- a rate is in both lists, or in neither
unfoldable pub IsInBoth : List Rate → List Rate → Rate → Type 0
IsInBoth left right rate = Contains left rate ↔ Contains right rate

-- each of the four slowest rates is
unfoldable pub HaveSameSlow : List Rate → List Rate → Type 0
HaveSameSlow left right =
    IsInBoth left right Kbit10 × (IsInBoth left right Kbit20 × (IsInBoth left right Kbit50 × IsInBoth left right Kbit125))

-- each of the four fastest is
unfoldable pub HaveSameFast : List Rate → List Rate → Type 0
HaveSameFast left right =
    IsInBoth left right Kbit250 × (IsInBoth left right Kbit500 × (IsInBoth left right Kbit800 × IsInBoth left right Kbit1000))

-- an index is one of these
abbrev pub is_among : List ℕ → ℕ → Bool
is_among indexes index = list_any (λ i. index == i) indexes

-- The strict reading takes the text for this device: it has the dictionary of each node, 1 to 127, supports the same rates, and its lists name
-- the same indexes, which have 16 bits (CiA 301).
pub record IsOf (text : List ℕ) (device : Meaning) : Type 0 where
  pub dictionaries : (node : ℕ) → 1 ≤ node → node ≤ 127 → built text node ≡ Ok (dictionary_for node device)
  pub rates : (rate : Rate) → SaysRate text device.rates rate
  pub lists : (index : ℕ) → index < 0x10000 → is_listed text index ≡ is_among device.listed index

-- the text supports exactly these rates
unfoldable pub HasRates : List ℕ → List Rate → Type 0
HasRates text rates = (rate : Rate) → SaysRate text rates rate

-- a set has each of these indexes that has 16 bits
abbrev pub has_each : BTreeSet ℕ → List ℕ → Bool
has_each indexes others = list_all (λ index. nat_le 0x10000 index || contains nat_cmp indexes index) others

-- the lists of the text name exactly these indexes, of those of 16 bits
unfoldable pub HasLists : List ℕ → List ℕ → Type 0
HasLists text indexes = (index : ℕ) → index < 0x10000 → is_listed text index ≡ is_among indexes index

-- a text, of which these are the dictionaries for the first and for the last node, is the device's in all of that
abbrev pub HasAll : List ℕ → List Entry → List Entry → Meaning → Type 0
HasAll text first last device =
    ((first ≡ dictionary_for 1 device) × (last ≡ dictionary_for 127 device)) × (HasRates text device.rates × HasLists text device.listed)

-- the strict reading takes the result for the device that the source describes under these choices
pub record IsMeant (words : Words) (source result : List ℕ) : Type 0 where
  pub device : Meaning
  pub read : loosely source words ≡ Ok device
  pub same : IsOf result device
