-- The bit rates that a device supports.
use Rattle.std.specs.Prelude.{ℕ, Bool, false, not, List, ◌==◌, Option, Some, None, Result, Ok, codes}
use Rattle.cop_frame.specs.declared.rates.Rate.{Rate}
use Rattle.cop_frame.specs.declared.rates.Rate.TheVariants.{Kbit10, Kbit20, Kbit50, Kbit125, Kbit250, Kbit500, Kbit800, Kbit1000}
use Rattle.cop_frame.specs.RateSet.{all_rates}
use Rattle.cop_eds.specs.declared.fault.Refusal.{Refusal}
use Rattle.cop_eds.specs.declared.line.Place.{Place}
use Rattle.cop_eds.specs.Sections.{place_of, entry_of}
use Rattle.cop_eds.specs.Steps.{◌>>=◌, number_or, each}

-- the key of a rate in DeviceInfo (CiA 306)
abbrev pub rate_key : Rate → List ℕ
rate_key Kbit10 = codes "BaudRate_10"
rate_key Kbit20 = codes "BaudRate_20"
rate_key Kbit50 = codes "BaudRate_50"
rate_key Kbit125 = codes "BaudRate_125"
rate_key Kbit250 = codes "BaudRate_250"
rate_key Kbit500 = codes "BaudRate_500"
rate_key Kbit800 = codes "BaudRate_800"
rate_key Kbit1000 = codes "BaudRate_1000"

unfoldable pub rate_in : List ℕ → Option Place → Rate → Result Bool Refusal
rate_in text None rate = Ok false
rate_in text (Some place) rate = do
  n ← number_or 0 (entry_of text place.section (rate_key rate))
  Ok (not (n == 0))

-- whether the text supports the rate: its key is a number that is not 0
abbrev pub support_of : List ℕ → Rate → Result Bool Refusal
support_of text rate = rate_in text (place_of text (codes "DeviceInfo")) rate

-- the rates' keys are looked at from the slowest on
abbrev pub checked_rates : List ℕ → Result (Unit {0}) Refusal
checked_rates text = each (support_of text) all_rates
