-- What the strict reading takes of an accepted text.
use Rattle.std.specs.Prelude.{ℕ, ◌≡◌, ◌↔◌, true, List, Ok}
use Rattle.std.specs.List.{Contains}
use Rattle.cop_frame.specs.declared.rates.Rate.{Rate}
use Rattle.cop_eds.specs.Rates.{support_of}
use Rattle.cop_dict.specs.Build.{built}
use Rattle.cop_tidy.specs.declared.taking.Taken.{Taken}

-- these are the rates that a text supports
unfoldable pub AreRatesOf : List ℕ → List Rate → Type 0
AreRatesOf text rates = (rate : Rate) → Contains rates rate ↔ (support_of text rate ≡ Ok true)

-- these are the rates of a text, and its dictionaries for the first and for the last node
pub record IsTaken (text : List ℕ) (taken : Taken) : Type 0 where
  pub rates : AreRatesOf text taken.rates
  pub first : built text 1 ≡ Ok taken.first
  pub last : built text 127 ≡ Ok taken.last
