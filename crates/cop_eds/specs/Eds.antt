-- What an accepted text keeps beside its bytes.
use Rattle.std.specs.Prelude.{ℕ, true, ◌≡◌, ◌↔◌, List, Ok, Contains}
use Rattle.cop_frame.specs.declared.rates.Rate.{Rate}
use Rattle.cop_eds.specs.declared.description.Object.{Object}
use Rattle.cop_eds.specs.Reading.{reading}
use Rattle.cop_eds.specs.Rates.{support_of}
use Rattle.cop_eds.specs.Objects.{objects_of, AreSorted}

-- exactly these rates are supported
abbrev pub AreSupported : List ℕ → List Rate → Type 0
AreSupported text rates = (rate : Rate) → Contains rates rate ↔ (support_of text rate ≡ Ok true)

pub record IsRead (text : List ℕ) (rates : List Rate) (objects : List Object) : Type 0 where
  pub accepted : reading text ≡ Ok text
  pub supported : AreSupported text rates
  pub held : objects ≡ objects_of text
  pub sorted : AreSorted objects
