-- What a scripted behaviour offers.
use Rattle.std.specs.Prelude.{ℕ, ◌==◌, Bool, Option, slice_get}
use Rattle.std.specs.List.{list_any}
use Rattle.cop_sim.specs.declared.behaviours.Offer.{Offer}
use Rattle.cop_sim.specs.declared.scripts.Scripted.{Scripted}

-- its offers in order, and then none
abbrev pub offer_of : Scripted → ℕ → Option Offer
offer_of s n = slice_get s.offers.items n

-- it joins the starts at these moments
abbrev pub joins_of : Scripted → ℕ → Bool
joins_of s z = list_any (λ y. y == z) s.yes.items
