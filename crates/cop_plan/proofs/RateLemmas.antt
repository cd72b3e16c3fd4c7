-- Rates in their order.
use Rattle.std.proofs.Common.{◌≡◌, ℕ, zero, suc, ◌<◌, ◌≤◌, ◌⊎◌, inl, inr, refl, arith, lit<, slice_index_or}
use Rattle.std.proofs.lemmas.Bool.{cases_lt}
use Rattle.cop_frame.specs.declared.rates.Rate.{Rate}
use Rattle.cop_frame.specs.declared.rates.Rate.TheVariants.{Kbit10, Kbit20, Kbit50, Kbit125, Kbit250, Kbit500, Kbit800, Kbit1000}
use Rattle.cop_frame.specs.Rate.{place_of, kbits_of}
use Rattle.cop_frame.specs.RateSet.{all_rates}
use Rattle.cop_frame.proofs.RateSetLemmas.{slower, place_below}

-- the rate at a place
abbrev pub rate_at : ℕ → Rate
rate_at i = slice_index_or all_rates i Kbit10

pub at_place : (r : Rate) → rate_at (place_of r) ≡ r
at_place Kbit10 = refl
at_place Kbit20 = refl
at_place Kbit50 = refl
at_place Kbit125 = refl
at_place Kbit250 = refl
at_place Kbit500 = refl
at_place Kbit800 = refl
at_place Kbit1000 = refl

pub place_at : (i : ℕ) → i < 8 → place_of (rate_at i) ≡ i
place_at zero h = refl
place_at (suc zero) h = refl
place_at (suc (suc zero)) h = refl
place_at (suc (suc (suc zero))) h = refl
place_at (suc (suc (suc (suc zero)))) h = refl
place_at (suc (suc (suc (suc (suc zero))))) h = refl
place_at (suc (suc (suc (suc (suc (suc zero)))))) h = refl
place_at (suc (suc (suc (suc (suc (suc (suc zero))))))) h = refl
place_at (suc (suc (suc (suc (suc (suc (suc (suc n)))))))) h = absurd (omega arith)

above : (r : Rate) → suc (place_of r) < 8 → kbits_of r < kbits_of (rate_at (suc (place_of r)))
above Kbit10 h = lit< tt
above Kbit20 h = lit< tt
above Kbit50 h = lit< tt
above Kbit125 h = lit< tt
above Kbit250 h = lit< tt
above Kbit500 h = lit< tt
above Kbit800 h = lit< tt
above Kbit1000 h = absurd (omega arith)

-- a rate at a lower place is slower
pub kbits_rise : (r q : Rate) → place_of r < place_of q → kbits_of r < kbits_of q
kbits_rise r q h = omega (arith, above r (omega (arith, h, place_below q)), slower (suc (place_of r)) q h)

kbits_here : (r : Rate) → kbits_of (rate_at (place_of r)) ≡ kbits_of r
kbits_here r = rw (at_place r) refl

-- a slower rate is at a lower place
pub place_rise : (r q : Rate) → kbits_of r < kbits_of q → place_of r < place_of q
place_rise r q h = go (cases_lt (place_of r) (place_of q)) where
  go : (place_of r < place_of q) ⊎ (place_of q ≤ place_of r) → place_of r < place_of q
  go (inl lt) = lt
  go (inr le) = absurd (omega (arith, h, slower (place_of q) r le, kbits_here q))
