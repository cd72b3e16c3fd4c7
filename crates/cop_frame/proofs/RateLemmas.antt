use Rattle.std.proofs.Common.{◌≤◌, lit≤}
use Rattle.cop_frame.specs.declared.rates.Rate.{Rate}
use Rattle.cop_frame.specs.declared.rates.Rate.TheVariants.{Kbit10, Kbit20, Kbit50, Kbit125, Kbit250, Kbit500, Kbit800, Kbit1000}
use Rattle.cop_frame.specs.Rate.{ticks_of}

-- a bit takes 4 ticks at least
pub ticks_least : (rate : Rate) → 4 ≤ ticks_of rate
ticks_least Kbit10 = lit≤ tt
ticks_least Kbit20 = lit≤ tt
ticks_least Kbit50 = lit≤ tt
ticks_least Kbit125 = lit≤ tt
ticks_least Kbit250 = lit≤ tt
ticks_least Kbit500 = lit≤ tt
ticks_least Kbit800 = lit≤ tt
ticks_least Kbit1000 = lit≤ tt
