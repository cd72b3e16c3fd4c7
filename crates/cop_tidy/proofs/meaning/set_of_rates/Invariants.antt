use Rattle.std.proofs.Common.{◌⊎◌, ◌↔◌, Contains, length}
use Rattle.cop_frame.specs.declared.rates.Rate.{Rate}
use Rattle.cop_tidy.proofs.meaning.set_of_rates.Given as goal

abbrev pub invariant-loop-rate : goal.invariant-loop-rate
invariant-loop-rate l = (rate : Rate) → (Contains l.set rate ⊎ Contains l.rest rate) ↔ Contains l.rates rate

abbrev pub decreases-loop-rate : goal.decreases-loop-rate
decreases-loop-rate l = length l.rest
