use Rattle.std.proofs.Common.{◌≡◌, ◌↔◌, take, Contains, Ok, true}
use Rattle.cop_frame.specs.declared.rates.Rate.{Rate}
use Rattle.cop_net.proofs.RateLemmas.{each_rate}
use Rattle.cop_net.proofs.rates.all_rates.Given as goal

abbrev pub invariant-loop-rate : goal.invariant-loop-rate
invariant-loop-rate l = (r : Rate) → Contains l.rates r ↔ (Contains (take l.rate-index l.rate-items) r × (each_rate r ≡ Ok true))
