use Rattle.std.proofs.Common.{◌≡◌, ◌↔◌, drop, take, Contains, Ok, true}
use Rattle.cop_frame.specs.declared.rates.Rate.{Rate}
use Rattle.cop_eds.specs.Steps.{each}
use Rattle.cop_eds.specs.Rates.{rate_in}
use Rattle.cop_eds.proofs.rates.rates.Given as goal

abbrev pub invariant-loop-rate : goal.invariant-loop-rate
invariant-loop-rate l = record {
  checked : each (rate_in l.text l.info) (drop l.rate-index l.rate-items) ≡ each (rate_in l.text l.info) l.rate-items;
  found : (r : Rate) → Contains l.rates r ↔ (Contains (take l.rate-index l.rate-items) r × (rate_in l.text l.info r ≡ Ok true));
}
