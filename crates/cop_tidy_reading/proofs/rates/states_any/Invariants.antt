use Rattle.std.proofs.Common.{◌≡◌, drop}
use Rattle.std.specs.List.{list_any}
use Rattle.cop_tidy_reading.specs.SeenValues.{seen}
use Rattle.cop_tidy_reading.specs.Reading.{states_rate}
use Rattle.cop_tidy_reading.proofs.rates.states_any.Given as goal

abbrev pub invariant-loop-rate : goal.invariant-loop-rate
invariant-loop-rate l = list_any (states_rate (seen l.whole) l.section) (drop l.rate-index l.rates) ≡ list_any (states_rate (seen l.whole) l.section) l.rates
