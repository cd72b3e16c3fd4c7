use Rattle.std.proofs.Common.{◌≡◌, drop}
use Rattle.std.specs.List.{list_any}
use Rattle.cop_tidy_reading.specs.Lists.{has_rate}
use Rattle.cop_tidy_reading.proofs.lists.has_rates.Given as goal

abbrev pub invariant-loop-rate : goal.invariant-loop-rate
invariant-loop-rate l = list_any (has_rate l.contents l.section) (drop l.rate-index l.rate-items) ≡ list_any (has_rate l.contents l.section) l.rate-items
