use Rattle.std.proofs.Common.{◌≡◌, [], drop, string_bytes}
use Rattle.cop_project.specs.Words.{rates_text}
use Rattle.cop_project.proofs.expanding.rates_text.Given as goal

abbrev pub invariant-rates : goal.invariant-rates
invariant-rates l = rates_text (string_bytes l.text) (drop l.rate-index l.rates) ≡ rates_text [] l.rates
