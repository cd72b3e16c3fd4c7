use Rattle.std.proofs.Common.{◌≡◌, [], drop}
use Rattle.toml.specs.View.{items_view}
use Rattle.cop_project.specs.Project.{rates_from}
use Rattle.cop_project.proofs.keys.listed.Given as goal

abbrev pub invariant-values : goal.invariant-values
invariant-values l = rates_from l.rates.items (items_view (drop l.value-index l.values)) ≡ rates_from [] (items_view l.values)
