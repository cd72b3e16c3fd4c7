use Rattle.std.proofs.Common.{◌≡◌, ◌++◌, take}
use Rattle.std.specs.List.{filter_map}
use Rattle.cop_dcf.specs.Identifiers.{id_in}
use Rattle.cop_dcf.specs.Settings.{set_of, on_set}
use Rattle.cop_dcf.proofs.node_settings.add_ons.Given as goal

abbrev pub invariant-loop-entry : goal.invariant-loop-entry
invariant-loop-entry l = l.settings.items ≡ l.initial.settings.items ++ filter_map (set_of on_set (id_in l.places)) (take l.entry-index l.entries)
