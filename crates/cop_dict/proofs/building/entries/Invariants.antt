use Rattle.std.proofs.Common.{◌≡◌, drop}
use Rattle.cop_dict.specs.Build.{entry_built, collected, built}
use Rattle.cop_dict.proofs.BuildLemmas.{with_before}
use Rattle.cop_dict.proofs.building.entries.Given as goal

abbrev pub invariant-loop-i : goal.invariant-loop-i
invariant-loop-i l = with_before l.entries.items (collected (entry_built l.eds l.node) (drop l.i l.object-items)) ≡ built l.eds l.node
