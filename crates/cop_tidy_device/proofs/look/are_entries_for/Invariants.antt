use Rattle.std.proofs.Common.{◌≡◌, ◌↔◌, map, length}
use Rattle.cop_tidy_device.specs.Device.{entry_for}
use Rattle.cop_tidy_device.proofs.look.are_entries_for.Given as goal

abbrev pub invariant-loop-entry : goal.invariant-loop-entry
invariant-loop-entry l = (l.rest ≡ map (entry_for l.node) l.left) ↔ (l.entries ≡ map (entry_for l.node) l.objects)

abbrev pub decreases-loop-entry : goal.decreases-loop-entry
decreases-loop-entry l = length l.rest
