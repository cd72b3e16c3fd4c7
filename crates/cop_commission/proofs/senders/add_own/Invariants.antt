use Rattle.std.proofs.Common.{◌≡◌, ◌++◌, take}
use Rattle.std.specs.List.{filter_map}
use Rattle.cop_commission.specs.Senders.{own_sender}
use Rattle.cop_commission.proofs.senders.add_own.Given as goal

abbrev pub invariant-loop-entry : goal.invariant-loop-entry
invariant-loop-entry l = l.senders.items ≡ l.initial.senders.items ++ filter_map (own_sender l.node) (take l.entry-index l.entries)
