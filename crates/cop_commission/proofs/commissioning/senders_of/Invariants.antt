use Rattle.std.proofs.Common.{◌≡◌, ◌++◌, drop}
use Rattle.cop_commission.specs.Commissioning.{senders_of}
use Rattle.cop_commission.proofs.commissioning.senders_of.Given as goal

abbrev pub invariant-loop-k : goal.invariant-loop-k
invariant-loop-k l = l.senders.items ++ senders_of (drop l.k l.rows) (drop l.k l.ids) ≡ senders_of l.rows l.ids
