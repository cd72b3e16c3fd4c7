use Rattle.std.proofs.Common.{◌≡◌, ◌++◌, drop}
use Rattle.cop_start.specs.Rows.{consumers_by}
use Rattle.cop_start.proofs.rows.consumers.Given as goal

abbrev pub invariant-loop-receiver : goal.invariant-loop-receiver
invariant-loop-receiver l = l.found.items ++ consumers_by l.sources l.sender (drop l.receiver-index l.receivers) ≡ consumers_by l.sources l.sender l.receivers
