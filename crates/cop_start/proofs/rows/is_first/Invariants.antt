use Rattle.std.proofs.Common.{◌≡◌, drop}
use Rattle.cop_start.specs.Rows.{is_first}
use Rattle.cop_start.proofs.rows.is_first.Given as goal

abbrev pub invariant-loop-other : goal.invariant-loop-other
invariant-loop-other l = is_first (drop l.other-index l.senders) l.sender ≡ is_first l.senders l.sender
