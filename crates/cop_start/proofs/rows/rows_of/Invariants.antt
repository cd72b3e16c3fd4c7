use Rattle.std.proofs.Common.{◌≡◌, ◌++◌, drop}
use Rattle.cop_start.specs.Rows.{rows_from}
use Rattle.cop_start.proofs.rows.rows_of.Given as goal

abbrev pub invariant-loop-sender : goal.invariant-loop-sender
invariant-loop-sender l =
    l.rows.items ++ rows_from l.sources l.senders l.receivers (drop l.sender-index l.kept) ≡ rows_from l.sources l.senders l.receivers l.kept
