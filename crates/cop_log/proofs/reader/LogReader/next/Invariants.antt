use Rattle.std.proofs.Common.{◌≤◌, length}
use Rattle.std.specs.Prelude.{None}
use Rattle.cop_log.specs.Reading.{Reads}
use Rattle.cop_log.proofs.reader.LogReader.next.Given as goal

abbrev pub invariant-lines : goal.invariant-lines
invariant-lines l = record {
  reads : Reads l.fn.self l.fn.piece l.self l.rest None;
  shorter : length l.rest ≤ length l.fn.piece;
}

abbrev pub decreases-lines : goal.decreases-lines
decreases-lines l = length l.rest
