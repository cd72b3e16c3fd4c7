use Rattle.std.proofs.Common.{take}
use Rattle.std.specs.String.{string_bytes}
use Rattle.cop_logbook.specs.Words.{AreLines}
use Rattle.cop_logbook.proofs.breaches.lines_of.Given as goal

abbrev pub invariant-loop-breach : goal.invariant-loop-breach
invariant-loop-breach l = record {
  lines : AreLines (take l.breach-index l.breaches) (string_bytes l.text);
}
