use Rattle.cop_bus.proofs.WriterLemmas.{line_written}
use Rattle.cop_bus.proofs.writing.write_line.Goals as goal

pub returns-in-Ok : goal.returns-in-Ok
returns-in-Ok g c = line_written g.W.Write.contents _ _ _ c.in-Ok.ensures.bytes
