use Rattle.std.proofs.Common.{length}
use Rattle.cop_logbook.specs.Books.{Takes}
use Rattle.cop_logbook.proofs.logbook.Logbook.take_piece.Given as goal

abbrev pub invariant-frames : goal.invariant-frames
invariant-frames l = Takes l.fn.self l.fn.piece l.self l.rest

abbrev pub decreases-frames : goal.decreases-frames
decreases-frames l = length l.rest
