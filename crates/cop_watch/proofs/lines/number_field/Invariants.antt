use Rattle.std.proofs.Common.{length}
use Rattle.cop_watch.proofs.LineLemmas.{AreDigits}
use Rattle.cop_watch.proofs.lines.number_field.Given as goal

abbrev pub invariant-loop-first : goal.invariant-loop-first
invariant-loop-first l = AreDigits l.text l.number l.digits l.rest

abbrev pub decreases-loop-first : goal.decreases-loop-first
decreases-loop-first l = length l.rest
