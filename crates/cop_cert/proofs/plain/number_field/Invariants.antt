use Rattle.std.proofs.Common.{length}
use Rattle.cop_cert.proofs.PlainLemmas.{AreDigits}
use Rattle.cop_cert.proofs.plain.number_field.Given as goal

abbrev pub invariant-loop-first : goal.invariant-loop-first
invariant-loop-first l = AreDigits l.text l.number l.digits l.rest

abbrev pub decreases-loop-first : goal.decreases-loop-first
decreases-loop-first l = length l.rest
