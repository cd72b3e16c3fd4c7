use Rattle.std.proofs.Common.{◌≡◌, drop}
use Rattle.cop_cert.specs.Evidence.{last_after, last_of}
use Rattle.cop_figures.proofs.refused.last_of.Given as goal

abbrev pub invariant-loop-next : goal.invariant-loop-next
invariant-loop-next l = last_of l.numbers ≡ last_after l.last (drop l.next-index l.rest)
