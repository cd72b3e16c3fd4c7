use Rattle.std.proofs.Common.{ℕ, ◌∙◌, sym, arith}
use Rattle.cop_cert.proofs.ClimbLemmas.{last_next, last_end}
use Rattle.cop_figures.proofs.refused.last_of.Goals as goal

pub loop-next-preserved : goal.loop-next-preserved
loop-next-preserved c =
    c.loop-next.invariant ∙ last_next (λ (n : ℕ). n) c.in-Some.rest.now c.loop-next.next-index c.loop-next.last (omega arith)

pub returns : goal.returns
returns c =
    sym (c.loop-next.invariant ∙ last_end (λ (n : ℕ). n) c.in-Some.rest.now c.loop-next.next-index c.loop-next.last (omega arith))
