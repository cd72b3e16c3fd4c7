use Rattle.std.proofs.Common.{◌∙◌}
use Rattle.cop_eds.proofs.BitLemmas.{padded}
use Rattle.cop_eds.proofs.bits.widen.Goals as goal

pub loop-words-preserved : goal.loop-words-preserved
loop-words-preserved c = rw c.in_ok-push.ensures.items (λ k. padded c.loop-words.words.items k ∙ c.loop-words.invariant k)
