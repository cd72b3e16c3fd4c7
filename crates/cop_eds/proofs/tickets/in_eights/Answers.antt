use Rattle.std.proofs.Common.{sym, ◌∙◌}
use Rattle.cop_eds.proofs.MixLemmas.{eight_more, at_end}
use Rattle.cop_eds.proofs.tickets.in_eights.Goals as goal

pub loop-bytes-preserved : goal.loop-bytes-preserved
loop-bytes-preserved c =
    let parts = c.in-Some.ensures.cases in
    eight_more c.loop-bytes.sum _ _ _ _ _ _ parts.0 parts.1 parts.2 c.low_bits.ensures c.stirred-sum.ensures c.loop-bytes.invariant

pub returns : goal.returns
returns c = sym (at_end c.loop-bytes.sum _ c.in_default.ensures.cases) ∙ c.loop-bytes.invariant
