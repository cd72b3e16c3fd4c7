use Rattle.cop_plan.proofs.FrameLemmas.{passes_iff}
use Rattle.cop_plan.proofs.assigning.passes_below.Goals as goal

pub returns : goal.returns
returns c =
    passes_iff c.args.rate c.args.set.now c.args.frame c.index-streams-frame.result c.args.kept.now c.flag_above.new.out c.passes.result c.requires.pdos c.requires.frame
    (rw c.streams-streams.ensures.items at c.flag_above.ensures.size)
    (rw c.streams-streams.ensures.items at c.flag_above.ensures.each)
    c.passes.ensures
