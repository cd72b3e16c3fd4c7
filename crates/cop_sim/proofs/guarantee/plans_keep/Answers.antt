use Rattle.cop_sim.proofs.GuaranteeLemmas.{kept}
use Rattle.cop_sim.proofs.guarantee.plans_keep.Goals as goal

pub returns : goal.returns
returns c until run legal = kept c.args.plan.now c.streams-set.ensures.on_time c.streams-set.ensures.planned.synced until run legal
