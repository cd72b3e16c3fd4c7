use Rattle.cop_sim.proofs.ThroughErrors.{kept_through}
use Rattle.cop_sim.proofs.guarantee.plans_keep_through_errors.Goals as goal

pub returns : goal.returns
returns c =
    kept_through c.args.plan.now c.streams-set.ensures.planned (rw (c.streams-streams.ensures.items, c.streams-set.ensures.items) at c.streams-streams.ensures.distinct) c.plans_keep.ensures
