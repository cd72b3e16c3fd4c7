use Rattle.std.proofs.Common.{◌≡◌, ◌∙◌, subst}
use Rattle.cop_rta.specs.Streams.{AreDistinct}
use Rattle.cop_sim.proofs.RunLemmas.{each_is_sent}
use Rattle.cop_sim.proofs.guarantee.plans_run.Goals as goal

pub returns : goal.returns
returns c =
    let plan = c.args.plan.now in
    let same : c.streams-streams.result.now ≡ plan.streams = c.streams-streams.ensures.items ∙ c.streams-set.ensures.items in
    let distinct : AreDistinct plan.streams = subst AreDistinct same c.streams-streams.ensures.distinct in
    each_is_sent plan.rate plan.streams distinct c.streams-set.ensures.planned.synced
