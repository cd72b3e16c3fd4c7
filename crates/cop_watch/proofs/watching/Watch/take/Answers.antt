use Rattle.std.proofs.Common.{◌∙◌}
use Rattle.cop_watch.proofs.BreakLemmas.{follows-none}
use Rattle.cop_watch.proofs.watching.Watch.take.Goals as goal

pub returns-in-All : goal.returns-in-All
returns-in-All c = λ tau streams steps h.
    (c.take_step.ensures.all c.in-All.is tau streams steps (follows-none tau streams steps c.args.self.now c.in-None.is h), c.take_step.ensures.unbroken ∙ c.in-None.is)
