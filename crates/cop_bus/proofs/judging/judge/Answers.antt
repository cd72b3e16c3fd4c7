use Rattle.std.proofs.Common.{◌≡◌, ℕ, List, None, subst}
use Rattle.cop_rta.specs.Streams.{AreDistinct}
use Rattle.cop_bus.specs.declared.steps.Step.{Step}
use Rattle.cop_bus.specs.Judge.{first_broken}
use Rattle.cop_bus.proofs.WholeTrace.{clean-legal}
use Rattle.cop_bus.proofs.judging.judge.Goals as goal

pub returns-clause-legal : goal.returns-clause-legal
returns-clause-legal c =
    let steps = subst (λ (steps : List Step). first_broken c.ticks_per_bit.result c.args.streams.now c.args.trace.now.until steps ≡ None) c.deref.ensures.value c.in_ok-links.ensures.ok in
    (clean-legal c.args.rate c.args.streams.now c.args.trace.now.until c.args.trace.now.steps.items
    (subst AreDistinct c.streams-distinct.ensures.items c.streams-distinct.ensures.distinct)).0
    (subst (λ (tau : ℕ). first_broken tau c.args.streams.now c.args.trace.now.until c.args.trace.now.steps.items ≡ None) c.ticks_per_bit.ensures.ticks steps)
