use Rattle.cop_bus.proofs.Waits.{some-waits, none-waits}
use Rattle.cop_bus.proofs.pending.any_waits.Goals as goal

pub returns-in-Some : goal.returns-in-Some
returns-in-Some c streams steps i h = some-waits streams steps i c.args.waiting.now h c.in-Some.field-0.now c.in-Some.ensures.member

pub returns-in-None : goal.returns-in-None
returns-in-None c streams steps i h = none-waits streams steps i c.args.waiting.now h (λ l. let e = c.in-None.ensures.variant.1 l in absurd (cc))
