use Rattle.cop_bus.proofs.Waits.{lower-waits, none-lower}
use Rattle.cop_bus.proofs.pending.lower_waits.Goals as goal

pub returns-in-Some : goal.returns-in-Some
returns-in-Some c streams steps i h = lower-waits streams steps i c.args.waiting.now h c.in-Some.first.now c.args.id c.in-Some.ensures.member c.in-Some.ensures.least

pub returns-in-None : goal.returns-in-None
returns-in-None c streams steps i h = none-lower streams steps i c.args.waiting.now h c.args.id (λ l. let e = c.in-None.ensures.variant.1 l in absurd (cc))
