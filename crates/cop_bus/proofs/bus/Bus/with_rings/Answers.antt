use Rattle.std.proofs.Common.{rules, List, subst, sym}
use Rattle.cop_bus.specs.Bus.{AreQueuedBy}
use Rattle.cop_bus.specs.Rings.{RingValue}
use Rattle.cop_bus.proofs.PlacedLemmas.{rings-queued}
use Rattle.cop_bus.proofs.bus.Bus.with_rings.Goals as goal

pub returns-clause-queued : goal.returns-clause-queued
returns-clause-queued c t =
    subst (λ (rs : List RingValue). AreQueuedBy rs t) (sym c.in_ok-new.ensures) (rings-queued c.args.streams.now t)

-- written here so that a body that breaks it is refused at once
pub returns-clause-bus : goal.returns-clause-bus
returns-clause-bus c = search rules
