use Rattle.std.proofs.Common.{◌∙◌, ap}
use Rattle.cop_bus.specs.Rings.{any_in}
use Rattle.cop_bus.proofs.QueueLemmas.{any-held}
use Rattle.cop_bus.proofs.queues.Queues.any_waits.Goals as goal

pub returns : goal.returns
returns c = c.is_some.ensures ∙ any-held c.self.inside.rings.items c.self.inside.places.items c.self.inside.waiting c.self.invariant c.lowest.result c.lowest.ensures ∙ ap any_in c.self.view_is
