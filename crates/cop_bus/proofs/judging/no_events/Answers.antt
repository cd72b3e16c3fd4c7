use Rattle.std.proofs.Common.{rules}
use Rattle.cop_bus.proofs.Places.{last-start}
use Rattle.cop_bus.proofs.judging.no_events.Goals as goal

pub returns : goal.returns
returns c steps = last-start steps c.in_ok-vec.field-0.items (c.in_ok-vec.ensures.items_if_clones_equal (search rules))
