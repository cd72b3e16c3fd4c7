use Rattle.std.proofs.Common.{rules}
use Rattle.cop_eds.specs.Reading.{reading}
use Rattle.cop_eds.proofs.OrderLemmas.{held_sorted}
use Rattle.cop_eds.proofs.eds.parse.Goals as goal

pub invariant_of-result : goal.invariant_of-result
unfolding reading
invariant_of-result c = record {
  accepted = search rules;
  supported = search rules;
  held = c.in_ok-objects.ensures.held;
  sorted = held_sorted _ _ c.in_ok-objects.ensures.held;
}
