use Rattle.std.proofs.Common.{◌≡◌, ◌∙◌, ap, sym, subst, rules}
use Rattle.cop_plan.proofs.BusPlans.{planned_on_bus}
use Rattle.cop_plan.specs.Values.{on_bus}
use Rattle.cop_plan.proofs.plans.Plan.on_bus.Goals as goal

pub invariant_of-result : goal.invariant_of-result
invariant_of-result c =
    let planned = planned_on_bus c.args.self.now (rw (c.streams-distinct.ensures.items, c.streams-streams.ensures.items) at c.streams-distinct.ensures.distinct) c.requires c.streams-streams.ensures.planned in
    rw (c.in_ok-copied.ensures, c.as_slice.ensures, c.in_ok-copied-2.ensures, c.as_slice-2.ensures, c.new.ensures, c.in_ok-on_bus.ensures, c.streams-streams.ensures.items, ← c.self.view_is) (rw (← c.self.view_is) at planned)
