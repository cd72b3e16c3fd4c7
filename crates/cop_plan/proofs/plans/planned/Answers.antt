use Rattle.std.proofs.Common.{◌≡◌, ◌++◌, reverse, refl, sym, ◌∙◌, arith}
use Rattle.cop_plan.specs.Margins.{others_of}
use Rattle.cop_plan.proofs.PlannedLemmas.{HasPlaces, order_count, order_room, order_inside_length, places_distinct, ids_count, order_of_places, passing_of_places, apart_of_places, by_priority_of_places, have_of_places, planned_of_places}
use Rattle.cop_plan.proofs.plans.planned.Goals as goal

listed : (c : goal.After-deref) → c.deref.result.now ≡ reverse c.args.upper.now ++ reverse c.args.lower.now
listed c = c.deref.ensures.value ∙ c.in_ok-order.ensures

pub identifiers-requires-clause-few : goal.identifiers-requires-clause-few
identifiers-requires-clause-few c = omega (arith, order_count c.args.pdos c.args.lower.now c.args.upper.now c.requires.placed c.deref.result.now (listed c), c.requires.can.few)

pub identifiers-requires-clause-first : goal.identifiers-requires-clause-first
identifiers-requires-clause-first c = omega (arith, order_count c.args.pdos c.args.lower.now c.args.upper.now c.requires.placed c.deref.result.now (listed c), c.requires.placed.count)

pub identifiers-requires-clause-room : goal.identifiers-requires-clause-room
identifiers-requires-clause-room c = order_room c.args.pdos c.args.lower.now c.args.upper.now c.requires.placed c.deref.result.now (listed c)

pub identifiers-requires-clause-inside : goal.identifiers-requires-clause-inside
identifiers-requires-clause-inside c = order_inside_length c.args.pdos c.args.lower.now c.args.upper.now c.requires.placed c.deref.result.now (listed c)

pub identifiers-requires-clause-distinct : goal.identifiers-requires-clause-distinct
identifiers-requires-clause-distinct c = places_distinct c.args.pdos c.args.lower.now c.args.upper.now c.requires.placed c.deref.result.now (listed c)

has : (c : goal.After-deref-2) → HasPlaces (others_of c.args.margin) c.args.rate c.args.set.now c.args.pdos c.args.lower.now c.args.upper.now c.deref.result.now c.deref-2.result.now
has c = rw c.deref-2.ensures.value (record {
  can = c.requires.can;
  placed = c.requires.placed;
  plan = c.requires.order;
  listed = c.deref.ensures.value ∙ c.in_ok-order.ensures;
  count = c.in_ok-ids.ensures.count;
  places = c.in_ok-ids.ensures.places;
})

pub renamed-requires-clause-apart : goal.renamed-requires-clause-apart
renamed-requires-clause-apart c = apart_of_places (has c)

-- of the plan's lists
made : (c : goal.After-into-2) → HasPlaces (others_of c.args.margin) c.args.rate c.args.set.now c.args.pdos c.args.lower.now c.args.upper.now c.into.result c.into-2.result
made c = rw (c.into.ensures, c.into-2.ensures) (record {
  can = c.requires.can;
  placed = c.requires.placed;
  plan = c.requires.order;
  listed = c.in_ok-order.ensures;
  count = rw c.deref.ensures.value at c.in_ok-ids.ensures.count;
  places = rw c.deref.ensures.value at c.in_ok-ids.ensures.places;
})

same_ids : (c : goal.After-into-2) → c.deref-2.result.now ≡ c.into-2.result
same_ids c = c.deref-2.ensures.value ∙ sym c.into-2.ensures

pub invariant_of-result : goal.invariant_of-result
invariant_of-result c = planned_of_places (made c) c.in_ok-streams.streams (rw (same_ids c) at c.in_ok-streams.ensures) c.args.margin c.args.refusals c.requires.tested

pub returns : goal.returns
returns c = record {
  rate = refl;
  margin = refl;
  refusals = refl;
  count = ids_count (made c);
  passing = passing_of_places (made c);
  order = order_of_places (made c);
  by_priority = by_priority_of_places (made c);
  renamed = have_of_places (made c) c.in_ok-streams.streams (rw (same_ids c) at c.in_ok-streams.ensures);
}
