use Rattle.cop_cert.specs.Assignments.{NoAssignmentPasses}
use Rattle.cop_plan.specs.Caps.{cap_of, capped}
use Rattle.cop_plan.specs.Found.{ArePlanned, ArePlannedWith, NoneFrom}
use Rattle.cop_plan.proofs.MarginLemmas.{can_lowered}
use Rattle.cop_plan.proofs.MarginOutcome.{none_from}
use Rattle.cop_plan.proofs.MarginSteps.{listed_below, lowered_by_list, by_case}
use Rattle.cop_plan.proofs.margins.keeping.Goals as goal

pub lowered-requires-clause-size : goal.lowered-requires-clause-size
lowered-requires-clause-size c = c.requires.caps.count

pub lowered-requires-clause-above : goal.lowered-requires-clause-above
lowered-requires-clause-above c = listed_below c.args.rate c.args.set.now c.args.pdos c.args.caps.now c.requires.caps

pub at_rate-requires-clause-can : goal.at_rate-requires-clause-can
at_rate-requires-clause-can c =
    let is = lowered_by_list c.args.rate c.args.set.now c.args.pdos c.args.caps.now c.requires.caps c.args.margin c.in_ok-lowered.lowered c.in_ok-lowered.ensures in
    can_lowered (capped c.args.margin (cap_of c.args.rate c.args.set.now c.args.pdos)) c.args.set.now c.in_ok-lowered.lowered is c.args.pdos c.requires.can

pub returns-clause-kept : goal.returns-clause-kept
returns-clause-kept c =
    let lowered = c.in_ok-lowered.lowered in
    let is = lowered_by_list c.args.rate c.args.set.now c.args.pdos c.args.caps.now c.requires.caps c.args.margin lowered c.in_ok-lowered.ensures in
    let can = can_lowered (capped c.args.margin (cap_of c.args.rate c.args.set.now c.args.pdos)) c.args.set.now lowered is c.args.pdos c.requires.can in
    by_case c.placing_of.result
    (NoAssignmentPasses c.args.rate lowered c.args.pdos) (NoneFrom c.args.rate c.args.set.now c.args.pdos c.args.margin)
    (λ p. ArePlanned c.args.rate lowered c.args.pdos p.lower.items p.upper.items) (λ p. ArePlannedWith c.args.margin c.args.rate c.args.set.now c.args.pdos p.lower.items p.upper.items)
    (none_from c.args.rate c.args.set.now c.args.pdos c.args.margin lowered is) (λ p planned. (lowered, is, planned))
    (c.placing_of.ensures c.args.rate lowered c.args.pdos can.count c.in_ok-found.ensures.found)
