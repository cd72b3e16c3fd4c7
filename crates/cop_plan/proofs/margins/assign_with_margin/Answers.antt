use Rattle.cop_plan.proofs.margins.assign_with_margin.Goals as goal

pub returns-in_ok-widened-in-Planned-clause-outcome : goal.returns-in_ok-widened-in-Planned-clause-outcome
returns-in_ok-widened-in-Planned-clause-outcome c =
    (c.in_ok-widened-in-Planned.ensures.wider c.args.rates.now (rw c.in-Planned.is at c.in_ok-plan.ensures.outcome) (rw c.in-Planned.is at c.in_ok-plan.ensures.by_order)).0

pub returns-in_ok-widened-in-Planned-clause-by_margin : goal.returns-in_ok-widened-in-Planned-clause-by_margin
returns-in_ok-widened-in-Planned-clause-by_margin c =
    (c.in_ok-widened-in-Planned.ensures.wider c.args.rates.now (rw c.in-Planned.is at c.in_ok-plan.ensures.outcome) (rw c.in-Planned.is at c.in_ok-plan.ensures.by_order)).1
