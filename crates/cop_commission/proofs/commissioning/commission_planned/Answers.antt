use Rattle.std.proofs.Common.{◌≡◌, sym, ◌∙◌}
use Rattle.cop_plan.specs.declared.assigning.Outcome.TheVariants.{Planned}
use Rattle.cop_commission.proofs.commissioning.commission_planned.Goals as goal

pub returns-in-Planned-clause-failed : goal.returns-in-Planned-clause-failed
returns-in-Planned-clause-failed g c =
    let e : c.args.planned.now.outcome ≡ Planned c.in-Planned.plan = sym c.parts.ensures.outcome ∙ c.in-Planned.is in
    rw (e, sym c.parts.ensures.network) c.commission_by.ensures.failed

pub returns-in-Planned-clause-short : goal.returns-in-Planned-clause-short
returns-in-Planned-clause-short g c =
    let e : c.args.planned.now.outcome ≡ Planned c.in-Planned.plan = sym c.parts.ensures.outcome ∙ c.in-Planned.is in
    rw (e, sym c.parts.ensures.network) c.commission_by.ensures.short
