use Rattle.cop_held.specs.Held.{redated}
use Rattle.cop_held.proofs.PlanLemmas.{is_run, held_on_time, others_on_time}
use Rattle.cop_held.proofs.laws.held_plans_keep.Goals as goal

pub returns-clause-kept : goal.returns-clause-kept
returns-clause-kept c held until run h = c.plans_keep.ensures until (redated held run) (is_run c.args.plan.now held until run h)

pub returns-clause-held : goal.returns-clause-held
returns-clause-held c held until run h k one is =
    held_on_time c.args.plan.now held until run (c.plans_keep.ensures until (redated held run) (is_run c.args.plan.now held until run h)) k one is

pub returns-clause-others : goal.returns-clause-others
returns-clause-others c held until run h k one free =
    others_on_time c.args.plan.now held until run (c.plans_keep.ensures until (redated held run) (is_run c.args.plan.now held until run h)) k one free
