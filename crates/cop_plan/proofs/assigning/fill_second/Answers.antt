use Rattle.cop_rta.specs.Ranges.{second_range}
use Rattle.cop_plan.proofs.FoundLemmas.{filled_of_all}
use Rattle.cop_plan.proofs.RangeFlagLemmas.{number_of_all, trials_of_all}
use Rattle.cop_plan.proofs.assigning.fill_second.Goals as goal

pub returns-clause-filled : goal.returns-clause-filled
returns-clause-filled c few =
    filled_of_all second_range.least c.args.rate c.args.set.now c.args.pdos c.args.all.now c.fill_range.result c.requires.all c.requires.each c.fill_range.ensures.filled

pub returns-clause-trials : goal.returns-clause-trials
returns-clause-trials c = trials_of_all c.args.pdos _ _ _ (number_of_all c.args.pdos c.args.all.now c.requires.all c.requires.each) c.fill_range.ensures.trials

pub returns-clause-busy_most : goal.returns-clause-busy_most
returns-clause-busy_most c = rw (number_of_all c.args.pdos c.args.all.now c.requires.all c.requires.each) at c.fill_range.ensures.busy_most
