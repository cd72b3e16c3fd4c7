use Rattle.cop_plan.proofs.RenamedLeaves.{one_leaves_margin}
use Rattle.cop_plan.proofs.laws.one_keeps_no_more_than_the_margin.Goals as goal

pub returns : goal.returns
returns c = λ n rates plan margin is planned chosen some. one_leaves_margin n is rates plan margin planned chosen some
