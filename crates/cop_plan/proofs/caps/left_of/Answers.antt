use Rattle.std.proofs.Common.{◌∙◌, sym}
use Rattle.cop_plan.proofs.CapLemmas.{left_by_pass, left_by_late, left_by_long}
use Rattle.cop_plan.proofs.caps.left_of.Goals as goal

pub returns-in-Pass : goal.returns-in-Pass
returns-in-Pass c p inside dated judged = c.saturating_sub.ensures ∙ sym (left_by_pass p inside c.args.deadline c.in-Pass.response (rw c.in-Pass.is at judged))

pub returns-in-Late : goal.returns-in-Late
returns-in-Late c p inside dated judged = sym (left_by_late p inside c.args.deadline _ _ dated (rw c.in-Late.is at judged))

pub returns-in-Long : goal.returns-in-Long
returns-in-Long c p inside dated judged = sym (left_by_long p inside c.args.deadline (rw c.in-Long.is at judged))
