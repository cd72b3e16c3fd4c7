use Rattle.cop_verify.proofs.LawLemmas.{planned_right}
use Rattle.cop_verify.proofs.laws.planned_ones_answered.Goals as goal

pub returns : goal.returns
returns c node all planned = planned_right node all planned
