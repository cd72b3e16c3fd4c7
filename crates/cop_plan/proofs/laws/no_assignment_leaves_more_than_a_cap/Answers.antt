use Rattle.cop_plan.proofs.CapLemmas.{within_cap}
use Rattle.cop_plan.proofs.laws.no_assignment_leaves_more_than_a_cap.Goals as goal

pub returns : goal.returns
returns c = λ amount rate streams lowered pdos ids k d is passing dated. within_cap amount streams lowered is rate pdos ids passing k d dated
