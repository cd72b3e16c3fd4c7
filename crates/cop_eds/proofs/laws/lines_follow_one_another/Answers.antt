use Rattle.cop_eds.proofs.FollowLemmas.{lines_begin, lines_follow, lines_end}
use Rattle.cop_eds.proofs.laws.lines_follow_one_another.Goals as goal

pub returns-clause-first : goal.returns-clause-first
returns-clause-first c = lines_begin

pub returns-clause-next : goal.returns-clause-next
returns-clause-next c = lines_follow

pub returns-clause-last : goal.returns-clause-last
returns-clause-last c = lines_end
