use Rattle.cop_room.proofs.WholeLemmas.{all_limits}
use Rattle.cop_room.proofs.NetworkWhole.{network_whole, plan_whole}
use Rattle.cop_room.proofs.laws.planned_numbers_pass.Goals as goal

pub returns-clause-network : goal.returns-clause-network
returns-clause-network c = network_whole

pub returns-clause-plan : goal.returns-clause-plan
returns-clause-plan c = plan_whole

pub returns-clause-room : goal.returns-clause-room
returns-clause-room c = λ rate streams pdos room all whole synced distinct dated count is. all_limits rate streams pdos all whole synced distinct dated count room is
