use Rattle.cop_room.proofs.KeptLemmas.{can_assign_longer}
use Rattle.cop_room.proofs.misses.planned_with.Goals as goal

pub planned_at-requires : goal.planned_at-requires
planned_at-requires c = can_assign_longer c.args.part c.args.set.now c.in_ok-longer.longer c.in_ok-longer.ensures c.args.pdos c.requires.can
