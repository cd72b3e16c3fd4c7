use Rattle.cop_room.proofs.RangeLemmas.{periods_in_range}
use Rattle.cop_room.proofs.rooms.least_periods.Goals as goal

pub least_or_now-requires-clause-range : goal.least_or_now-requires-clause-range
least_or_now-requires-clause-range c = λ x low high. periods_in_range x c.args.set.now high

pub start_from-requires-clause-range : goal.start_from-requires-clause-range
start_from-requires-clause-range c = λ x low high. periods_in_range x c.args.set.now high
