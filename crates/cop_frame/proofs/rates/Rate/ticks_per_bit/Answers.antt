use Rattle.std.proofs.Common.{rules}
use Rattle.cop_frame.proofs.rates.Rate.ticks_per_bit.Goals as goal

-- written here so that a body that breaks it is refused at once
pub returns-in-Kbit250-clause-ticks : goal.returns-in-Kbit250-clause-ticks
returns-in-Kbit250-clause-ticks c = search rules

pub returns-in-Kbit250-clause-millisecond : goal.returns-in-Kbit250-clause-millisecond
returns-in-Kbit250-clause-millisecond c = search rules
