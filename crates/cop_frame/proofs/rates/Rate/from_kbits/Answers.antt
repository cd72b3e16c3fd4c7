use Rattle.std.proofs.Common.{rules}
use Rattle.cop_frame.proofs.rates.Rate.from_kbits.Goals as goal

-- written here so that a body that breaks it is refused at once
pub returns-in_default-clause-none : goal.returns-in_default-clause-none
returns-in_default-clause-none c = search rules
