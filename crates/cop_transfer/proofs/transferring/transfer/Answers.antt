use Rattle.std.proofs.Common.{inl}
use Rattle.cop_transfer.proofs.transferring.transfer.Goals as goal

pub returns-in-Failed-clause-failed : goal.returns-in-Failed-clause-failed
returns-in-Failed-clause-failed g c = inl c.in-Failed.ensures.failed
