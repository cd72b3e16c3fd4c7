use Rattle.cop_plan.proofs.WritableLemmas.{refusals_writable}
use Rattle.cop_plan.proofs.laws.refusals_are_writable.Goals as goal

pub returns-clause-plan : goal.returns-clause-plan
returns-clause-plan c = λ rates streams pdos plan count few h. refusals_writable streams pdos _ plan.refusals count few h.refused

pub returns-clause-none : goal.returns-clause-none
returns-clause-none c = λ rates streams pdos refusals count few h. refusals_writable streams pdos _ refusals count few h.refused
