use Rattle.cop_rta.proofs.VerdictLemmas.{judged_same}
use Rattle.cop_rta.proofs.laws.one_verdict.Goals as goal

pub returns : goal.returns
returns c = judged_same
