use Rattle.cop_engine.proofs.LawLemmas.{one_report}
use Rattle.cop_engine.proofs.laws.one_report.Goals as goal

pub returns : goal.returns
returns c = one_report
