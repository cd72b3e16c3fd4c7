use Rattle.std.proofs.Common.{◌∙◌}
use Rattle.cop_scan.proofs.ScanLemmas.{fails_so}
use Rattle.cop_scan.proofs.scanning.scan.Goals as goal

pub returns-clause-failed : goal.returns-clause-failed
returns-clause-failed g c =
    fails_so g.P.Port.reads g.P.Port.writes g.P.Port.asks c.args.rate c.args.pause c.args.nodes.now c.deref.result.now (c.deref.ensures.value ∙ c.in_ok-questions.ensures)
    c.args.port.now c.survey.new.port g.P.Port.fails (rw c.in-Failed.is at c.in_ok-exchanges.ensures.failed)
