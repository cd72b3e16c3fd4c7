use Rattle.std.proofs.Common.{◌∙◌}
use Rattle.cop_commission.proofs.FailureLemmas.{on_err}
use Rattle.cop_verify.proofs.VerifyLemmas.{fails_so, stops_so}
use Rattle.cop_verify.proofs.verifying.verify_nodes.Goals as goal

pub returns-in_err-exchanges-clause-short : goal.returns-in_err-exchanges-clause-short
returns-in_err-exchanges-clause-short g c =
    on_err _ _
    (stops_so g.P.Port.reads g.P.Port.writes g.P.Port.asks c.args.network.now c.args.plan.now.rate c.rate-rate.result c.args.plan.now.ids c.args.nodes.now c.args.pause c.deref.result.now c.rate-rate.ensures (c.deref.ensures.value ∙ c.in_ok-questions.ensures)
    c.args.port.now c.survey.new.port c.in_err-exchanges.ensures.short)

pub returns-clause-verified : goal.returns-clause-verified
returns-clause-verified g c =
    fails_so g.P.Port.reads g.P.Port.writes g.P.Port.asks c.args.network.now c.args.plan.now.rate c.rate-rate.result c.args.plan.now.ids c.args.nodes.now c.args.pause c.deref.result.now c.rate-rate.ensures (c.deref.ensures.value ∙ c.in_ok-questions.ensures)
    c.args.port.now c.survey.new.port g.P.Port.fails (rw c.in-Failed.is at c.in_ok-exchanges.ensures.failed)
