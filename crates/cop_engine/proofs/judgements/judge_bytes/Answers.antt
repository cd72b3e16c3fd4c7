use Rattle.cop_engine.proofs.NetworkLemmas.{err_is}
use Rattle.cop_engine.proofs.JudgementLemmas.{of_network}
use Rattle.cop_engine.proofs.judgements.judge_bytes.Goals as goal

pub returns-in_err-outcome : goal.returns-in_err-outcome
returns-in_err-outcome c =
    err_is c.from_residual.result _ _ c.in_err-outcome.field-0.0 c.from_residual.ensures.1
    (of_network c.args.asked.now c.args.nodes.now c.args.pdos.now _ c.args.trace.now c.in_err-outcome.field-0.0 c.in_err-outcome.ensures)
