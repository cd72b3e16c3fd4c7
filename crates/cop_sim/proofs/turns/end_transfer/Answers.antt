use Rattle.std.proofs.Common.{◌∙◌, ap, sym, subst, None}
use Rattle.cop_sim.specs.Syncs.{SyncsValue, is_noted}
use Rattle.cop_sim.specs.Stages.{at_hand, CueFault}
use Rattle.cop_sim.proofs.Asking.{asked-fault}
use Rattle.cop_sim.proofs.Beginning.{err-if}
use Rattle.cop_sim.proofs.turns.end_transfer.Goals as goal

pub returns-in_err-ask_waiting-clause-fault : goal.returns-in_err-ask_waiting-clause-fault
returns-in_err-ask_waiting-clause-fault g c =
    err-if c.from_residual-in_err-ask_waiting.result _ c.in_err-ask_waiting.field-0.0 c.from_residual-in_err-ask_waiting.ensures.1
    (asked-fault g.B.Behaviour.offer g.S.Sink.takes c.args.until c.args.streams.now c.args.at c.args.id (at_hand c.args.stage.now) c.args.behaviours.now.items c.args.sink.now c.hand.new.sink c.in_err-ask_waiting.field-0.0
    (ap (λ (v : SyncsValue). is_noted v c.args.id) (sym c.in_ok-ended.ensures) ∙ sym c.is_noted.ensures ∙ c.if-is_noted.true) c.in_ok-hand.ensures.taken
    (subst (λ (v : SyncsValue). CueFault g.B.Behaviour.offer c.args.until c.args.streams.now (record (at_hand c.args.stage.now) { running = None; now = c.args.at; syncs = v }) c.args.behaviours.now.items c.in_err-ask_waiting.field-0.0) c.in_ok-ended.ensures c.in_err-ask_waiting.ensures.fault))
