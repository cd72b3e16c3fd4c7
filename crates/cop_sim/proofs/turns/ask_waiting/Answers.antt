use Rattle.std.proofs.Common.{arith}
use Rattle.cop_sim.specs.Stages.{at_hand}
use Rattle.cop_sim.proofs.Asking.{cued-more, cue-fault}
use Rattle.cop_sim.proofs.Beginning.{err-if}
use Rattle.cop_sim.proofs.turns.ask_waiting.Goals as goal

pub loop-i-preserved : goal.loop-i-preserved
loop-i-preserved g c =
    let w = c.loop-i.invariant in
    cued-more g.B.Behaviour.offer g.B.Behaviour.agrees c.args.until c.args.streams.now (at_hand c.args.stage.now) (at_hand c.loop-i.stage) c.args.behaviours.now.items c.loop-i.behaviours.items c.loop-i.i w c.index-streams-i.result c.index-streams-i.is
    (at_hand c.ask_waiting_at.new.stage) c.ask_waiting_at.new.behaviours.items c.in_ok-ask_waiting_at.ensures.stage
    (let m = w.many in let n = c.requires.behaviours in let l = c.loop-i-test.true in omega (arith, m, n, l))
    (let m = w.long in let n = c.requires.sized.next in let l = c.loop-i-test.true in omega (arith, m, n, l)) c.in_ok-ask_waiting_at.ensures.asked

pub returns-in_err-ask_waiting_at-clause-fault : goal.returns-in_err-ask_waiting_at-clause-fault
returns-in_err-ask_waiting_at-clause-fault g c =
    let f = c.in_err-ask_waiting_at.ensures.fault in
    err-if c.from_residual.result _ c.in_err-ask_waiting_at.field-0.0 c.from_residual.ensures.1
    (cue-fault g.B.Behaviour.offer g.B.Behaviour.agrees c.args.until c.args.streams.now (at_hand c.args.stage.now) (at_hand c.loop-i.stage) c.args.behaviours.now.items c.loop-i.behaviours.items c.loop-i.i c.loop-i.invariant c.index-streams-i.result c.index-streams-i.is
    c.in_err-ask_waiting_at.field-0.0 c.loop-i-test.true f.0 f.1 f.2 f.3)
