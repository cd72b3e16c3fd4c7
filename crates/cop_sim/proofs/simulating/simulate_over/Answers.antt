use Rattle.std.proofs.Common.{◌∙◌, ◌++◌, ◌∷◌, [], ℕ, List, Bool, Ok, length, refl, ap, subst, arith, length-append}
use Rattle.cop_frame.specs.Rate.{ticks_of}
use Rattle.cop_rta.specs.declared.streams.Stream.{Stream}
use Rattle.cop_sim.specs.Play.{actors_of, IsPartialPlay}
use Rattle.cop_sim.specs.Sinks.{IsCause}
use Rattle.cop_sim.specs.Stages.{at_hand, IsTurned}
use Rattle.cop_sim.proofs.Plays.{nothing-yet}
use Rattle.cop_sim.proofs.Turning.{partial-now}
use Rattle.cop_sim.proofs.Beginning.{first-cause, first-left, err-if, took-one, took-same, left-off}
use Rattle.cop_sim.proofs.simulating.simulate_over.Goals as goal

pub returns-then-len-streams-clause-left : goal.returns-then-len-streams-clause-left
returns-then-len-streams-clause-left g c = ([], nothing-yet (ticks_of c.args.plan.now.rate) (actors_of g.B.Behaviour.offer g.B.Behaviour.agrees c.args.plan.now.streams c.args.behaviours.items) c.args.until, refl)

pub returns-in_err-stage-clause-cause : goal.returns-in_err-stage-clause-cause
returns-in_err-stage-clause-cause g c =
    err-if c.from_residual.result _ c.in_err-stage.field-0.0 c.from_residual.ensures.1
    (first-cause g.B.Behaviour.offer g.B.Behaviour.agrees c.args.plan.now c.args.until c.args.behaviours.items c.args.behaviours.items [] [] c.streams-set.result.now _ _ c.in_err-stage.field-0.0 c.streams-set.ensures.items (let l = c.if-len-streams.false in let n = c.len.ensures in let m = ap (λ (s : List Stream). length s) (c.streams-streams.ensures.items ∙ c.streams-set.ensures.items) in omega (arith, l, n, m)) c.in_err-stage.ensures.fault)

pub returns-in_err-stage-clause-left : goal.returns-in_err-stage-clause-left
returns-in_err-stage-clause-left g c =
    err-if c.from_residual.result _ c.in_err-stage.field-0.0 c.from_residual.ensures.1
    (first-left g.B.Behaviour.offer g.B.Behaviour.agrees c.args.plan.now c.args.until c.args.behaviours.items c.args.behaviours.items [] [] g.S.Sink.takes c.streams-set.result.now c.args.sink.now c.in_err-stage.field-0.0 c.in_err-stage.ensures.fault)

pub turn-requires-clause-early : goal.turn-requires-clause-early
turn-requires-clause-early g c =
    let p = (partial-now g.B.Behaviour.offer g.B.Behaviour.agrees g.S.Sink.takes c.args.plan.now c.args.until c.args.behaviours.items c.loop-turn.behaviours.items (at_hand c.loop-turn.stage) c.loop-turn.invariant.1.0 c.loop-turn.invariant.1.1).within in
    let n = c.loop-turn.invariant.1.1.now_is in
    omega (arith, p, n, c.requires.until)

pub returns-in_err-goes_on-clause-cause : goal.returns-in_err-goes_on-clause-cause
returns-in_err-goes_on-clause-cause g c =
    let f = c.in_err-goes_on.ensures.turned c.args.behaviours.items c.loop-turn.invariant.1.0 c.loop-turn.invariant.1.1 (let n = c.loop-turn.invariant.1.3 in let l = c.loop-turn-test.true in omega (arith, n, l)) in
    err-if c.from_residual-in_err-goes_on.result _ c.in_err-goes_on.field-0.0 c.from_residual-in_err-goes_on.ensures.1
    (subst (λ (n : ℕ). IsCause c.args.plan.now (actors_of g.B.Behaviour.offer g.B.Behaviour.agrees c.args.plan.now.streams c.args.behaviours.items) n c.args.until (g.S.Sink.has_failed c.turn.new.sink) c.in_err-goes_on.field-0.0) (let n = c.loop-turn.invariant.1.1.firsts_are in omega (arith, n)) f.cause)

pub returns-in_err-goes_on-clause-left : goal.returns-in_err-goes_on-clause-left
returns-in_err-goes_on-clause-left g c =
    let f = c.in_err-goes_on.ensures.turned c.args.behaviours.items c.loop-turn.invariant.1.0 c.loop-turn.invariant.1.1 (let n = c.loop-turn.invariant.1.3 in let l = c.loop-turn-test.true in omega (arith, n, l)) in
    err-if c.from_residual-in_err-goes_on.result _ c.in_err-goes_on.field-0.0 c.from_residual-in_err-goes_on.ensures.1
    (left-off g.S.Sink.takes (IsPartialPlay (ticks_of c.args.plan.now.rate) (actors_of g.B.Behaviour.offer g.B.Behaviour.agrees c.args.plan.now.streams c.args.behaviours.items) c.args.until) c.loop-turn.invariant.1.0 c.args.sink.now c.loop-turn.sink c.turn.new.sink c.in_err-goes_on.field-0.0 c.loop-turn.invariant.1.2 f.left)

pub returns-then-not-goes_on-clause-play : goal.returns-then-not-goes_on-clause-play
returns-then-not-goes_on-clause-play g c =
    let t = (subst (λ (b : Bool). IsTurned g.B.Behaviour.offer g.B.Behaviour.agrees g.S.Sink.takes c.args.plan.now c.args.until c.args.behaviours.items c.turn.new.behaviours.items (at_hand c.turn.new.stage) (g.S.Sink.has_failed c.turn.new.sink) c.loop-turn.sink c.turn.new.sink c.loop-turn.invariant.1.0 (Ok b)) c.if-not-goes_on.true (c.in_ok-goes_on.ensures.turned c.args.behaviours.items c.loop-turn.invariant.1.0 c.loop-turn.invariant.1.1 (let n = c.loop-turn.invariant.1.3 in let l = c.loop-turn-test.true in omega (arith, n, l)))) in
    (c.loop-turn.invariant.1.0, t.0, took-same g.S.Sink.takes c.loop-turn.invariant.1.0 c.args.sink.now c.loop-turn.sink c.turn.new.sink c.loop-turn.invariant.1.2 t.1, (let n = c.loop-turn.invariant.1.3 in let l = c.loop-turn-test.true in omega (arith, n, l)))

pub loop-turn-preserved : goal.loop-turn-preserved
loop-turn-preserved g c =
    let t = (subst (λ (b : Bool). IsTurned g.B.Behaviour.offer g.B.Behaviour.agrees g.S.Sink.takes c.args.plan.now c.args.until c.args.behaviours.items c.turn.new.behaviours.items (at_hand c.turn.new.stage) (g.S.Sink.has_failed c.turn.new.sink) c.loop-turn.sink c.turn.new.sink c.loop-turn.invariant.1.0 (Ok b)) c.if-not-goes_on.false (c.in_ok-goes_on.ensures.turned c.args.behaviours.items c.loop-turn.invariant.1.0 c.loop-turn.invariant.1.1 (let n = c.loop-turn.invariant.1.3 in let l = c.loop-turn-test.true in omega (arith, n, l)))) in (
      c.in_ok-goes_on.ensures.works,
      (c.loop-turn.invariant.1.0 ++ t.0 ∷ [], t.1, took-one g.S.Sink.takes c.loop-turn.invariant.1.0 t.0 c.args.sink.now c.loop-turn.sink c.turn.new.sink c.loop-turn.invariant.1.2 t.2, (let n = c.loop-turn.invariant.1.3 in let l = length-append c.loop-turn.invariant.1.0 (t.0 ∷ []) in omega (arith, n, l))),
    )

pub returns-clause-left : goal.returns-clause-left
returns-clause-left g c = (c.loop-turn.invariant.1.0, partial-now g.B.Behaviour.offer g.B.Behaviour.agrees g.S.Sink.takes c.args.plan.now c.args.until c.args.behaviours.items c.loop-turn.behaviours.items (at_hand c.loop-turn.stage) c.loop-turn.invariant.1.0 c.loop-turn.invariant.1.1, c.loop-turn.invariant.1.2)
