use Rattle.std.proofs.Common.{ℕ, ◌≡◌, ◌∙◌, ◌^◌, ◌<◌, ◌≤◌, arith, sym, inl, inr, le_refl, ⊎_elim}
use Rattle.std.proofs.lemmas.Bool.{cases_lt}
use Rattle.cop_rta.proofs.LeastLemmas.{no_steps, steps_more, steps_end}
use Rattle.cop_rta.proofs.solve.seek_least.Goals as goal

pub loop-time-init : goal.loop-time-init
loop-time-init g c = record {
  climb = record { started = le_refl c.args.from; rises = c.requires; passed_none = λ y start e. start };
  steps = no_steps (g.D.Demand.demand c.args.demand.now) c.args.from c.args.limit;
}

pub loop-time-preserved : goal.loop-time-preserved
loop-time-preserved g c =
    let f : ℕ → ℕ = g.D.Demand.demand c.args.demand.now in
    let here : c.at-next.result ≡ f c.loop-time.time = c.at-next.ensures in
    let up : c.loop-time.time < f c.loop-time.time = omega (arith, c.loop-time.invariant.climb.rises, c.if-next-time.false, here) in
    let further : f c.loop-time.time ≤ f c.at-next.result = g.met.D.Demand.never_falls c.args.demand.now c.loop-time.time c.at-next.result (omega (arith, up, here)) (omega arith) in
    record {
      climb = record {
        started = omega (arith, c.loop-time.invariant.climb.started, up, here);
        rises = omega (arith, here, further);
        passed_none = λ y start e.
            ⊎_elim
            (λ (low : y < 2 ^ 64). omega (arith, here, e, g.met.D.Demand.never_falls c.args.demand.now c.loop-time.time y (c.loop-time.invariant.climb.passed_none y start e) low))
            (λ (high : 2 ^ 64 ≤ y). omega arith)
            (cases_lt y (2 ^ 64));
      };
      steps = rw here (steps_more f c.args.from c.args.limit c.loop-time.steps c.loop-time.time c.loop-time.invariant.steps c.loop-time-test.true up);
    }

pub returns-then-next-time-clause-steps : goal.returns-then-next-time-clause-steps
returns-then-next-time-clause-steps g c =
    steps_end (g.D.Demand.demand c.args.demand.now) c.args.from c.args.limit c.loop-time.steps c.loop-time.time c.loop-time.invariant.steps (inr (sym c.if-next-time.true ∙ c.at-next.ensures))

pub returns-clause-steps : goal.returns-clause-steps
returns-clause-steps g c =
    steps_end (g.D.Demand.demand c.args.demand.now) c.args.from c.args.limit c.loop-time.steps c.loop-time.time c.loop-time.invariant.steps (inl (omega arith))
