use Rattle.std.proofs.Common.{◌≡◌, ◌∙◌, ◌-◌, arith, ⊎_elim, sym}
use Rattle.std.proofs.lemmas.Bool.{cases_eq}
use Rattle.cop_rta.specs.Test.{is_flagged}
use Rattle.cop_plan.proofs.GreedyLemmas.{count_here, count_skips, count_grows, none_left}
use Rattle.cop_plan.proofs.FillingLemmas.{no_bit}
use Rattle.cop_plan.proofs.filling.last_passing.Goals as goal
use Rattle.cop_plan.proofs.filling.last_passing.Goals.{then-is_left+else-passes, else-is_left}

pub returns-then-passes-clause-rises : goal.returns-then-passes-clause-rises
returns-then-passes-clause-rises c = omega (arith, c.loop-done.invariant.rises)

pub returns-then-passes-clause-trials : goal.returns-then-passes-clause-trials
returns-then-passes-clause-trials c =
    omega (
      arith,
      c.loop-done.invariant.trials,
      count_here c.args.pdos c.loop-done.done (is_flagged c.args.place.now.flags) c.loop-done-test.true
          (sym c.is_left.ensures ∙ c.if-is_left.true),
    )

pub returns-then-passes-clause-flagged : goal.returns-then-passes-clause-flagged
returns-then-passes-clause-flagged c = sym c.is_left.ensures ∙ c.if-is_left.true

pub returns-then-passes-clause-last : goal.returns-then-passes-clause-last
returns-then-passes-clause-last c = λ r inside later flagged passes. c.loop-done.invariant.failed r inside (omega (arith, later, c.loop-done-test.true)) flagged passes

pub loop-done-preserved : goal.loop-done-preserved
loop-done-preserved c = elim c.if-is_left.branch [
  | then-is_left+else-passes w ↦ rw w.count-is (record {
    failed = λ r inside here flagged passes. ⊎_elim
        (λ (same : r ≡ c.args.pdos - 1 - c.loop-done.done). absurd (no_bit w.passes.result (w.passes.ensures.1 (rw same at passes)) w.if-passes.false))
        (λ other. c.loop-done.invariant.failed r inside (omega (arith, here, other)) flagged passes)
        (cases_eq r (c.args.pdos - 1 - c.loop-done.done));
    busy = c.loop-done.invariant.busy;
    rises = omega (arith, c.loop-done.invariant.rises);
    few = omega (arith, c.loop-done.invariant.few);
    trials = omega (
      arith,
      c.loop-done.invariant.trials,
      count_here c.args.pdos c.loop-done.done (is_flagged c.args.place.now.flags) c.loop-done-test.true
          (sym c.is_left.ensures ∙ w.if-is_left.true),
    );
    each = omega (
      arith,
      c.loop-done.invariant.each,
      count_here c.args.pdos c.loop-done.done (is_flagged c.args.place.now.flags) c.loop-done-test.true
          (sym c.is_left.ensures ∙ w.if-is_left.true),
    );
  })
  | else-is_left w ↦ rw w.count-is (record {
    failed = λ r inside here flagged passes. ⊎_elim
        (λ (same : r ≡ c.args.pdos - 1 - c.loop-done.done).
        absurd (no_bit (is_flagged c.args.place.now.flags r) flagged (rw same (sym c.is_left.ensures ∙ w.if-is_left.false))))
        (λ other. c.loop-done.invariant.failed r inside (omega (arith, here, other)) flagged passes)
        (cases_eq r (c.args.pdos - 1 - c.loop-done.done));
    busy = c.loop-done.invariant.busy;
    rises = c.loop-done.invariant.rises;
    few = omega (arith, c.loop-done.invariant.few);
    trials = omega (arith, c.loop-done.invariant.trials, count_grows c.args.pdos c.loop-done.done (is_flagged c.args.place.now.flags));
    each = omega (
      arith,
      c.loop-done.invariant.each,
      count_skips c.args.pdos c.loop-done.done (is_flagged c.args.place.now.flags) c.loop-done-test.true
          (sym c.is_left.ensures ∙ w.if-is_left.false),
    );
  })
]

pub returns-then-passes-clause-one : goal.returns-then-passes-clause-one
returns-then-passes-clause-one c = omega (arith, c.loop-done.invariant.rises)

pub returns-clause-each : goal.returns-clause-each
returns-clause-each c = none_left c.args.pdos c.loop-done.done _ _ (is_flagged c.args.place.now.flags) (omega (arith, c.loop-done-test.false)) c.loop-done.invariant.each
