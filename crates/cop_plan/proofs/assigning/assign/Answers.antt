use Rattle.std.proofs.Common.{◌+◌, ◌*◌, arith, length}
use Rattle.std.proofs.lemmas.List.{length-append}
use Rattle.cop_plan.proofs.FillingLemmas.{no_bit}
use Rattle.cop_plan.proofs.AssignLemmas.{passed_over, one_more, all_refused, refused_is_ruled_out, trials_more, busy_more, plan_is, members_push, filled_push}
use Rattle.cop_plan.proofs.MarginOutcome.{plain_order, order_plain}
use Rattle.cop_plan.proofs.assigning.assign.Goals as goal
use Rattle.cop_plan.proofs.assigning.assign.Goals.{then-contains+in_ok-lower+in-Refused+in_ok-push-in-Refused, else-contains}

pub planned-requires-clause-order : goal.planned-requires-clause-order
planned-requires-clause-order c =
    let found = rw c.in-Placed.is at c.in_ok-lower.ensures.found in
    rw (c.deref.ensures.value, c.deref-in-Placed.ensures.value) (order_plain _ c.args.set.now c.args.pdos _ found.order)

pub returns-in-Placed-clause-outcome : goal.returns-in-Placed-clause-outcome
returns-in-Placed-clause-outcome c =
    let made = c.in_ok-plan-in-Placed.ensures in
    let ordered = plain_order _ c.args.set.now c.args.pdos _ made.order in
    plan_is c.args.rates.now c.args.set.now c.args.pdos c.loop-rate.rate-index c.in_ok-plan-in-Placed.plan c.loop-rate.refusals c.requires.can.count c.loop-rate-test.true
    (c.contains.ensures.0 c.if-contains.true) made.rate made.margin made.refusals made.count made.passing ordered made.by_priority made.renamed c.loop-rate.invariant.refused

pub returns-in-Placed-clause-trials : goal.returns-in-Placed-clause-trials
returns-in-Placed-clause-trials c =
    rw c.in_ok-plan-in-Placed.ensures.refusals (trials_more c.loop-rate.count.trials c.at_rate.new.count.trials c.args.count.now.trials (length c.loop-rate.refusals) (3 * (c.args.pdos * (c.args.pdos + 1)))
    c.at_rate.ensures.trials c.loop-rate.invariant.trials)

pub returns-in-Placed-clause-busy : goal.returns-in-Placed-clause-busy
returns-in-Placed-clause-busy c =
    rw c.in_ok-plan-in-Placed.ensures.refusals (busy_more c.loop-rate.count.busy c.at_rate.new.count.busy c.args.count.now.busy (length c.loop-rate.refusals) (3 * c.args.pdos)
    c.at_rate.ensures.busy_most c.loop-rate.invariant.busy)

pub loop-rate-preserved : goal.loop-rate-preserved
loop-rate-preserved c = elim c.if-contains.branch [
  | then-contains+in_ok-lower+in-Refused+in_ok-push-in-Refused w ↦
      let found = rw w.in-Refused.is at w.in_ok-lower.ensures.found in
      let least = rw w.in-Refused.is at w.in_ok-lower.ensures.least in
      let filled = rw w.in-Refused.is at w.in_ok-lower.ensures.busy_least in
      rw (w.count-is, w.refusals-is, w.in_ok-push-in-Refused.ensures.ok) (record {
        refused = one_more c.args.set.now c.args.pdos c.args.rates.now c.loop-rate.rate-index c.loop-rate.refusals w.in-Refused.refusal c.loop-rate-test.true
            (c.contains.ensures.0 w.if-contains.true) found.0 found.1 c.loop-rate.invariant.refused;
        tried = simp length-append (omega (arith, c.loop-rate.invariant.tried));
        rises = omega (arith, c.loop-rate.invariant.rises, w.at_rate.ensures.rises);
        least = rw (members_push c.loop-rate.refusals w.in-Refused.refusal) (omega (arith, c.loop-rate.invariant.least, least));
        busy_rises = omega (arith, c.loop-rate.invariant.busy_rises, w.at_rate.ensures.busy_rises);
        busy = simp length-append (busy_more c.loop-rate.count.busy w.at_rate.new.count.busy c.args.count.now.busy (length c.loop-rate.refusals) (3 * c.args.pdos) w.at_rate.ensures.busy_most c.loop-rate.invariant.busy);
        busy_least = λ some. rw (filled_push c.loop-rate.refusals w.in-Refused.refusal) (omega (arith, c.loop-rate.invariant.busy_least some, filled some));
        trials = simp length-append (trials_more c.loop-rate.count.trials w.at_rate.new.count.trials c.args.count.now.trials (length c.loop-rate.refusals) (3 * (c.args.pdos * (c.args.pdos + 1)))
            w.at_rate.ensures.trials c.loop-rate.invariant.trials);
      })
  | else-contains w ↦ rw (w.count-is, w.refusals-is) (record {
    refused = passed_over c.args.set.now c.args.pdos c.args.rates.now c.loop-rate.rate-index c.loop-rate.refusals c.loop-rate-test.true
        (λ member. no_bit c.contains.result (c.contains.ensures.1 member) w.if-contains.false) c.loop-rate.invariant.refused;
    tried = omega (arith, c.loop-rate.invariant.tried);
    rises = c.loop-rate.invariant.rises;
    least = c.loop-rate.invariant.least;
    busy_rises = c.loop-rate.invariant.busy_rises;
    busy = c.loop-rate.invariant.busy;
    busy_least = c.loop-rate.invariant.busy_least;
    trials = c.loop-rate.invariant.trials;
  })
]

pub returns-clause-outcome : goal.returns-clause-outcome
returns-clause-outcome c =
    let refused = all_refused c.args.set.now c.args.pdos c.args.rates.now c.loop-rate.rate-index c.loop-rate.refusals (omega (arith, c.loop-rate-test.false)) c.loop-rate.invariant.refused in
    record {
      none = refused_is_ruled_out c.args.set.now c.args.pdos _ c.loop-rate.refusals c.requires.can.count refused;
      refused = refused;
    }
