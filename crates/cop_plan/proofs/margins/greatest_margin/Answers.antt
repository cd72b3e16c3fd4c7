use Rattle.std.proofs.Common.{◌+◌, ◌-◌, ◌*◌, ◌/◌, ◌<◌, ◌≤◌, refl, arith}
use Rattle.cop_plan.proofs.MarginSteps.{greatest_most, none_above, can_have, halvings_begin, halved, halvings_left}
use Rattle.cop_plan.proofs.margins.greatest_margin.Goals as goal

pub overflow_add-above : goal.overflow_add-above
overflow_add-above c =
    let most = greatest_most c.args.rate c.args.set.now c.args.pdos c.args.caps.now c.requires.caps c.greatest_of-above.result c.greatest_of-above.ensures in
    omega (arith, most)

pub loop-above-init : goal.loop-above-init
loop-above-init c =
    let most = greatest_most c.args.rate c.args.set.now c.args.pdos c.args.caps.now c.requires.caps c.greatest_of-above.result c.greatest_of-above.ensures in
    record {
      apart = omega arith;
      most = omega (arith, most);
      within = λ margin lt some. can_have c.args.rate c.args.set.now c.args.pdos c.args.caps.now c.requires.caps c.greatest_of-above.result c.greatest_of-above.ensures margin (omega (arith, lt)) some;
      fails = none_above c.args.rate c.args.set.now c.args.pdos c.args.caps.now c.requires.caps c.greatest_of-above.result c.greatest_of-above.ensures;
      kept = refl;
      rises = omega arith;
      trials = halvings_begin _ (2 * c.args.count.now.trials) (3 * (c.args.pdos * (c.args.pdos + 1))) (omega (arith, most));
      busy_rises = omega arith;
      busy = halvings_begin _ c.args.count.now.busy (3 * c.args.pdos) (omega (arith, most));
    }

pub returns-in_err-kept-clause-trials : goal.returns-in_err-kept-clause-trials
returns-in_err-kept-clause-trials c =
    let wide : 1 < c.loop-above.above - c.loop-above.margin = c.loop-above-test.true in
    halvings_left _ (2 * c.loop-above.count.trials) (2 * c.keeping.new.count.trials) _ (3 * (c.args.pdos * (c.args.pdos + 1))) wide c.keeping.ensures.trials c.loop-above.invariant.trials

pub returns-in_err-kept-clause-busy : goal.returns-in_err-kept-clause-busy
returns-in_err-kept-clause-busy c =
    let wide : 1 < c.loop-above.above - c.loop-above.margin = c.loop-above-test.true in
    halvings_left _ c.loop-above.count.busy c.keeping.new.count.busy _ (3 * c.args.pdos) wide c.keeping.ensures.busy c.loop-above.invariant.busy

pub loop-above-preserved-in-Some : goal.loop-above-preserved-in-Some
loop-above-preserved-in-Some c =
    let gap = c.loop-above.above - c.loop-above.margin in
    let middle = c.loop-above.margin + gap / 2 in
    let wide : 1 < gap = c.loop-above-test.true in
    let half : (c.loop-above.above - middle) * 2 ≤ gap + 1 = omega arith in
    record {
      apart = omega (arith, wide);
      most = c.loop-above.invariant.most;
      within = c.loop-above.invariant.within;
      fails = c.loop-above.invariant.fails;
      kept = rw c.in-Some.is at c.in_ok-kept.ensures.kept;
      rises = omega (arith, c.loop-above.invariant.rises, c.keeping.ensures.rises);
      trials = halved gap _ (2 * c.loop-above.count.trials) (2 * c.keeping.new.count.trials) _ (3 * (c.args.pdos * (c.args.pdos + 1))) wide half c.keeping.ensures.trials c.loop-above.invariant.trials;
      busy_rises = omega (arith, c.loop-above.invariant.busy_rises, c.keeping.ensures.busy_rises);
      busy = halved gap _ c.loop-above.count.busy c.keeping.new.count.busy _ (3 * c.args.pdos) wide half c.keeping.ensures.busy c.loop-above.invariant.busy;
    }

pub loop-above-preserved : goal.loop-above-preserved
loop-above-preserved c =
    let gap = c.loop-above.above - c.loop-above.margin in
    let middle = c.loop-above.margin + gap / 2 in
    let wide : 1 < gap = c.loop-above-test.true in
    let half : (middle - c.loop-above.margin) * 2 ≤ gap + 1 = omega arith in
    let failed = rw c.in-None.is at c.in_ok-kept.ensures.kept in
    record {
      apart = omega (arith, wide);
      most = omega (arith, wide, c.loop-above.invariant.most);
      within = λ margin lt some. c.loop-above.invariant.within margin (omega (arith, lt, wide)) some;
      fails = failed;
      kept = c.loop-above.invariant.kept;
      rises = omega (arith, c.loop-above.invariant.rises, c.keeping.ensures.rises);
      trials = halved gap _ (2 * c.loop-above.count.trials) (2 * c.keeping.new.count.trials) _ (3 * (c.args.pdos * (c.args.pdos + 1))) wide half c.keeping.ensures.trials c.loop-above.invariant.trials;
      busy_rises = omega (arith, c.loop-above.invariant.busy_rises, c.keeping.ensures.busy_rises);
      busy = halved gap _ c.loop-above.count.busy c.keeping.new.count.busy _ (3 * c.args.pdos) wide half c.keeping.ensures.busy c.loop-above.invariant.busy;
    }

pub returns-clause-greatest : goal.returns-clause-greatest
returns-clause-greatest c = record {
  possible = λ some. c.loop-above.invariant.within c.loop-above.margin (omega (arith, c.loop-above.invariant.apart)) some;
  greatest = λ more lt can. c.loop-above.invariant.fails more (omega (arith, lt, c.loop-above.invariant.apart, c.loop-above-test.false)) can;
}
