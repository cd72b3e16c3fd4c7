use Rattle.std.proofs.Common.{◌≡◌, ◌<◌, ◌≤◌, length, true≢false, refl, sym, subst, arith, ⊎_elim}
use Rattle.std.proofs.lemmas.Bool.{cases_lt}
use Rattle.std.proofs.lemmas.List.{get_or_default}
use Rattle.cop_rta.specs.declared.verdicts.Verdict.TheVariants.{Long}
use Rattle.cop_rta.specs.Test.{place_by_id}
use Rattle.cop_rta.specs.Verdict.{IsJudged}
use Rattle.cop_room.specs.Keeping.{IsKept}
use Rattle.cop_room.proofs.TrialLemmas.{one_kept, all_kept}
use Rattle.cop_room.proofs.trials.first_failing.Goals as goal

pub returns-then-not-is_kept-clause-exact : goal.returns-then-not-is_kept-clause-exact
returns-then-not-is_kept-clause-exact c = λ rate judged all.
    let index = c.loop-index.index in
    let verdicts = c.args.verdicts.now in
    let low : index < length verdicts = omega (arith, c.loop-index-test.true, c.requires.verdicts) in
    let its = c.if-not-is_kept.ensures rate (subst (IsJudged (place_by_id c.args.streams.now index rate)) (get_or_default verdicts index Long _ low) (judged index c.loop-index-test.true)) in
    true≢false (sym (its.1 (one_kept rate c.args.pdos c.args.streams.now index all)))

pub loop-index-preserved : goal.loop-index-preserved
loop-index-preserved c = λ rate judged k lt.
    let index = c.loop-index.index in
    let verdicts = c.args.verdicts.now in
    let low : index < length verdicts = omega (arith, c.loop-index-test.true, c.requires.verdicts) in
    let its = c.if-not-is_kept.ensures rate (subst (IsJudged (place_by_id c.args.streams.now index rate)) (get_or_default verdicts index Long _ low) (judged index c.loop-index-test.true)) in
    ⊎_elim
    (λ (before : k < index). c.loop-index.invariant rate judged k before)
    (λ (from : index ≤ k). let same : index ≡ k = omega (arith, from, lt) in subst (IsKept rate c.args.pdos c.args.streams.now) same (its.0 refl))
    (cases_lt k index)

pub returns-clause-exact : goal.returns-clause-exact
returns-clause-exact c = λ rate judged.
    all_kept rate c.args.pdos c.args.streams.now c.requires.count (λ k lt. c.loop-index.invariant rate judged k (omega (arith, lt, c.loop-index-test.false)))
