use Rattle.std.proofs.Common.{◌<◌, length, arith, subst, sym}
use Rattle.std.proofs.lemmas.Bool.{both_ways}
use Rattle.std.proofs.lemmas.List.{get_or_default}
use Rattle.cop_rta.specs.declared.verdicts.Verdict.{Verdict}
use Rattle.cop_rta.specs.declared.verdicts.Verdict.TheVariants.{Long}
use Rattle.cop_rta.specs.Verdict.{IsPass}
use Rattle.cop_standing.proofs.AnswerLemmas.{one_late, one_fine}
use Rattle.cop_standing.proofs.answers.failing.Goals as goal
use Rattle.cop_standing.proofs.answers.failing.Goals.{then-is_late+in_ok-push, else-is_late}

pub loop-k-preserved : goal.loop-k-preserved
loop-k-preserved c =
    let k = c.loop-k.k in
    let verdicts = c.args.verdicts.now in
    let low : k < length verdicts = omega (arith, c.loop-k-test.true, c.requires) in
    elim c.if-is_late.branch [
      | then-is_late+in_ok-push w ↦
          let its = c.is_late.ensures.0 w.if-is_late.true in
          rw (w.failing-is, w.in_ok-push.ensures.items)
          (one_late c.args.streams.now c.args.pdos verdicts k c.loop-k.failing.items c.loop-k.invariant (record {
            inside = c.loop-k-test.true;
            asked = its.0;
            fails = subst (λ (v : Verdict). IsPass v → ⊥) (sym (get_or_default verdicts k Long _ low)) its.1;
          }))
      | else-is_late w ↦
          rw w.failing-is
          (one_fine c.args.streams.now c.args.pdos verdicts k c.loop-k.failing.items c.loop-k.invariant
          (λ late. both_ways c.is_late.result w.if-is_late.false (c.is_late.ensures.1 (late.asked, subst (λ (v : Verdict). IsPass v → ⊥) (get_or_default verdicts k Long _ low) late.fails))))
    ]
