use Rattle.std.proofs.Common.{◌≡◌, ◌<◌, ℕ, Bool, true, false, length, get_or, arith, ap, sym, subst, ◌∙◌}
use Rattle.std.proofs.lemmas.List.{get_or_default}
use Rattle.cop_rta.specs.declared.verdicts.Verdict.TheVariants.{Long}
use Rattle.cop_rta.specs.Test.{place_by_id}
use Rattle.cop_rta.specs.Verdict.{IsJudged}
use Rattle.cop_cert.specs.Assignments.{IsTested}
use Rattle.cop_plan.proofs.SamePlace.{same_length}
use Rattle.cop_figures.proofs.BelowLemmas.{frame_below_all}
use Rattle.cop_figures.proofs.FrameLemmas.{timed_at, tested_in, passed_over, one_more}
use Rattle.cop_figures.proofs.frames.frames_of.Goals as goal
use Rattle.cop_figures.proofs.frames.frames_of.Goals.{then-is_tested+in_ok-push, else-is_tested}

no_bit : (b : Bool) → b ≡ true → b ≡ false → ⊥
no_bit b set clear = cc

pub loop-frame-preserved : goal.loop-frame-preserved
loop-frame-preserved c =
    let frame : ℕ = c.loop-frame.frame in
    let same = c.streams-streams.ensures.items ∙ c.streams.ensures.items in
    let has = tested_in c.args.plan.now c.streams-streams.result.now (length c.ids-pdos.result.now) frame same (ap length c.ids-pdos.ensures.ids) in
    let inside : frame < length c.args.set.now = omega (arith, c.loop-frame-test.true, ap length same, same_length c.args.plan.now.streams c.args.set.now c.requires.renamed.timings) in
    let judged : IsJudged (place_by_id c.args.set.now frame c.args.plan.now.rate) (get_or c.in_ok-below_all.below_all.items frame Long) =
    rw c.rate.ensures at (c.in_ok-below_all.ensures.judged frame inside) in
    elim c.if-is_tested.branch [
      | then-is_tested+in_ok-push w ↦
          let tested : IsTested c.args.plan.now.streams (length c.args.plan.now.ids) frame = has.0 (c.is_tested.ensures.0 w.if-is_tested.true) in
          let here : get_or c.in_ok-below_all.below_all.items frame Long ≡ w.frame_time.result.below_all =
          get_or_default c.in_ok-below_all.below_all.items frame Long w.index.result.now (omega (arith, inside, c.in_ok-below_all.ensures.count)) ∙ sym w.index.ensures ∙ sym w.frame_time.ensures.below_all in
          rw (w.frames-is, w.in_ok-push.ensures.items) (
          one_more c.args.set.now c.args.plan.now frame c.loop-frame.frames.items w.frame_time.result w.frame_time.ensures.place
          (timed_at c.args.set.now c.args.plan.now frame w.frame_time.result w.frame_time.ensures.place tested w.frame_time.ensures.stream w.frame_time.ensures.response
          (frame_below_all c.args.set.now c.args.plan.now c.requires.renamed c.requires.provisional frame tested w.frame_time.result.below_all
          (subst (IsJudged (place_by_id c.args.set.now frame c.args.plan.now.rate)) here judged)))
          c.loop-frame.invariant
          )
      | else-is_tested w ↦ rw w.frames-is (
          passed_over c.args.set.now c.args.plan.now frame c.loop-frame.frames.items
          (λ tested. no_bit c.is_tested.result (c.is_tested.ensures.1 (has.1 tested)) w.if-is_tested.false) c.loop-frame.invariant
          )
    ]
