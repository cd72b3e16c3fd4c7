use Rattle.std.proofs.Common.{◌++◌, ℕ, List, sym, ap, ◌∙◌, refl, arith}
use Rattle.std.proofs.lemmas.List.{append-nil}
use Rattle.cop_engine.specs.PlanTexts.{pdo_line_at}
use Rattle.cop_rta.specs.Verdict.{response_of}
use Rattle.cop_engine.proofs.ReportsLemmas.{lines_none}
use Rattle.cop_engine.proofs.PlanTextLemmas.{pdo_found, pdos_more, same_verdict}
use Rattle.cop_rta.specs.declared.verdicts.Verdict.TheVariants.{Long}
use Rattle.cop_engine.proofs.plan_texts.push_pdos.Goals as goal

pub loop-k-init : goal.loop-k-init
loop-k-init c =
    sym (ap (λ (lines : List ℕ). c.args.text.now.items ++ lines) (lines_none (pdo_line_at c.args.rows.now c.args.ids.now c.args.verdicts.now)) ∙ append-nil c.args.text.now.items)

pub loop-k-preserved : goal.loop-k-preserved
loop-k-preserved c =
    c.in_ok-push_pdo.ensures
    ∙ pdos_more c.args.text.now.items c.loop-k.text.items c.args.rows.now c.args.ids.now c.args.verdicts.now c.loop-k.k _ c.loop-k.invariant
    (pdo_found c.args.rows.now c.args.ids.now c.args.verdicts.now c.loop-k.k _ c.index-rows-k.result _ c.loop-k-test.true c.index-rows-k.is refl
    (c.response_of.ensures.value ∙ ap response_of (same_verdict c.args.verdicts.now c.loop-k.k _ Long (omega (arith, c.loop-k-test.true, c.requires.verdicts)))))
