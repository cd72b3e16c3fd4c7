use Rattle.std.proofs.Common.{◌∙◌, sym, ap, map, refl, subst, List}
use Rattle.cop_rta.specs.Streams.{AreDistinct}
use Rattle.cop_rta.specs.declared.streams.Stream.{Stream}
use Rattle.cop_sim.specs.Drawing.{fresh}
use Rattle.cop_engine.proofs.RunLemmas.{cause_explains, writing_explains, run_is, each_arm}
use Rattle.cop_engine.proofs.seeded_runs.run_streams.Goals as goal

pub returns-in-Err : goal.returns-in-Err
returns-in-Err g c =
    let made = c.in_ok-behaviours.ensures ∙ ap (λ (xs : List Stream). map (fresh c.args.seed) xs) (c.streams-2.ensures.items ∙ c.streams.ensures.items) in
    rw c.fault_of.ensures (cause_explains c.args.plan.now c.args.seed c.args.until c.seeded_obeys.ensures (subst AreDistinct (c.streams-2.ensures.items ∙ c.streams.ensures.items) c.streams-2.ensures.distinct) c.in_ok-behaviours.behaviours.items _ c.in-Err.fault made c.in-Err.ensures.cause)

pub returns-in-Ok : goal.returns-in-Ok
returns-in-Ok g c =
    let made = c.in_ok-behaviours.ensures ∙ ap (λ (xs : List Stream). map (fresh c.args.seed) xs) (c.streams-2.ensures.items ∙ c.streams.ensures.items) in
    each_arm c.finish.result _ _ _ _
    (λ r f. run_is c.args.plan.now c.args.seed c.args.until g.W.Write.contents c.in_ok-behaviours.behaviours.items c.args.writer r.1 _ _ r.0.items made (c.new.ensures (sym c.failed.ensures ∙ c.if-failed.false)) refl c.in-Ok.ensures.play f)
    (writing_explains c.args.plan.now c.args.seed c.args.until) c.finish.ensures
