use Rattle.std.proofs.Common.{◌≡◌, ◌∙◌, ap, sym, subst, MatchResult, List, is_some}
use Rattle.cop_rta.specs.declared.streams.Stream.{Stream}
use Rattle.cop_rta.specs.Errors.{errors_of}
use Rattle.cop_plan.specs.Values.{PlanValue}
use Rattle.cop_engine.specs.Runs.{IsRun, ExplainsRun}
use Rattle.cop_engine.proofs.RunLemmas.{run_on_plain, run_on_bus, none_told, some_told}
use Rattle.cop_engine.proofs.seeded_runs.run_plan.Goals as goal

pub returns-then-is_none : goal.returns-then-is_none
returns-then-is_none g c =
    let errors = c.errors.ensures ∙ ap errors_of c.streams.ensures.items in
    let none = sym (ap is_some errors) ∙ none_told c.errors.result c.is_none.result c.is_none.ensures c.if-is_none.true in
    subst (λ (p : PlanValue). MatchResult c.run_streams.result (λ r. IsRun p c.args.seed c.args.until r.0.items (g.W.Write.contents c.args.writer) (g.W.Write.contents r.1)) (λ fault. ExplainsRun p c.args.seed c.args.until fault))
    (run_on_plain c.args.plan.now none) c.run_streams.ensures

pub returns : goal.returns
returns g c =
    let errors = c.errors.ensures ∙ ap errors_of c.streams.ensures.items in
    let some = sym (ap is_some errors) ∙ some_told c.errors.result c.is_none.result c.is_none.ensures c.if-is_none.false in
    subst (λ (p : PlanValue). MatchResult c.run_streams-2.result (λ r. IsRun p c.args.seed c.args.until r.0.items (g.W.Write.contents c.args.writer) (g.W.Write.contents r.1)) (λ fault. ExplainsRun p c.args.seed c.args.until fault))
    (run_on_bus c.args.plan.now c.in_ok-bus.bus some c.in_ok-bus.ensures) c.run_streams-2.ensures
