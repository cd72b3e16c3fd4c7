use Rattle.std.proofs.Common.{◌≡◌, ◌<◌, Some, length, get_or, slice_get, arith, rules, subst, ◌∙◌}
use Rattle.std.proofs.lemmas.List.{get_or_default}
use Rattle.std.proofs.lemmas.Option.{slice_get-get_or}
use Rattle.cop_rta.specs.declared.verdicts.Verdict.TheVariants.{Long, Pass}
use Rattle.cop_rta.specs.Test.{StreamPlace, place_by_id}
use Rattle.cop_rta.specs.Verdict.{IsJudged, IsPass}
use Rattle.cop_rta.proofs.VerdictLemmas.{pass_iff}
use Rattle.cop_figures.proofs.times.time_of.Goals as goal

pub returns-clause-timed : goal.returns-clause-timed
returns-clause-timed c =
    let inside : c.args.pdo < length c.args.plan.now.streams = omega (arith, c.requires.pdo, c.streams.ensures.planned.count) in
    let here : slice_get c.args.plan.now.streams c.args.pdo ≡ Some c.index-streams-pdo.result = search (rules, inside, c.index-streams-pdo.is, c.streams.ensures.items, c.streams-streams.ensures.items, slice_get-get_or) in
    let place : StreamPlace = place_by_id c.args.plan.now.streams c.args.pdo c.args.plan.now.rate in
    let passes : IsPass (get_or c.args.verdicts.now c.args.pdo Long) =
    (pass_iff place (get_or c.args.verdicts.now c.args.pdo Long) c.requires.judged).1 (c.streams.ensures.on_time.pass c.args.pdo c.requires.pdo) in
    let same : get_or c.args.verdicts.now c.args.pdo Long ≡ get_or c.args.verdicts.now c.args.pdo (Pass 0) =
    get_or_default c.args.verdicts.now c.args.pdo Long (Pass 0) (omega (arith, inside, c.requires.verdicts)) in
    let is : get_or c.args.verdicts.now c.args.pdo Long ≡ Pass c.response_of.result = same ∙ c.response_of.ensures.pass (subst IsPass same passes) in
    record {
      stream = here;
      id = rw here at (c.streams.ensures.planned.its c.args.pdo c.requires.pdo);
      response = subst (IsJudged place) is c.requires.judged;
    }
