use Rattle.std.proofs.Common.{◌∙◌, ap, refl, Err}
use Rattle.std.proofs.lemmas.Result.{err_from_is_err_and}
use Rattle.cop_dict.proofs.DictLemmas.{follows, stored, grown, refuses}
use Rattle.cop_dict.specs.Dict.{written}
use Rattle.cop_dict.proofs.RuleLemmas.{written_never}
use Rattle.cop_dict.proofs.writing.write_in.Goals as goal

pub returns-clause-exact : goal.returns-clause-exact
returns-clause-exact c =
    stored c.set.result c.args.objects.now c.args.index c.args.sub c.in_ok-place.place c.args.bytes.now c.set.new.self c.index-objects-place.result
    c.requires c.in_ok-place.ensures.inside c.in_ok-place.ensures.place c.in_ok-place.ensures.lawful c.set.ensures.ok c.set.ensures.err c.set.ensures.memory

pub returns-clause-in_place : goal.returns-clause-in_place
returns-clause-in_place c =
    follows c.set.result c.args.objects.now c.args.index c.args.sub c.in_ok-place.place c.args.bytes.now c.set.new.self c.index-objects-place.result
    c.requires c.in_ok-place.ensures.inside c.in_ok-place.ensures.place c.in_ok-place.ensures.lawful c.set.ensures.ok c.set.ensures.in_place

pub returns-clause-memory : goal.returns-clause-memory
returns-clause-memory c =
    grown c.set.result c.args.objects.now c.args.index c.args.sub c.in_ok-place.place c.args.bytes.now c.index-objects-place.result
    c.requires c.in_ok-place.ensures.inside c.in_ok-place.ensures.place c.set.ensures.memory

pub returns-in_err-place-clause-exact : goal.returns-in_err-place-clause-exact
returns-in_err-place-clause-exact c =
    let p = err_from_is_err_and c.from_residual.result c.from_residual.ensures.1 in
    let rule = c.in_err-place.ensures.lawful in
    rw (p.1, p.2) (refuses _ (written c.args.objects.now c.args.index c.args.sub c.args.bytes.now) (written_never c.args.objects.now c.args.index c.args.sub c.args.bytes.now) rule, refl)

pub returns-in_err-place-clause-memory : goal.returns-in_err-place-clause-memory
returns-in_err-place-clause-memory c =
    let p = err_from_is_err_and c.from_residual.result c.from_residual.ensures.1 in
    let rule = c.in_err-place.ensures.lawful in
    rw (p.1, p.2) (λ e. absurd (written_never c.args.objects.now c.args.index c.args.sub c.args.bytes.now (rule ∙ ap Err e)))
