use Rattle.std.proofs.Common.{◌∙◌, ap, sym, Ok, Some}
use Rattle.std.proofs.lemmas.Result.{err_from_is_err_and}
use Rattle.cop_dict.proofs.DictLemmas.{read_found, read_absent}
use Rattle.cop_dict.proofs.writing.read_in.Goals as goal

pub returns-in_err-place : goal.returns-in_err-place
returns-in_err-place c =
    let p = err_from_is_err_and c.from_residual.result c.from_residual.ensures.1 in
    rw (p.1, p.2) (read_absent _ _ _ _ c.in_err-place.ensures.absent)

pub returns-in-Some : goal.returns-in-Some
returns-in-Some c =
    let o = c.index-objects-place.result in
    read_found c.args.objects.now c.args.index c.args.sub o _ _ (c.in_ok-place.ensures.found o ∙ ap Some (sym c.index-objects-place.is)) c.description.ensures (sym c.in-Some.ensures)

pub returns-in-None : goal.returns-in-None
returns-in-None c =
    let o = c.index-objects-place.result in
    read_found c.args.objects.now c.args.index c.args.sub o _ _ (c.in_ok-place.ensures.found o ∙ ap Some (sym c.index-objects-place.is)) c.description.ensures (sym c.in-None.ensures)
    ∙ ap Ok (sym c.value.ensures.value)
