use Rattle.std.proofs.Common.{◌∙◌, ap, sym, Some}
use Rattle.std.proofs.lemmas.Result.{err_from_is_err_and}
use Rattle.cop_dict.proofs.DictLemmas.{written_found, written_absent, written_broken}
use Rattle.cop_dict.proofs.writing.writable_in.Goals as goal

pub returns-in_err-place-clause-lawful : goal.returns-in_err-place-clause-lawful
returns-in_err-place-clause-lawful c =
    let p = err_from_is_err_and c.from_residual.result c.from_residual.ensures.1 in
    rw (p.1, p.2) (written_absent _ _ _ _ _ c.in_err-place.ensures.absent)

pub returns-in-Some-clause-lawful : goal.returns-in-Some-clause-lawful
returns-in-Some-clause-lawful c =
    let o = c.index-objects-place.result in
    written_broken c.args.objects.now c.args.index c.args.sub c.args.bytes.now o _ c.in-Some.abort
    (c.in_ok-place.ensures.found o ∙ ap Some (sym c.index-objects-place.is)) c.description.ensures (sym c.in-Some.ensures.value)

pub returns-in-Some-refused_by_pdos-clause-lawful : goal.returns-in-Some-refused_by_pdos-clause-lawful
returns-in-Some-refused_by_pdos-clause-lawful c =
    let o = c.index-objects-place.result in
    written_found c.args.objects.now c.args.index c.args.sub c.args.bytes.now o _ _
    (c.in_ok-place.ensures.found o ∙ ap Some (sym c.index-objects-place.is)) c.description.ensures (sym c.in_default.ensures.value) (sym c.in-Some-refused_by_pdos.ensures)

pub returns-in-None-clause-lawful : goal.returns-in-None-clause-lawful
returns-in-None-clause-lawful c =
    let o = c.index-objects-place.result in
    written_found c.args.objects.now c.args.index c.args.sub c.args.bytes.now o _ _
    (c.in_ok-place.ensures.found o ∙ ap Some (sym c.index-objects-place.is)) c.description.ensures (sym c.in_default.ensures.value) (sym c.in-None.ensures)
