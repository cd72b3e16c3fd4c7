use Rattle.std.proofs.Common.{arith, sym, ap, ◌∙◌}
use Rattle.std.proofs.lemmas.List.{get_or_default}
use Rattle.cop_dict.specs.Find.{is_at}
use Rattle.cop_dict.proofs.SearchLemmas.{none_at}
use Rattle.cop_dict.proofs.search.place_of.Goals as goal

pub returns-in_err-object-clause-absent : goal.returns-in_err-object-clause-absent
returns-in_err-object-clause-absent c =
    rw c.from_residual.ensures
    (none_at c.args.objects.now c.args.index c.args.sub c.count_before-place.result c.requires c.count_before-place.ensures.parted
    (λ d lt. absurd (omega (arith, c.in_err-object.ensures.lookup.3))))

pub returns-else-is_at-clause-absent : goal.returns-else-is_at-clause-absent
returns-else-is_at-clause-absent c =
    let dict = c.args.objects.now in
    let place = c.count_before-place.result in
    let object = c.in_ok-object.object.now in
    none_at dict c.args.index c.args.sub place c.requires c.count_before-place.ensures.parted
    (λ d lt. ap (is_at c.args.index c.args.sub) (get_or_default dict place d object lt ∙ sym c.in_ok-object.ensures.lookup.1)
    ∙ sym c.is_at.ensures ∙ c.if-is_at.false)
