use Rattle.std.proofs.Common.{◌≡◌, arith, sym, ap, ◌∙◌, Some, get_or, true}
use Rattle.std.specs.Option.{option_map}
use Rattle.cop_eds.specs.declared.description.Object.{Object}
use Rattle.cop_eds.specs.Objects.{is_at}
use Rattle.cop_eds.proofs.ListLemmas.{get_or_same}
use Rattle.cop_eds.proofs.SearchLemmas.{object_here, none_at}
use Rattle.cop_eds.proofs.objects.object_in.Goals as goal

pub returns-in_err-object : goal.returns-in_err-object
returns-in_err-object c = λ sorted.
    rw c.from_residual.ensures
    (ap (option_map (λ (o : Object). o.place.section)) (sym (none_at c.args.objects.now c.args.index c.args.sub c.count_before-place.result sorted
    (c.count_before-place.ensures sorted) (λ d lt. absurd (omega (arith, c.in_err-object.ensures.lookup.3))))))

pub returns-else-is_at : goal.returns-else-is_at
returns-else-is_at c = λ sorted.
    let object = c.in_ok-object.object.now in
    ap (option_map (λ (o : Object). o.place.section)) (sym (none_at c.args.objects.now c.args.index c.args.sub c.count_before-place.result sorted
    (c.count_before-place.ensures sorted)
    (λ d lt. ap (is_at c.args.index c.args.sub) (get_or_same c.args.objects.now c.count_before-place.result object d lt ∙ sym c.in_ok-object.ensures.lookup.1)
    ∙ sym c.is_at.ensures ∙ c.if-is_at.false)))

pub returns-then-is_at : goal.returns-then-is_at
returns-then-is_at c = λ sorted.
    let object = c.in_ok-object.object.now in
    let at : object ≡ get_or c.args.objects.now c.count_before-place.result object = c.in_ok-object.ensures.lookup.1 in
    let here : is_at c.args.index c.args.sub (get_or c.args.objects.now c.count_before-place.result object) ≡ true =
    ap (is_at c.args.index c.args.sub) (sym at) ∙ sym c.is_at.ensures ∙ c.if-is_at.true in
    ap (λ (o : Object). Some o.place.section) at
    ∙ ap (option_map (λ (o : Object). o.place.section)) (sym (object_here c.args.objects.now c.args.index c.args.sub c.count_before-place.result object sorted
    c.in_ok-object.ensures.lookup.3.0 here))
