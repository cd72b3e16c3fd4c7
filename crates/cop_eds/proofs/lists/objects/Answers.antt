use Rattle.std.proofs.Common.{◌≡◌, ◌++◌, length, sym, ap, subst, ◌∙◌}
use Rattle.std.specs.List.{AllByRecursion, flat_map}
use Rattle.std.specs.Ordering.{nat_cmp}
use Rattle.std.specs.BTreeMap.{IsFromIterResult}
use Rattle.std.proofs.lemmas.Result.{err_from_is_err_and}
use Rattle.std.specs.Map.{keys_of, values_of}
use Rattle.cop_eds.specs.Objects.{rising}
use Rattle.cop_eds.proofs.FoundLemmas.{first_fails, second_fails, third_fails, all_listed, all_rise, all_held, parts_inside}
use Rattle.cop_eds.specs.Found.{IsInside, spanned, IsPart}
use Rattle.cop_eds.proofs.MetLemmas.{none_rise, spans_all, spans_keys}
use Rattle.cop_eds.proofs.lists.objects.Goals as goal

pub returns-in_err-listed_in-clause-read : goal.returns-in_err-listed_in-clause-read
returns-in_err-listed_in-clause-read c =
    let p = err_from_is_err_and c.from_residual.result c.from_residual.ensures.1 in
    rw (p.1, p.2) (first_fails c.args.text.now _ c.in_err-listed_in.ensures.added)

pub returns-in_err-listed_in-2-clause-read : goal.returns-in_err-listed_in-2-clause-read
returns-in_err-listed_in-2-clause-read c =
    let p = err_from_is_err_and c.from_residual-in_err-listed_in-2.result c.from_residual-in_err-listed_in-2.ensures.1 in
    rw (p.1, p.2) (second_fails c.args.text.now _ _ c.in_ok-listed_in.ensures.added.1 c.in_err-listed_in-2.ensures.added)

pub returns-in_err-listed_in-3-clause-read : goal.returns-in_err-listed_in-3-clause-read
returns-in_err-listed_in-3-clause-read c =
    let p = err_from_is_err_and c.from_residual-in_err-listed_in-3.result c.from_residual-in_err-listed_in-3.ensures.1 in
    rw (p.1, p.2) (third_fails c.args.text.now _ _ _ c.in_ok-listed_in.ensures.added.1 c.in_ok-listed_in-2.ensures.added.1 c.in_err-listed_in-3.ensures.added)

pub in_order-requires : goal.in_order-requires
in_order-requires c =
    let found = c.listed_in-3.new.found in
    let spans = c.in_ok-spans.spans in
    let made : IsFromIterResult nat_cmp found.parts.items spans = subst (λ parts. IsFromIterResult nat_cmp parts spans) c.deref.ensures.value c.in_ok-spans.ensures in
    let parts = spans_all (IsPart c.args.text.now found.objects.items) found.parts.items spans made c.in_ok-listed_in-3.ensures.sound.parted in
    subst (λ objects. AllByRecursion (IsInside (length objects)) (values_of spans.entries)) (sym c.deref-2.ensures.value)
    (parts_inside c.args.text.now found.objects.items spans.entries parts)

pub returns-clause-read : goal.returns-clause-read
returns-clause-read c =
    (_, all_listed c.args.text.now _ _ _ c.in_ok-listed_in.ensures.added.1 c.in_ok-listed_in-2.ensures.added.1 c.in_ok-listed_in-3.ensures.added.1)

pub returns-clause-held : goal.returns-clause-held
returns-clause-held c =
    let one = c.in_ok-listed_in.ensures.added in
    let two = c.in_ok-listed_in-2.ensures.added in
    let three = c.in_ok-listed_in-3.ensures.added in
    let found = c.listed_in-3.new.found in
    let keys : rising (keys_of found.parts.items) ≡ rising (one.0 ++ two.0 ++ three.0) = all_rise one.0 two.0 three.0 _ _ _ _ (none_rise _ c.new-2.ensures.items) one.2 two.2 three.2 in
    let spans = c.in_ok-spans.spans in
    let made : IsFromIterResult nat_cmp found.parts.items spans = subst (λ parts. IsFromIterResult nat_cmp parts spans) c.deref.ensures.value c.in_ok-spans.ensures in
    let parts = spans_all (IsPart c.args.text.now found.objects.items) found.parts.items spans made c.in_ok-listed_in-3.ensures.sound.parted in
    all_held c.args.text.now (one.0 ++ two.0 ++ three.0) _ found.objects.items spans.entries
    (c.in_ok-in_order.ensures ∙ ap (λ objects. flat_map (spanned objects) (values_of spans.entries)) c.deref-2.ensures.value)
    parts (spans_keys found.parts.items spans made ∙ keys)
    (all_listed c.args.text.now _ _ _ one.1 two.1 three.1)
