use Rattle.std.proofs.Common.{◌≡◌, Err, arith, sym, ap, ◌∙◌}
use Rattle.std.proofs.lemmas.Result.{err_from_is_err_and}
use Rattle.cop_eds.specs.Steps.{each}
use Rattle.cop_eds.specs.Lists.{subs_of, described_sub}
use Rattle.cop_eds.proofs.SubsLemmas.{sub_passes, sub_stops, no_subs, held_goes, held_skips}
use Rattle.cop_eds.proofs.objects.read_subs.Goals as goal
use Rattle.cop_eds.proofs.objects.read_subs.Goals.{then-holds_subs+in_ok-push_object, else-holds_subs}

pub returns-in_err-description-clause-value : goal.returns-in_err-description-clause-value
returns-in_err-description-clause-value c =
    let p = err_from_is_err_and c.from_residual.result c.from_residual.ensures.1 in
    let stops : each (described_sub c.args.text.now) (subs_of c.args.text.now c.args.index) ≡ Err c.in_err-description.field-0.0 =
    sym c.loop-sub.invariant.checked ∙ ap (each (described_sub c.args.text.now)) c.in-Some.ensures.2 ∙ sub_stops _ _ _ _ _ (sym c.described.ensures ∙ c.in_err-description.was) in
    rw (p.1, p.2) stops

pub loop-sub-preserved : goal.loop-sub-preserved
loop-sub-preserved c = record {
  checked = sym (sub_passes _ _ _ _ _ (sym c.described.ensures ∙ c.in_ok-description.was))
      ∙ ap (each (described_sub c.args.text.now)) (sym c.in-Some.ensures.2) ∙ c.loop-sub.invariant.checked;
  found = elim c.if-holds_subs.branch [
    | then-holds_subs+in_ok-push_object w ↦ held_goes _ _ _ _ _ _ _ _ _ _ _ w.if-holds_subs.true (sym c.described.ensures ∙ c.in_ok-description.was) c.in-Some.ensures.2
        (ap (λ objects. objects.items) w.objects-is ∙ w.in_ok-push_object.ensures) c.loop-sub.invariant.found
    | else-holds_subs w ↦ held_skips _ _ _ _ _ _ _ _ w.if-holds_subs.false (ap (λ objects. objects.items) w.objects-is) c.loop-sub.invariant.found
  ];
  inside = omega (arith, c.in-Some.ensures.1);
}

pub returns-clause-value : goal.returns-clause-value
returns-clause-value c = sym c.loop-sub.invariant.checked ∙ ap (each (described_sub c.args.text.now)) c.in_default.ensures ∙ no_subs c.args.text.now
