use Rattle.std.proofs.Common.{◌≡◌, ◌+◌, ◌∷◌, [], ◌++◌, Ok, length, subst, sym, ap, ◌∙◌, arith}
use Rattle.std.proofs.lemmas.List.{length-append}
use Rattle.std.proofs.lemmas.Result.{err_from_is_err_and}
use Rattle.cop_eds.specs.Lines.{Fails}
use Rattle.cop_eds.specs.Lists.{listed_at}
use Rattle.cop_eds.proofs.FoundLemmas.{fold_push}
use Rattle.cop_eds.proofs.SoundLemmas.{fails}
use Rattle.cop_eds.proofs.StepsLemmas.{goes_on, ends}
use Rattle.cop_eds.proofs.lists.listed_from.Goals as goal

pub returns-in_err-listed_at-clause-added : goal.returns-in_err-listed_at-clause-added
returns-in_err-listed_at-clause-added c =
    let p = err_from_is_err_and c.from_residual.result c.from_residual.ensures.1 in
    let added = c.loop-place.invariant.added in
    let here : Fails c.in_err-listed_at.field-0.0 (listed_at c.args.text.now c.args.list (length added.0 + 1)) =
    subst (λ n. Fails c.in_err-listed_at.field-0.0 (listed_at c.args.text.now c.args.list (n + 1))) (sym added.1) c.in_err-listed_at.ensures.value in
    rw (p.1, p.2) (fails _ _ _ _ _ _ c.loop-place-test.true here added.2)

pub loop-place-preserved : goal.loop-place-preserved
loop-place-preserved c =
    let added = c.loop-place.invariant.added in
    let index = c.in_ok-listed_at.field-0 in
    let here : listed_at c.args.text.now c.args.list (length added.0 + 1) ≡ Ok index =
    ap (λ n. listed_at c.args.text.now c.args.list (n + 1)) added.1 ∙ c.in_ok-listed_at.ensures.value in
    record {
      sound = c.in_ok-listed_at.ensures.sound;
      added = (
        added.0 ++ index ∷ [],
        omega (arith, added.1, length-append added.0 (index ∷ [])),
        goes_on _ _ _ _ _ _ c.loop-place-test.true here added.2,
        fold_push _ _ _ added.0 index added.3 c.in_ok-listed_at.ensures.keys,
      );
    }

pub returns-clause-added : goal.returns-clause-added
returns-clause-added c =
    let added = c.loop-place.invariant.added in
    (added.0, ends _ _ _ _ _ c.loop-place-test.false added.2, added.3)
