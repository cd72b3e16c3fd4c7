use Rattle.std.proofs.Common.{◌≡◌, ◌↔◌, sym, ◌∙◌, Contains, subst, true, Ok, Err}
use Rattle.std.proofs.lemmas.Result.{err_from_is_err_and}
use Rattle.cop_frame.specs.declared.rates.Rate.{Rate}
use Rattle.cop_frame.specs.RateSet.{all_rates}
use Rattle.cop_eds.specs.Steps.{each}
use Rattle.cop_eds.specs.Rates.{rate_in}
use Rattle.cop_eds.proofs.StepsLemmas.{each_goes, each_stops, each_ends}
use Rattle.cop_eds.proofs.RateLemmas.{found_more, all_found}
use Rattle.cop_eds.proofs.rates.rates.Goals as goal

pub returns-in_err-is_supported-clause-err : goal.returns-in_err-is_supported-clause-err
returns-in_err-is_supported-clause-err c =
    let p = err_from_is_err_and c.from_residual.result c.from_residual.ensures.1 in
    rw (p.1, p.2) (subst (λ info. each (rate_in c.args.text.now info) all_rates ≡ Err c.in_err-is_supported.field-0.0) c.named-info.ensures
    (each_stops (rate_in c.args.text.now c.named-info.result) all_rates c.loop-rate.rate-index _ _ _ c.loop-rate-test.true
    (sym c.rate_in.ensures ∙ c.in_err-is_supported.was) c.loop-rate.invariant.checked))

pub loop-rate-preserved : goal.loop-rate-preserved
loop-rate-preserved c = record {
  checked = each_goes (rate_in c.args.text.now c.named-info.result) all_rates c.loop-rate.rate-index _ _ _ c.loop-rate-test.true
      (sym c.rate_in.ensures ∙ c.in_ok-is_supported.was) c.loop-rate.invariant.checked;
  found = found_more (rate_in c.args.text.now c.named-info.result) all_rates c.loop-rate.rate-index _ _ _ _ c.loop-rate-test.true
      (sym c.rate_in.ensures ∙ c.in_ok-is_supported.was) c.loop-rate.invariant.found c.insert_if.ensures;
}

pub returns-clause-ok : goal.returns-clause-ok
returns-clause-ok c =
    subst (λ info. (each (rate_in c.args.text.now info) all_rates ≡ Ok tt) × ((r : Rate) → Contains c.loop-rate.rates r ↔ (rate_in c.args.text.now info r ≡ Ok true))) c.named-info.ensures (
      each_ends (rate_in c.args.text.now c.named-info.result) all_rates c.loop-rate.rate-index _ c.loop-rate-test.false c.loop-rate.invariant.checked,
      λ r. all_found (rate_in c.args.text.now c.named-info.result) c.loop-rate.rate-index _ c.loop-rate-test.false c.loop-rate.invariant.found r,
    )
