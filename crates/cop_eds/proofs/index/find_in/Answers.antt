use Rattle.std.proofs.Common.{arith, sym, ◌∙◌}
use Rattle.cop_eds.proofs.IndexLemmas.{found_at, not_found, key_differs}
use Rattle.cop_eds.proofs.index.find_in.Goals as goal

pub returns-then-place-entries : goal.returns-then-place-entries
returns-then-place-entries c = λ text index. sym (not_found text _ _ _ _ index (c.lower_bound-place.ensures index.sorted) (λ d lt e. absurd (omega arith)))

pub returns-then-not-has_key : goal.returns-then-not-has_key
returns-then-not-has_key c = λ text index. sym (not_found text _ _ _ _ index (c.lower_bound-place.ensures index.sorted)
    (key_differs c.args.entries.now c.lower_bound-place.result _ _ (sym c.has_key.ensures ∙ c.if-not-has_key.true)))

pub returns : goal.returns
returns c = λ text index. sym (found_at text _ _ _ _ _ _ index (c.lower_bound-place.ensures index.sorted) c.if-place-entries.false (sym c.has_key.ensures ∙ c.if-not-has_key.false))
