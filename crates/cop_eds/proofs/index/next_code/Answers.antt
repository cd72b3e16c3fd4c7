use Rattle.std.proofs.Common.{◌∷◌, [], arith, subst, sym, ap, ◌∙◌}
use Rattle.cop_eds.specs.Index.{is_found_by}
use Rattle.cop_eds.specs.Lines.{first_from}
use Rattle.cop_eds.proofs.IndexLemmas.{Parts, gap_at, gap, found_code, none_some}
use Rattle.cop_eds.proofs.index.next_code.Goals as goal

pub returns-then-place-entries : goal.returns-then-place-entries
returns-then-place-entries c = λ text index n le.
    gap text c.args.lines.now c.args.entries.now c.args.code n c.lower_bound-place.result index
    (subst (λ key. Parts key c.args.entries.now c.lower_bound-place.result) c.coded_entry.ensures.key (c.lower_bound-place.ensures index.sorted)) le (λ d lt own. absurd (omega arith))

pub returns-then-entry-ne0 : goal.returns-then-entry-ne0
returns-then-entry-ne0 c = λ text index n le.
    gap_at text c.args.lines.now c.args.entries.now c.args.code n c.lower_bound-place.result _ index
    (subst (λ key. Parts key c.args.entries.now c.lower_bound-place.result) c.coded_entry.ensures.key (c.lower_bound-place.ensures index.sorted)) le (λ own. absurd (c.if-entry-ne0.true own))

pub returns-in_err-header : goal.returns-in_err-header
returns-in_err-header c = λ text index.
    let parts : Parts (0 ∷ c.args.code ∷ []) c.args.entries.now c.lower_bound-place.result =
    subst (λ key. Parts key c.args.entries.now c.lower_bound-place.result) c.coded_entry.ensures.key (c.lower_bound-place.ensures index.sorted) in
    let f = found_code text c.args.lines.now c.args.entries.now c.args.code c.lower_bound-place.result _ index parts c.if-place-entries.false c.if-entry-ne0.false in
    absurd (none_some _ (ap (λ key. first_from 1 (is_found_by text key) c.args.lines.now) (sym c.coded_entry-2.ensures.key) ∙ sym (c.in_err-header.ensures text index)) f.1)

pub returns : goal.returns
returns c = λ text index.
    let parts : Parts (0 ∷ c.args.code ∷ []) c.args.entries.now c.lower_bound-place.result =
    subst (λ key. Parts key c.args.entries.now c.lower_bound-place.result) c.coded_entry.ensures.key (c.lower_bound-place.ensures index.sorted) in
    let f = found_code text c.args.lines.now c.args.entries.now c.args.code c.lower_bound-place.result _ index parts c.if-place-entries.false c.if-entry-ne0.false in (
      f.0,
      ap (λ key. first_from 1 (is_found_by text key) c.args.lines.now) (sym c.coded_entry-2.ensures.key) ∙ sym (c.in_ok-header.ensures text index),
      λ n le lt. gap_at text c.args.lines.now c.args.entries.now c.args.code n c.lower_bound-place.result _ index parts le (λ own. lt),
    )
