use Rattle.std.proofs.Common.{◌≡◌, ◌∷◌, List, Result, Err, IfSome, sym, subst, ◌∙◌}
use Rattle.std.specs.Prelude.{MatchResult}
use Rattle.std.proofs.lemmas.Result.{err_from_is_err_and}
use Rattle.cop_cert.specs.Faults.{breach_of}
use Rattle.cop_cert.specs.Plain.{rows_of_text, leads}
use Rattle.cop_cert.specs.declared.faults.Breach.{Breach}
use Rattle.cop_cert.specs.declared.refusals.Refusal.{Refusal}
use Rattle.cop_cert.proofs.PlainLemmas.{first_row, row_taken, row_refused, row_fails}
use Rattle.cop_cert.proofs.plain.take_line.Goals as goal

pub returns-in-Err-clause-leads : goal.returns-in-Err-clause-leads
returns-in-Err-clause-leads c =
    let rows : rows_of_text c.args.text.now ≡ c.cut.new.self ∷ rows_of_text c.behind_line-left.result.now = first_row c.args.text.now c.behind_line-left.result.now c.cut.new.self c.in_ok-len.len c.requires.starts c.requires.some c.in_ok-len.ensures.fields c.in_ok-len.ensures.len c.behind_line-left.ensures.same in
    row_refused c.args.version c.args.place c.args.draft.now c.in-Err.rule c.cut.new.self (rows_of_text c.args.text.now) (rows_of_text c.behind_line-left.result.now) rows (sym c.entry_in.ensures ∙ c.in-Err.is)

pub returns-in_err-take_entry-clause-leads : goal.returns-in_err-take_entry-clause-leads
returns-in_err-take_entry-clause-leads c =
    let rows : rows_of_text c.args.text.now ≡ c.cut.new.self ∷ rows_of_text c.behind_line-left.result.now = first_row c.args.text.now c.behind_line-left.result.now c.cut.new.self c.in_ok-len.len c.requires.starts c.requires.some c.in_ok-len.ensures.fields c.in_ok-len.ensures.len c.behind_line-left.ensures.same in
    let p = err_from_is_err_and c.from_residual-in_err-take_entry.result c.from_residual-in_err-take_entry.ensures.1 in
    rw (p.1, p.2)
    (row_fails c.args.version c.args.place c.args.draft.now c.in-Ok.entry c.cut.new.self (rows_of_text c.args.text.now) (rows_of_text c.behind_line-left.result.now) (breach_of c.in_err-take_entry.field-0.0) rows (sym c.entry_in.ensures ∙ c.in-Ok.is)
    c.in_err-take_entry.ensures)

pub returns-in-Number-clause-leads : goal.returns-in-Number-clause-leads
returns-in-Number-clause-leads c =
    let rows : rows_of_text c.args.text.now ≡ c.cut.new.self ∷ rows_of_text c.behind_line-left.result.now = first_row c.args.text.now c.behind_line-left.result.now c.cut.new.self c.in_ok-len.len c.requires.starts c.requires.some c.in_ok-len.ensures.fields c.in_ok-len.ensures.len c.behind_line-left.ensures.same in
    let first = row_taken c.args.version c.args.place c.args.draft.now c.take_entry.new.draft c.in-Ok.entry c.cut.new.self (rows_of_text c.args.text.now) (rows_of_text c.behind_line-left.result.now) rows (sym c.entry_in.ensures ∙ c.in-Ok.is) c.in_ok-take_entry.ensures in
    subst
    (λ (total : Result (List Refusal) Breach). MatchResult c.take_alike.result (λ r. total ≡ leads c.args.version r.0 c.take_alike.new.draft (rows_of_text r.1.now)) (λ fault. IfSome (breach_of fault) (λ b. total ≡ Err b)))
    (sym first) c.take_alike.ensures.leads

pub returns-in_default-clause-leads : goal.returns-in_default-clause-leads
returns-in_default-clause-leads c =
    let rows : rows_of_text c.args.text.now ≡ c.cut.new.self ∷ rows_of_text c.behind_line-left.result.now = first_row c.args.text.now c.behind_line-left.result.now c.cut.new.self c.in_ok-len.len c.requires.starts c.requires.some c.in_ok-len.ensures.fields c.in_ok-len.ensures.len c.behind_line-left.ensures.same in
    row_taken c.args.version c.args.place c.args.draft.now c.take_entry.new.draft c.in-Ok.entry c.cut.new.self (rows_of_text c.args.text.now) (rows_of_text c.behind_line-left.result.now) rows (sym c.entry_in.ensures ∙ c.in-Ok.is) c.in_ok-take_entry.ensures
