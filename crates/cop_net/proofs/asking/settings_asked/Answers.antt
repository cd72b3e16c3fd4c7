use Rattle.std.proofs.Common.{◌≡◌, Ok, length, sym, ap, ◌∙◌}
use Rattle.std.proofs.lemmas.Bool.{eqb-true}
use Rattle.cop_net.proofs.AskingLemmas.{none_asked}
use Rattle.cop_net.proofs.asking.settings_asked.Goals as goal

pub returns-then-is_empty-clause-value : goal.returns-then-is_empty-clause-value
returns-then-is_empty-clause-value c =
    let none : length c.as_slice-rows.result.now ≡ 0 = eqb-true _ _ (sym c.is_empty.ensures ∙ c.if-is_empty.true) in
    none_asked c.args.row.now.node c.args.dictionary.now c.args.row.now.settings (ap length (sym c.as_slice-rows.ensures.rows) ∙ none) ∙ ap Ok (sym c.new.ensures)
