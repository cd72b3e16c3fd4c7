use Rattle.std.proofs.Common.{[], ◌∙◌}
use Rattle.std.proofs.lemmas.Result.{err_from_is_err_and}
use Rattle.cop_net.specs.Faults.{refusal}
use Rattle.cop_net.specs.Steps.{folded}
use Rattle.cop_net.specs.Asking.{Asked, with_row}
use Rattle.cop_net.proofs.FoldLemmas.{goes_on, fails, ends}
use Rattle.cop_net.proofs.AskingLemmas.{settings_ok, settings_err}
use Rattle.cop_net.proofs.asking.add_rows.Goals as goal

pub returns-in_err-add_row-clause-value : goal.returns-in_err-add_row-clause-value
returns-in_err-add_row-clause-value c =
    let p = err_from_is_err_and c.from_residual.result c.from_residual.ensures.1 in
    let start : Asked = record { dictionary = c.args.dictionary.now; settings = [] } in
    rw (p.1, p.2)
    (settings_err (folded (with_row c.args.node) start c.args.rows.now) (refusal c.in_err-add_row.field-0.0)
    (fails (with_row c.args.node) c.args.rows.now c.loop-row.row-index _ (record { dictionary = c.loop-row.dictionary; settings = c.loop-row.settings })
    (refusal c.in_err-add_row.field-0.0) _ c.loop-row-test.true c.loop-row.invariant.1 c.in_err-add_row.ensures.value))

pub loop-row-preserved : goal.loop-row-preserved
loop-row-preserved c = (
  c.add_row.ensures.initial ∙ c.loop-row.invariant.0,
  goes_on (with_row c.args.node) c.args.rows.now c.loop-row.row-index _ (record { dictionary = c.loop-row.dictionary; settings = c.loop-row.settings })
      (record { dictionary = c.add_row.new.dictionary; settings = c.add_row.new.settings }) _ c.loop-row-test.true c.in_ok-add_row.ensures.value c.loop-row.invariant.1,
)

pub returns-clause-value : goal.returns-clause-value
returns-clause-value c =
    let start : Asked = record { dictionary = c.args.dictionary.now; settings = [] } in
    let last : Asked = record { dictionary = c.loop-row.dictionary; settings = c.loop-row.settings } in
    settings_ok (folded (with_row c.args.node) start c.args.rows.now) last
    (ends (with_row c.args.node) c.args.rows.now c.loop-row.row-index last _ c.loop-row-test.false c.loop-row.invariant.1)
