use Rattle.std.proofs.Common.{◌≡◌, ◌+◌, length, sym, ◌∙◌, arith}
use Rattle.std.proofs.lemmas.Result.{err_from_is_err_and}
use Rattle.cop_table.proofs.RowsLemmas.{goes_on, fails}
use Rattle.cop_rows.specs.SettingReading.{added}
use Rattle.cop_rows.specs.Refusals.{refusal}
use Rattle.cop_rows.proofs.settings.settings_under.Goals as goal

pub rows-preserved : goal.rows-preserved
rows-preserved c =
    let next = rw c.if-branch.true at c.in_ok-read.ensures.next in
    let count : length c.rows.rows ≡ length c.read.new.self + 1 = rw next (omega arith) in (
      omega (arith, c.rows.invariant.0, count),
      sym (goes_on added (c.rows.place + 1) c.rows.nodes _ _ c.read.new.self c.rows.rows next c.in_ok-add.ensures) ∙ c.rows.invariant.1,
    )

pub returns-in_err-add : goal.returns-in_err-add
returns-in_err-add c =
    let next = rw c.if-branch.true at c.in_ok-read.ensures.next in
    let p = err_from_is_err_and c.from_residual-in_err-add.result c.from_residual-in_err-add.ensures.1 in
    rw (p.1, p.2) (fails added (c.rows.place + 1) c.rows.nodes (refusal c.in_err-add.field-0.0) _ c.read.new.self c.rows.rows _ next c.rows.invariant.1 c.in_err-add.ensures)
