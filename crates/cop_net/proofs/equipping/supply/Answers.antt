use Rattle.std.proofs.Common.{◌∙◌}
use Rattle.std.proofs.lemmas.Result.{err_from_is_err_and}
use Rattle.cop_net.specs.Faults.{refusal}
use Rattle.cop_net.specs.Devices.{handed_in, text_of, device_added}
use Rattle.cop_net.proofs.FoldLemmas.{goes_on_at, fails_at, ends}
use Rattle.cop_net.proofs.equipping.supply.Goals as goal

pub returns-in_err-supply_row : goal.returns-in_err-supply_row
returns-in_err-supply_row c =
    let p = err_from_is_err_and c.from_residual-in_err-supply_row.result c.from_residual-in_err-supply_row.ensures.1 in
    rw (p.1, p.2)
    (fails_at (device_added (text_of (handed_in c.args.files.now))) c.args.rows.now c.loop-row.row-index c.row-item.result c.loop-row.devices (refusal c.in_err-supply_row.field-0.0) _
    c.loop-row-test.true c.row-item.is c.loop-row.invariant.1 (rw c.loop-row.invariant.0 at c.in_err-supply_row.ensures.row))

pub loop-row-preserved : goal.loop-row-preserved
loop-row-preserved c = (
  c.supply_row.ensures.files ∙ c.loop-row.invariant.0,
  goes_on_at (device_added (text_of (handed_in c.args.files.now))) c.args.rows.now c.loop-row.row-index c.row-item.result c.loop-row.devices c.supply_row.new.devices _
      c.loop-row-test.true c.row-item.is (rw c.loop-row.invariant.0 at c.in_ok-supply_row.ensures.row) c.loop-row.invariant.1,
)

pub returns : goal.returns
returns c = ends (device_added (text_of (handed_in c.args.files.now))) c.args.rows.now c.loop-row.row-index c.loop-row.devices _ c.loop-row-test.false c.loop-row.invariant.1
