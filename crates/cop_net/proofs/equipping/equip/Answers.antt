use Rattle.std.proofs.lemmas.Result.{err_from_is_err_and}
use Rattle.cop_net.specs.Faults.{refusal}
use Rattle.cop_net.specs.Devices.{text_of, device_added}
use Rattle.cop_net.proofs.FoldLemmas.{goes_on_at, fails_at, ends}
use Rattle.cop_net.proofs.equipping.equip.Goals as goal

pub returns-in_err-add_row : goal.returns-in_err-add_row
returns-in_err-add_row c =
    let p = err_from_is_err_and c.from_residual-in_err-add_row.result c.from_residual-in_err-add_row.ensures.1 in
    rw (p.1, p.2)
    (fails_at (device_added (text_of c.args.files.now)) c.args.rows.now c.loop-row.row-index c.row-item.result c.loop-row.devices (refusal c.in_err-add_row.field-0.0) _
    c.loop-row-test.true c.row-item.is c.loop-row.invariant c.in_err-add_row.ensures)

pub loop-row-preserved : goal.loop-row-preserved
loop-row-preserved c =
    goes_on_at (device_added (text_of c.args.files.now)) c.args.rows.now c.loop-row.row-index c.row-item.result c.loop-row.devices c.add_row.new.devices _
    c.loop-row-test.true c.row-item.is c.in_ok-add_row.ensures c.loop-row.invariant

pub returns : goal.returns
returns c = ends (device_added (text_of c.args.files.now)) c.args.rows.now c.loop-row.row-index c.loop-row.devices _ c.loop-row-test.false c.loop-row.invariant
