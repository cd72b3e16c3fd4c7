use Rattle.std.proofs.Common.{◌<◌, ◌≤◌, arith, length}
use Rattle.std.proofs.lemmas.Result.{err_from_is_err_and}
use Rattle.cop_net.specs.Faults.{refusal}
use Rattle.cop_net.proofs.StrayLemmas.{goes_on, fails, ends}
use Rattle.cop_net.proofs.strays.check_devices.Goals as goal

pub returns-in_err-check_device : goal.returns-in_err-check_device
returns-in_err-check_device c =
    let p = err_from_is_err_and c.from_residual.result c.from_residual.ensures.1 in
    let size = c.nodes-node-end.ensures.places in
    let inside : c.loop-node.node < length c.args.devices.now.devices = omega arith in
    rw (p.1, p.2)
    (fails c.args.frames.now c.args.used.now c.loop-node.node c.args.devices.now.devices _ (refusal c.in_err-check_device.field-0.0) inside c.loop-node.invariant
    (rw c.device.ensures at c.in_err-check_device.ensures))

pub loop-node-preserved : goal.loop-node-preserved
loop-node-preserved c =
    let size = c.nodes-node-end.ensures.places in
    let inside : c.loop-node.node < length c.args.devices.now.devices = omega arith in
    goes_on c.args.frames.now c.args.used.now c.loop-node.node c.args.devices.now.devices _ inside (rw c.device.ensures at c.in_ok-check_device.ensures) c.loop-node.invariant

pub returns : goal.returns
returns c =
    let size = c.nodes-node-end.ensures.places in
    let past : length c.args.devices.now.devices ≤ c.loop-node.node = omega arith in
    ends c.args.frames.now c.args.used.now c.loop-node.node c.args.devices.now.devices _ past c.loop-node.invariant
