use Rattle.std.proofs.Common.{◌≡◌, drop}
use Rattle.cop_net.specs.Steps.{folded}
use Rattle.cop_net.specs.Devices.{text_of, device_added, devices_of}
use Rattle.cop_net.proofs.equipping.equip.Given as goal

abbrev pub invariant-loop-row : goal.invariant-loop-row
invariant-loop-row l = folded (device_added (text_of l.files)) l.devices (drop l.row-index l.rows) ≡ devices_of l.wanted l.files l.rows
