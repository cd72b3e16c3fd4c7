use Rattle.std.proofs.Common.{◌≡◌, drop}
use Rattle.cop_net.specs.Steps.{folded}
use Rattle.cop_net.specs.Devices.{handed_in, text_of, device_added, devices_of}
use Rattle.cop_net.proofs.equipping.supply.Given as goal

abbrev pub invariant-loop-row : goal.invariant-loop-row
invariant-loop-row l = (l.shelf ≡ handed_in l.files) × (folded (device_added (text_of (handed_in l.files))) l.devices (drop l.row-index l.rows) ≡ devices_of l.wanted (handed_in l.files) l.rows)
