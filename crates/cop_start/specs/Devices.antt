-- The rows of the devices.
use Rattle.std.specs.Prelude.{ℕ, ◌-◌, List, [], ◌∷◌, take, length, nat_lt, if◌then◌else◌}
use Rattle.cop_written.specs.declared.nodes.Device as written
use Rattle.cop_start.specs.Start.{Device}

-- the name of a device is that of its file without the last four bytes, which are .eds
abbrev pub stem : List ℕ → List ℕ
stem file = if nat_lt 4 (length file) then take (length file - 4) file else file

-- each device has its node
abbrev pub devices_of : List Device → List written.Device
devices_of [] = []
devices_of (d ∷ devices) = record { node = d.node; name = stem d.file; eds = d.file } ∷ devices_of devices
