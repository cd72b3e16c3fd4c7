-- What holds of all transfers.
use Rattle.std.specs.Prelude.{◌≡◌, ℕ, ◌+◌}
use Rattle.cop_sdo.specs.Message.{Message}

-- a frame goes to the SDO server of a node (CiA 301, "SDO": the identifier 600h + node, 8 bytes)
abbrev pub IsTo : ℕ → Message → Type 0
IsTo node frame = (frame.id ≡ 0x600 + node) × (frame.len ≡ 8)
