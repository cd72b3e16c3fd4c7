-- What a boot by a plan makes of the devices of a network.
use Rattle.std.specs.Prelude.{◌≡◌, ◌≤◌, ◌*◌, ℕ, List, length, map, All, Some, Ok}
use Rattle.cop_frame.specs.declared.rates.Rate.{Rate}
use Rattle.cop_dict.specs.Find.{Entry}
use Rattle.cop_dict.specs.Build as describing
use Rattle.cop_rows.specs.declared.node_table.DeviceRow.{DeviceRow}
use Rattle.cop_net.specs.Devices.{File, text_of}
use Rattle.cop_net.specs.Network.{Net, IsNetwork}
use Rattle.cop_dcf.specs.Dcf.{dcf_of}
use Rattle.cop_dcf.specs.Identifiers.{id_at}
use Rattle.cop_dcf.specs.Planned.{settled}
use Rattle.cop_dcf.specs.Settings.{dictionary_of, node_settings}
use Rattle.cop_boot.specs.declared.«end».End.TheVariants.{Ready}
use Rattle.cop_boot.specs.Node.{Node}
use Rattle.cop_boot.specs.Manager.{Managing, node_of, end_at}
use Rattle.cop_boot.specs.Device.{Attached}
use Rattle.cop_boot.specs.Booted.{device_of}
use Rattle.cop_net.specs.Signals.{IsPdoId}
use Rattle.cop_boot.specs.PlannedPdos.{HasPlannedPdos}

-- the nodes of a manager have the settings of a plan with these identifiers for an accepted network, and the dictionary that was
-- built for each is that of its device
pub record IsPlanOf (net : Net) (ids : List ℕ) (m : Managing) (built : ℕ → List Entry) : Type 0 where
  pub network : IsNetwork net
  pub range : All IsPdoId ids
  pub settings : (n : ℕ) (node : Node) → node_of m.nodes n ≡ Some node → node.settings ≡ node_settings net ids n
  pub devices : (n : ℕ) (node : Node) → node_of m.nodes n ≡ Some node → dictionary_of net n ≡ Some (built n)

-- in the device of a node exactly the PDOs of the plan exist, a sender's with its identifier and a receiver's with that of its sender
pub record HasPdosOf (net : Net) (ids : List ℕ) (after : List Attached) (n : ℕ) : Type 0 where
  pub device : Attached
  pub there : device_of after n ≡ Some device
  pub pdos : HasPlannedPdos (id_at net.rows ids n) device.dict

-- and so it is in the device of each node that is ready
abbrev pub HavePlannedPdos : Net → List ℕ → Managing → List Attached → Type 0
HavePlannedPdos net ids later after = (n : ℕ) → end_at later.nodes n ≡ Some Ready → HasPdosOf net ids after n

-- The device of a node has what its DCF says, where that is not too long for a text: the objects and values of the dictionary that
-- it describes, whose values are its initial values too.
pub record HasWhatItsDcfSays (net : Net) (files : List File) (ids : List ℕ) (rate : Rate) (n : ℕ) (row : DeviceRow) (after : List Attached) : Type 0 where
  pub text : List ℕ
  pub from : text_of files row.eds ≡ Some text
  pub device : Attached
  pub there : device_of after n ≡ Some device
  pub says : length (dcf_of text (node_settings net ids n) n row.name rate row.eds) ≤ 4 * 1024 * 1024
      → describing.built (dcf_of text (node_settings net ids n) n row.name rate row.eds) n ≡ Ok (map settled device.dict)
