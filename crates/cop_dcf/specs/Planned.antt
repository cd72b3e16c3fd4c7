-- The planned dictionary of a node, and what its DCF says when it is read again.
use Rattle.std.specs.Prelude.{◌≡◌, ◌≤◌, ◌*◌, ℕ, ◌==◌, if◌then◌else◌, List, length, map, codes, decimal, Some, None, Ok}
use Rattle.cop_frame.specs.declared.rates.Rate.{Rate}
use Rattle.cop_frame.specs.Rate.{kbits_of}
use Rattle.cop_eds.specs.Text.{trim}
use Rattle.cop_eds.specs.Sections.{section_of, value_in}
use Rattle.cop_eds.specs.Reading.{reading}
use Rattle.cop_dict.specs.Find.{Entry}
use Rattle.cop_dict.specs.Build.{built}
use Rattle.cop_rows.specs.declared.node_table.DeviceRow.{DeviceRow}
use Rattle.cop_net.specs.Devices.{File, text_of}
use Rattle.cop_net.specs.Network.{Net}
use Rattle.cop_setup.specs.declared.setting.Setting.{Setting}
use Rattle.cop_dcf.specs.Dcf.{dcf_of}
use Rattle.cop_setup.specs.Settings.{planned}
use Rattle.cop_dcf.specs.Settings.{dictionary_of, node_settings}

-- an entry whose initial value is the one that it has
abbrev pub settled : Entry → Entry
settled entry = record entry { initial = entry.value }

-- The DCF, where it is not too long for a text, is accepted, and the dictionary that it describes is the planned one,
-- whose values are its initial values too.
pub record IsReadAgain (dcf : List ℕ) (node : ℕ) (dict : List Entry) (settings : List Setting) : Type 0 where
  pub accepted : reading dcf ≡ Ok dcf
  pub dictionary : built dcf node ≡ Ok (map settled (planned dict settings))

-- What the DCF says of itself (CiA 306): the number of its node and the rate in kbit/s, in decimal digits, and the name of the EDS file that it
-- was made of, without blanks at its ends.
pub record SaysNode (dcf : List ℕ) (node : ℕ) (rate : Rate) (eds_name : List ℕ) : Type 0 where
  pub device : ℕ
  pub commissioning : section_of dcf (codes "DeviceComissioning") ≡ Some device
  pub node_id : value_in dcf device (codes "NodeID") ≡ Some (decimal node)
  pub baudrate : value_in dcf device (codes "Baudrate") ≡ Some (decimal (kbits_of rate))
  pub file : ℕ
  pub info : section_of dcf (codes "FileInfo") ≡ Some file
  pub origin : value_in dcf file (codes "LastEDS") ≡ (if length (trim eds_name) == 0 then None else Some (trim eds_name))

-- The same of a node of a network, whose device's text is one of some files and whose PDOs have these identifiers: its
-- dictionary is the planned one.
pub record IsNodeReadAgain (net : Net) (files : List File) (ids : List ℕ) (rate : Rate) (node : ℕ) (row : DeviceRow) : Type 0 where
  pub text : List ℕ
  pub there : text_of files row.eds ≡ Some text
  pub dict : List Entry
  pub dictionary : dictionary_of net node ≡ Some dict
  pub again : length (dcf_of text (node_settings net ids node) node row.name rate row.eds) ≤ 4 * 1024 * 1024
      → IsReadAgain (dcf_of text (node_settings net ids node) node row.name rate row.eds) node dict (node_settings net ids node)
