-- The DCF files of a plan.
use Rattle.std.specs.Prelude.{◌≡◌, ◌≤◌, ◌*◌, length, ℕ, zero, suc, ◌/◌, ◌%◌, ◌==◌, List, [], ◌++◌, codes, decimal, find, option_map, Option, Some, Ok, All}
use Rattle.std.specs.Option.{option_map_or, option_to_list}
use Rattle.cop_eds.specs.Reading.{reading}
use Rattle.cop_rows.specs.declared.node_table.DeviceRow.{DeviceRow}
use Rattle.cop_net.specs.Devices.{File, text_of}
use Rattle.cop_net.specs.Network.{Net}
use Rattle.cop_plan.specs.Values.{PlanValue}
use Rattle.cop_plan.specs.declared.assigning.Outcome.{Outcome}
use Rattle.cop_plan.specs.declared.assigning.Outcome.TheVariants.{Planned, Refused}
use Rattle.cop_dict.specs.Find.{Entry}
use Rattle.cop_dcf.specs.Settings.{dictionary_of, node_settings}
use Rattle.cop_dcf.specs.Dcf.{dcf_of}
use Rattle.cop_dcf.specs.Planned.{IsReadAgain}

-- the file's name: `node-005.dcf`, with three digits
abbrev pub dcf_name : ℕ → List ℕ
dcf_name node = codes "node-" ++ (decimal (node / 100) ++ (decimal (node / 10 % 10) ++ (decimal (node % 10) ++ codes ".dcf")))

-- the text of a device's EDS file: of two files with one name the first counts
abbrev pub eds_text : List File → DeviceRow → List ℕ
eds_text eds row = option_map_or (λ text. text) (text_of eds row.eds) []

-- the DCF file of a device's node: its EDS text, with what the plan sets in the node
abbrev pub dcf_file : List File → Net → PlanValue → DeviceRow → File
dcf_file eds net plan row = record {
  name = dcf_name row.node;
  text = dcf_of (eds_text eds row) (node_settings net plan.ids row.node) row.node row.name plan.rate row.eds;
}

-- the row of a node's device
abbrev pub device_row : List DeviceRow → ℕ → Option DeviceRow
device_row rows node = find (λ row. row.node == node) rows

-- the DCF file of a node, where it has a device
abbrev pub dcf_at : List File → Net → PlanValue → ℕ → Option File
dcf_at eds net plan node = option_map (dcf_file eds net plan) (device_row net.nodes.devices node)

-- the DCF files of the nodes below a number, by rising node
unfoldable pub dcfs_below : List File → Net → PlanValue → ℕ → List File
dcfs_below eds net plan zero = []
dcfs_below eds net plan (suc node) = dcfs_below eds net plan node ++ option_to_list (dcf_at eds net plan node)

-- the DCF files of a plan, one for each device, by rising node; none where no rate passes
abbrev pub dcfs_of : List File → Net → Outcome → List File
dcfs_of eds net (Planned plan) = dcfs_below eds net plan 128
dcfs_of eds net (Refused refusals) = []

-- a device has an EDS text, which is accepted
abbrev pub HasText : List File → DeviceRow → Type 0
HasText eds row = (text : List ℕ) × (text_of eds row.eds ≡ Some text) × (reading text ≡ Ok text)

abbrev pub HaveTexts : List File → List DeviceRow → Type 0
HaveTexts eds rows = All (HasText eds) rows

-- The DCF file of a node, where it is not too long for a text, is accepted and says the planned dictionary: that of the
-- device with the last value of each of the node's settings.
pub record IsFileReadAgain (net : Net) (plan : PlanValue) (node : ℕ) (file : File) : Type 0 where
  pub dict : List Entry
  pub dictionary : dictionary_of net node ≡ Some dict
  pub again : length file.text ≤ 4 * 1024 * 1024 → IsReadAgain file.text node dict (node_settings net plan.ids node)

abbrev pub AreReadAgain : List File → Net → Outcome → Type 0
AreReadAgain eds net (Planned plan) = (node : ℕ) (file : File) → dcf_at eds net plan node ≡ Some file → IsFileReadAgain net plan node file
AreReadAgain eds net (Refused refusals) = Unit {0}
