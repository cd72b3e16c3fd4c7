-- Nodes that another plan leaves as they are.
use Rattle.std.specs.Prelude.{◌≡◌, ℕ, List, [], Ok}
use Rattle.cop_frame.specs.declared.rates.Rate.{Rate}
use Rattle.cop_eds.specs.Reading.{reading}
use Rattle.cop_dict.specs.Find.{Entry}
use Rattle.cop_dict.specs.Build.{built}
use Rattle.cop_compare.specs.Differences.{AreDifferences}
use Rattle.cop_rows.specs.declared.node_table.DeviceRow.{DeviceRow}
use Rattle.cop_net.specs.Network.{Net}
use Rattle.cop_dcf.specs.Dcf.{dcf_of}
use Rattle.cop_dcf.specs.Settings.{node_settings}

-- the DCF of a node under a plan with these identifiers and this rate, made of its device's EDS text (CiA 306)
abbrev pub dcf_by : Net → List ℕ → Rate → ℕ → DeviceRow → List ℕ → List ℕ
dcf_by net ids rate node row text = dcf_of text (node_settings net ids node) node row.name rate row.eds

-- two texts that describe the same device for a node: what they describe has no differences
pub record AreSame (old new : List ℕ) (node : ℕ) : Type 0 where
  pub accepted : reading old ≡ Ok old
  pub before : List Entry
  pub described_before : built old node ≡ Ok before
  pub now : List Entry
  pub described_now : built new node ≡ Ok now
  pub none : AreDifferences before now []
