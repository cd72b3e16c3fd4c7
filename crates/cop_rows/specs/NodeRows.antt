-- Rows of nodes while their table is read.
use Rattle.std.specs.Prelude.{ℕ, ◌≡◌, ◌≢◌, ◌+◌, ◌*◌, ◌≤◌, ◌%◌, ◌⊎◌, Bool, false, IfSome, List, length, get_or, All, AllPairs}
use Rattle.cop_rows.specs.declared.node_table.FrameRow.{FrameRow}
use Rattle.cop_rows.specs.declared.node_table.DeviceRow.{DeviceRow}
use Rattle.cop_rows.specs.declared.node_table.FrameKind.{FrameKind}
use Rattle.cop_rows.specs.declared.node_table.FrameKind.TheVariants.{Heartbeat}
use Rattle.cop_rows.specs.declared.node_rows.Row.{Row}
use Rattle.cop_rows.specs.declared.node_rows.Row.TheVariants as variants
use Rattle.cop_rows.specs.NodeReading.{has_node, has_device, has_frame, number_of_kind}
use Rattle.cop_rows.specs.Nodes.{NodeLists, IsFrameDeadline}
use Rattle.cop_rows.specs.SettingRows.{AreSettingRows}

-- the ranges of a device's row
pub record IsDeviceRow (d : DeviceRow) : Type 0 where
  pub node_least : 1 ≤ d.node
  pub node_most : d.node ≤ 127
  pub settings : AreSettingRows d.settings

-- the ranges of a frame's row: its times are in microseconds
pub record IsFrameRow (f : FrameRow) : Type 0 where
  pub nobodys : has_node f.kind ≡ false → f.node ≡ 0
  pub node_most : f.node ≤ 127
  pub period : (f.period ≡ 0) ⊎ ((100 ≤ f.period) × (f.period ≤ 60000000))
  pub milliseconds : f.kind ≡ Heartbeat → f.period % 1000 ≡ 0
  pub jitter : f.jitter ≤ 60000000
  pub deadline : IfSome f.deadline (IsFrameDeadline f.kind f.period)

abbrev pub IsRow : Row → Type 0
IsRow (variants.Device d) = IsDeviceRow d
IsRow (variants.Frame f) = IsFrameRow f

-- what holds of the rows before it is known that each has its device row
pub record IsNodeRows (lists : NodeLists) : Type 0 where
  pub nodes : All IsDeviceRow lists.devices
  pub one_device : AllPairs (λ d e. d.node ≢ e.node) lists.devices
  pub frames : All IsFrameRow lists.frames
  pub one_row : AllPairs (λ f g. f.kind ≡ g.kind → f.node ≢ g.node) lists.frames

-- the flag of a frame; that of a device is its node
abbrev pub flag_of : FrameKind → ℕ → ℕ
flag_of kind node = number_of_kind kind * 128 + node

-- flags that tell which rows are there
pub record KnowsRows (flags : List Bool) (lists : NodeLists) : Type 0 where
  pub size : length flags ≡ 1024
  pub devices : (node : ℕ) → node ≤ 127 → get_or flags node false ≡ has_device lists.devices node
  pub frames : (kind : FrameKind) (node : ℕ) → node ≤ 127 → get_or flags (flag_of kind node) false ≡ has_frame lists.frames kind node
