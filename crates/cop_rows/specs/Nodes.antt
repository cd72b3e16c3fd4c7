-- The table of nodes.
use Rattle.std.specs.Prelude.{ℕ, ◌≡◌, ◌≢◌, ◌≤◌, ◌%◌, ◌⊎◌, Bool, true, false, IfSome, List, length, All, AllPairs}
use Rattle.std.specs.List.{Any}
use Rattle.cop_rows.specs.declared.node_table.DeviceRow.{DeviceRow}
use Rattle.cop_rows.specs.declared.node_table.FrameRow.{FrameRow}
use Rattle.cop_rows.specs.declared.node_table.FrameKind.{FrameKind}
use Rattle.cop_rows.specs.SettingRows.{AreSettingRows}
use Rattle.cop_rows.specs.declared.node_table.FrameKind.TheVariants.{Nmt, Sync, Emcy, SdoResponse, SdoRequest, Heartbeat, Errors}

-- the device rows and the other rows, each in the order of their records
pub record NodeLists : Type 0 where
  pub devices : List DeviceRow
  pub frames : List FrameRow

-- a device row has this node
abbrev pub HasDevice : List DeviceRow → ℕ → Type 0
HasDevice devices node = Any (λ d. d.node ≡ node) devices

-- the node that a row of a kind may have: NMT, SYNC and disturbed transfers are nobody's
abbrev pub IsNodeOf : List DeviceRow → FrameKind → ℕ → Type 0
IsNodeOf devices Nmt node = node ≡ 0
IsNodeOf devices Sync node = node ≡ 0
IsNodeOf devices Emcy node = HasDevice devices node
IsNodeOf devices SdoResponse node = HasDevice devices node
IsNodeOf devices SdoRequest node = HasDevice devices node
IsNodeOf devices Heartbeat node = HasDevice devices node
IsNodeOf devices Errors node = node ≡ 0

-- only SDO frames may have deadlines
abbrev pub may_have_deadline : FrameKind → Bool
may_have_deadline Nmt = false
may_have_deadline Sync = false
may_have_deadline Emcy = false
may_have_deadline SdoResponse = true
may_have_deadline SdoRequest = true
may_have_deadline Heartbeat = false
may_have_deadline Errors = false

-- a deadline is an SDO frame's that is sent: its time is in microseconds
pub record IsFrameDeadline (kind : FrameKind) (period deadline : ℕ) : Type 0 where
  pub least : 1 ≤ deadline
  pub most : deadline ≤ 60000000
  pub sent : period ≢ 0
  pub allowed : may_have_deadline kind ≡ true

-- what the table says of one frame, or of disturbed transfers: times are in microseconds, and period 0 is a frame that is never sent, or no disturbed transfer
pub record IsFrame (devices : List DeviceRow) (f : FrameRow) : Type 0 where
  pub node : IsNodeOf devices f.kind f.node
  pub period : (f.period ≡ 0) ⊎ ((100 ≤ f.period) × (f.period ≤ 60000000))
  pub milliseconds : f.kind ≡ Heartbeat → f.period % 1000 ≡ 0
  pub jitter : f.jitter ≤ 60000000
  pub deadline : IfSome f.deadline (IsFrameDeadline f.kind f.period)

-- what holds of each table of nodes
pub record IsNodeTable (table : NodeLists) : Type 0 where
  pub some_device : 1 ≤ length table.devices
  pub nodes : All (λ d. (1 ≤ d.node) × (d.node ≤ 127)) table.devices
  pub one_device : AllPairs (λ d e. d.node ≢ e.node) table.devices
  pub settings : All (λ d. AreSettingRows d.settings) table.devices
  pub frames : All (IsFrame table.devices) table.frames
  pub one_row : AllPairs (λ f g. f.kind ≡ g.kind → f.node ≢ g.node) table.frames
