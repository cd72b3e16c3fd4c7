-- The frames of fixed identifiers (CiA 301, "Pre-defined connection set"), and disturbed transfers.
use Rattle.std.specs.Prelude.{ℕ, zero, suc, ◌≡◌, ◌≤◌, ◌<◌, ◌⊎◌, ◌+◌, ◌*◌, drop, get_or, length, List, [], ◌∷◌, ◌++◌, find, ◌==◌, if◌then◌else◌, option_map, Option, Some, None, IfSome}
use Rattle.cop_rows.specs.declared.node_table.FrameKind.{FrameKind}
use Rattle.cop_rows.specs.declared.node_table.FrameKind.TheVariants as kinds
use Rattle.cop_rows.specs.declared.node_table.FrameRow.{FrameRow}
use Rattle.cop_rows.specs.Nodes.{IsFrameDeadline}
use Rattle.cop_rta.specs.Entries.{Entry}

-- the identifier of node 0's frame of a kind; that of disturbed transfers is above all, where NMT counts as 001h
abbrev pub base_of : FrameKind → ℕ
base_of kinds.Nmt = 0x000
base_of kinds.Sync = 0x080
base_of kinds.Emcy = 0x080
base_of kinds.SdoResponse = 0x580
base_of kinds.SdoRequest = 0x600
base_of kinds.Heartbeat = 0x700
base_of kinds.Errors = 0x000

-- how many data bytes it has; a disturbed transfer counts as a frame of 9, which takes 1 to 166 bits
abbrev pub size_of : FrameKind → ℕ
size_of kinds.Nmt = 2
size_of kinds.Sync = 0
size_of kinds.Emcy = 8
size_of kinds.SdoResponse = 8
size_of kinds.SdoRequest = 8
size_of kinds.Heartbeat = 1
size_of kinds.Errors = 9

-- a microsecond is 4 ticks
abbrev pub ticks : ℕ → ℕ
ticks time = time * 4

abbrev pub frame_stream : FrameRow → Entry
frame_stream row = record {
  id = base_of row.kind + row.node;
  bytes = size_of row.kind;
  period = ticks row.period;
  jitter = ticks row.jitter;
  deadline = option_map ticks row.deadline;
  every = 0;
}

-- the order of the kinds; the row of disturbed transfers stands behind those of all frames
abbrev pub rank_of : FrameKind → ℕ
rank_of kinds.Nmt = 0
rank_of kinds.Sync = 1
rank_of kinds.Emcy = 2
rank_of kinds.SdoResponse = 3
rank_of kinds.SdoRequest = 4
rank_of kinds.Heartbeat = 5
rank_of kinds.Errors = 768

-- the frames stand by rising node, and those of a node by their kinds: first NMT and SYNC, which are node 0's
abbrev pub key_of : FrameRow → ℕ
key_of row = 6 * row.node + rank_of row.kind

-- the stream of a row, where it is there: a frame of period 0 is never sent
abbrev pub sent : Option FrameRow → List Entry
sent None = []
sent (Some row) = if row.period == 0 then [] else frame_stream row ∷ []

-- the streams of so many places in this order, from one on
unfoldable pub streams_from : List FrameRow → ℕ → ℕ → List Entry
streams_from frames key zero = []
streams_from frames key (suc count) = sent (find (λ row. key_of row == key) frames) ++ streams_from frames (key + 1) count

-- the streams of the fixed identifiers: NMT, SYNC, then by rising node EMCY, SDO response, SDO request, heartbeat
unfoldable pub fixed_streams : List FrameRow → List Entry
fixed_streams frames = streams_from frames 0 768

-- NMT, SYNC and disturbed transfers are nobody's, and each other frame is a node's
abbrev pub IsOwner : FrameKind → ℕ → Type 0
IsOwner kinds.Nmt node = node ≡ 0
IsOwner kinds.Sync node = node ≡ 0
IsOwner kinds.Emcy node = 1 ≤ node
IsOwner kinds.SdoResponse node = 1 ≤ node
IsOwner kinds.SdoRequest node = 1 ≤ node
IsOwner kinds.Heartbeat node = 1 ≤ node
IsOwner kinds.Errors node = node ≡ 0

-- the ranges of a row's node and times, in microseconds
pub record IsTimed (row : FrameRow) : Type 0 where
  pub node : row.node ≤ 127
  pub owner : IsOwner row.kind row.node
  pub period : (row.period ≡ 0) ⊎ ((100 ≤ row.period) × (row.period ≤ 60000000))
  pub jitter : row.jitter ≤ 60000000
  pub deadline : IfSome row.deadline (IsFrameDeadline row.kind row.period)

-- a row that says how rare disturbed transfers are, where there are any
pub record IsErrors (row : FrameRow) : Type 0 where
  pub kind : row.kind ≡ kinds.Errors
  pub node : row.node ≡ 0
  pub least : 100 ≤ row.period
  pub most : row.period ≤ 60000000
  pub jitter : row.jitter ≤ 60000000
  pub deadline : row.deadline ≡ None

-- where the search for the row of a place may begin: it finds what it finds from the front
pub record KnowsFrames (places : List ℕ) (frames : List FrameRow) : Type 0 where
  pub size : length places ≡ 769
  pub each : (key : ℕ) → key < 769 → find (λ row. key_of row == key) (drop (get_or places key 0) frames) ≡ find (λ row. key_of row == key) frames
