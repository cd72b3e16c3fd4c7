-- The times of the nodes' heartbeats.
use Rattle.std.specs.Prelude.{ℕ, ◌+◌, ◌*◌, ◌/◌, ◌==◌, List, find, Option, Some, None}
use Rattle.cop_rows.specs.declared.node_table.FrameRow.{FrameRow}
use Rattle.cop_rows.specs.declared.node_table.FrameKind.TheVariants.{Heartbeat}
use Rattle.cop_net.specs.Fixed.{key_of, rank_of}

-- the time of a row in milliseconds, 0 where it is not there
abbrev pub time_in : Option FrameRow → ℕ
time_in None = 0
time_in (Some row) = row.period / 1000

-- the time of a node's heartbeat, in ms
abbrev pub heartbeat_of : List FrameRow → ℕ → ℕ
heartbeat_of frames node = time_in (find (λ row. key_of row == 6 * node + rank_of Heartbeat) frames)
