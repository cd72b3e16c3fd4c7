-- A node whose controller does not send its waiting frames by identifier: each may have to wait for all others of the node, and so for every
-- frame that may go before one of these.
use Rattle.std.specs.Prelude.{ℕ, ◌+◌, ◌≡◌, ◌==◌, ◌||◌, nat_le, Bool, false, List, map, All, length, slice_get}
use Rattle.std.specs.Option.{option_map_or}
use Rattle.cop_frame.specs.declared.rates.Rate.{Rate}
use Rattle.cop_rta.specs.declared.streams.Stream.{Stream}
use Rattle.cop_rta.specs.Sums.{max_where}
use Rattle.cop_rta.specs.Test.{StreamPlace, place_among}
use Rattle.cop_rta.specs.Verdict.{IsJudged}
use Rattle.cop_cert.specs.Assignments.{id_at}
use Rattle.cop_rows.specs.declared.pdo_table.PdoRow.{PdoRow}
use Rattle.cop_plan.specs.Values.{PlanValue}
use Rattle.cop_figures.specs.declared.unsorted.Unsorted.{Unsorted}

-- a frame with a fixed identifier that a node sends: its emergency, its SDO response, its heartbeat (CiA 301, section 7.3.3)
abbrev pub is_frame_of : ℕ → ℕ → Bool
is_frame_of node id = id == 0x80 + node || (id == 0x580 + node || id == 0x700 + node)

-- a node sends stream k: a PDO of its rows, which are the first streams, or one of those frames
abbrev pub sends : List PdoRow → List Stream → ℕ → ℕ → Bool
sends rows streams node k = option_map_or (λ row. row.node == node) (slice_get rows k) (is_frame_of node (id_at streams k))

-- the greatest identifier that a node sends
abbrev pub last_id : List PdoRow → List Stream → ℕ → ℕ
last_id rows streams node = max_where (sends rows streams node) (id_at streams) (length streams)

-- stream k has at most this identifier
abbrev pub is_up_to : List Stream → ℕ → ℕ → Bool
is_up_to streams last k = option_map_or (λ s. nat_le s.id last) (slice_get streams k) false

-- the node of a PDO's row
abbrev pub node_at : List PdoRow → ℕ → ℕ
node_at rows pdo = option_map_or (λ row. row.node) (slice_get rows pdo) 0

-- the place of a PDO behind every frame with at most the greatest identifier of its node
abbrev pub place_unsorted : List PdoRow → List Stream → Rate → ℕ → StreamPlace
place_unsorted rows streams rate pdo = place_among streams (is_up_to streams (last_id rows streams (node_at rows pdo))) pdo rate

-- a PDO of a plan, and what the response-time test says of it at that place
abbrev pub IsUnsorted : List PdoRow → PlanValue → Unsorted → Type 0
IsUnsorted rows plan u = IsJudged (place_unsorted rows plan.streams plan.rate u.pdo) u.verdict

-- the PDOs of a plan, that with the lowest identifier first
pub record AreUnsorted (rows : List PdoRow) (plan : PlanValue) (all : List Unsorted) : Type 0 where
  pub pdos : map (λ u. u.pdo) all ≡ plan.order
  pub each : All (IsUnsorted rows plan) all
