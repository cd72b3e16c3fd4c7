-- What a stream can have of its deadline: no identifiers leave it more.
use Rattle.std.specs.Prelude.{◌≡◌, ℕ, ◌-◌, ◌<◌, ◌≤◌, Bool, false, ◌||◌, ◌&&◌, ◌⊎◌, nat_lt, nat_le, if◌then◌else◌, List, length, slice_get, get_or, Option, Some, min}
use Rattle.std.specs.Option.{option_map_or, option_and_then}
use Rattle.cop_frame.specs.declared.rates.Rate.{Rate}
use Rattle.cop_rta.specs.declared.streams.Stream.{Stream}
use Rattle.cop_rta.specs.Test.{StreamPlace, greatest_response}
use Rattle.cop_cert.specs.Assignments.{least_id, id_at}
use Rattle.cop_cert.specs.Sets.{trial}

-- the deadline of stream k, if it has one
abbrev pub deadline_of : List Stream → ℕ → Option ℕ
deadline_of streams k = option_and_then (λ s. s.deadline) (slice_get streams k)

-- the identifiers of SDO frames
abbrev pub is_sdo : ℕ → Bool
is_sdo id = (nat_le 0x581 id && nat_le id 0x5FF) || (nat_le 0x601 id && nat_le id 0x67F)

-- stream k is a PDO or an SDO frame, which is tested where it has a deadline
abbrev pub is_judged : List Stream → ℕ → ℕ → Bool
is_judged streams pdos k = nat_lt k pdos || is_sdo (id_at streams k)

-- the fixed frames with lower identifiers are above a stream in any case: below all that a PDO may have, or below that of the frame
abbrev pub bound_of : List Stream → ℕ → ℕ → ℕ
bound_of streams pdos k = if nat_lt k pdos then least_id else id_at streams k

-- the best place that any identifiers can give a stream: those frames are above it, and no PDO
abbrev pub best_place : Rate → List Stream → ℕ → ℕ → StreamPlace
best_place rate streams pdos k = trial (bound_of streams pdos k) rate streams pdos (λ _. false) k

-- what the greatest response of a place leaves of a deadline, and nothing where there is no response
abbrev pub left_at : StreamPlace → ℕ → ℕ
left_at p deadline = option_map_or (λ response. deadline - response) (greatest_response p) 0

-- The cap of stream k: what its best place leaves of its deadline. A frame that is not tested can have all but a tick; a stream without a
-- deadline has none to give.
unfoldable pub cap_of : Rate → List Stream → ℕ → ℕ → ℕ
cap_of rate streams pdos k =
    option_map_or (λ deadline. if is_judged streams pdos k then left_at (best_place rate streams pdos k) deadline else deadline - 1) (deadline_of streams k) 0

-- some stream can have so much
abbrev pub CanHave : Rate → List Stream → ℕ → ℕ → Type 0
CanHave rate streams pdos margin = (k : ℕ) × (k < length streams) × (margin ≤ cap_of rate streams pdos k)

-- a list of the caps of all streams
pub record AreCaps (rate : Rate) (streams : List Stream) (pdos : ℕ) (caps : List ℕ) : Type 0 where
  pub count : length caps ≡ length streams
  pub each : (k : ℕ) → k < length streams → get_or caps k 0 ≡ cap_of rate streams pdos k

-- the lesser of a margin and a cap
abbrev pub capped : ℕ → (ℕ → ℕ) → ℕ → ℕ
capped margin caps k = min margin (caps k)

-- the greatest of some numbers, and nothing of none
pub record IsGreatestOf (caps : List ℕ) (greatest : ℕ) : Type 0 where
  pub each : (k : ℕ) → k < length caps → get_or caps k 0 ≤ greatest
  pub reached : 1 ≤ greatest → (k : ℕ) × (k < length caps) × (get_or caps k 0 ≡ greatest)

-- the least of a margin and the numbers of the streams that have deadlines
pub record HaveLeast (streams : List Stream) (caps : List ℕ) (margin least : ℕ) : Type 0 where
  pub most : least ≤ margin
  pub each : (k d : ℕ) → deadline_of streams k ≡ Some d → least ≤ get_or caps k 0
  pub reached : (least ≡ margin) ⊎ ((k : ℕ) × (d : ℕ) × (deadline_of streams k ≡ Some d) × (least ≡ get_or caps k 0))
