-- What the frames to a server ask, by their first byte.
use Rattle.std.specs.Prelude.{ℕ, ◌+◌, ◌-◌, ◌*◌, ◌/◌, ◌%◌, Bool, ◌&&◌, List, take, drop, map, filter, slice_index, ◌==◌, if◌then◌else◌, Option, Some, None}
use Rattle.cop_sdo.specs.declared.address.Address.{Address}
use Rattle.cop_sdo.specs.Message.{Message}

pub data Request : Type 0 where
  -- a download with its bytes
  Give : (at : Address) (bytes : List ℕ) → Request
  -- a download with four bytes, of which as many count as the object is wide
  GiveUnsized : (at : Address) (four : List ℕ) → Request
  -- a download whose bytes come in segments, and its size where it is stated
  Begin : (at : Address) (size : Option ℕ) → Request
  Segment : (toggle : Bool) (bytes : List ℕ) (is_last : Bool) → Request
  -- an upload, and its next segment
  Ask : (at : Address) → Request
  AskSegment : (toggle : Bool) → Request
  -- the client's abort
  Cancel : Request
  Unknown : (at : Address) → Request

abbrev pub is_odd : ℕ → Bool
is_odd n = n % 2 == 1

abbrev pub address_in : List ℕ → Address
address_in body = record { index = slice_index body 1 + 256 * slice_index body 2; sub = slice_index body 3 }

abbrev pub size_in : List ℕ → ℕ
size_in body = slice_index body 4 + 256 * slice_index body 5 + 65536 * slice_index body 6 + 16777216 * slice_index body 7

-- an initiate of a download, by e (bit 1) and s (bit 0)
abbrev pub initiate_of : ℕ → List ℕ → Request
initiate_of first body =
    if is_odd (first / 2)
    then (if is_odd first then Give (address_in body) (take (4 - first / 4 % 4) (drop 4 body)) else GiveUnsized (address_in body) (drop 4 body))
    else Begin (address_in body) (if is_odd first then Some (size_in body) else None)

abbrev pub by_command : ℕ → ℕ → List ℕ → Request
by_command command first body =
    if command == 0 then Segment (is_odd (first / 16)) (take (7 - first / 2 % 8) (drop 1 body)) (is_odd first)
    else if command == 1 then initiate_of first body
    else if command == 2 then Ask (address_in body)
    else if command == 3 then AskSegment (is_odd (first / 16))
    else if command == 4 then Cancel
    else Unknown (address_in body)

-- what eight bytes ask, by the top three bits of the first
abbrev pub request_of : List ℕ → Request
request_of body = by_command (slice_index body 0 / 32) (slice_index body 0) body

-- the server of a node takes frames of 8 bytes with identifier 600h + node, and ignores all others
abbrev pub is_heard : ℕ → Message → Bool
is_heard node frame = (frame.id == 0x600 + node) && (frame.len == 8)

-- what frames ask of the server of a node
abbrev pub requests : ℕ → List Message → List Request
requests node frames = map (λ frame. request_of frame.body) (filter (is_heard node) frames)
