-- What the frames to a client say, by their first byte.
use Rattle.std.specs.Prelude.{ℕ, ◌+◌, ◌-◌, ◌/◌, ◌%◌, Bool, ◌&&◌, List, take, drop, slice_index, ◌==◌, if◌then◌else◌, Option, Some, None}
use Rattle.cop_sdo.specs.declared.address.Address.{Address}
use Rattle.cop_sdo.specs.Message.{Message}
use Rattle.cop_sdo.specs.Request.{is_odd, address_in, size_in}

pub data Reply : Type 0 where
  Confirm : (at : Address) → Reply
  ConfirmSegment : (toggle : Bool) → Reply
  -- a whole value, or the size of one that comes in segments, where it is stated
  Value : (at : Address) (bytes : List ℕ) → Reply
  Size : (at : Address) (size : Option ℕ) → Reply
  Segment : (toggle : Bool) (bytes : List ℕ) (is_last : Bool) → Reply
  Abort : (code : ℕ) → Reply
  Other : Reply

-- an answer to an upload, by e (bit 1) and s (bit 0)
abbrev pub upload_of : ℕ → List ℕ → Reply
upload_of first body =
    if is_odd (first / 2)
    then (if is_odd first then Value (address_in body) (take (4 - first / 4 % 4) (drop 4 body)) else Value (address_in body) (drop 4 body))
    else Size (address_in body) (if is_odd first then Some (size_in body) else None)

abbrev pub reply_by : ℕ → ℕ → List ℕ → Reply
reply_by command first body =
    if command == 0 then Segment (is_odd (first / 16)) (take (7 - first / 2 % 8) (drop 1 body)) (is_odd first)
    else if command == 1 then ConfirmSegment (is_odd (first / 16))
    else if command == 2 then upload_of first body
    else if command == 3 then Confirm (address_in body)
    else if command == 4 then Abort (size_in body)
    else Other

abbrev pub reply_of : List ℕ → Reply
reply_of body = reply_by (slice_index body 0 / 32) (slice_index body 0) body

-- the client of a node takes frames of 8 bytes with identifier 580h + node, and ignores all others
abbrev pub is_answer : ℕ → Message → Bool
is_answer node frame = (frame.id == 0x580 + node) && (frame.len == 8)
