-- What a server does with one request, by cases.
use Rattle.std.specs.Prelude.{ℕ, ◌≡◌, ◌+◌, Bool, true, false, not, ◌&&◌, ◌||◌, List, [], ◌++◌, length, take, drop, nat_lt, nat_le, if◌then◌else◌, Option, Some, None, Result, Ok, Err, IfOk, IsErr, ◌⊎◌}
use Rattle.std.specs.Bool.{beq}
use Rattle.std.specs.Option.{option_map_or}
use Rattle.cop_dict.specs.declared.abort.Abort.{Abort}
use Rattle.cop_dict.specs.declared.abort.Abort.TheVariants as aborts
use Rattle.cop_dict.specs.Codes.{code_of}
use Rattle.cop_dict.specs.Find.{Entry}
use Rattle.cop_dict.specs.Dict.{◌>>=◌, written, read_of, admitted, HasWidth}
use Rattle.cop_sdo.specs.declared.address.Address.{Address}
use Rattle.cop_sdo.specs.declared.transfer.Transfer.{Transfer}
use Rattle.cop_sdo.specs.declared.transfer.Transfer.TheVariants.{Idle, Download, Upload}
use Rattle.cop_sdo.specs.Request.{Request, Give, GiveUnsized, Begin, Segment, Ask, AskSegment, Cancel, Unknown}
use Rattle.cop_sdo.specs.Service.{narrow}
use Rattle.cop_sdo.specs.Answers.{abort_body, download_answer, segment_answer, size_answer, value_answer, upload_segment}

-- what a server is in the middle of, and the bytes that came, or that are to go
pub record State : Type 0 where
  pub transfer : Transfer
  pub bytes : List ℕ

abbrev pub idle : State
idle = record { transfer = Idle; bytes = [] }

-- what a server is in after a request, what the dictionary is then, and the answer
pub record Moved : Type 0 where
  pub state : State
  pub dict : List Entry
  pub answer : Option (List ℕ)

abbrev pub stays : State → List Entry → List ℕ → Result Moved Abort
stays state dict answer = Ok (record { state = state; dict = dict; answer = Some answer })

-- the bytes of a download are written
abbrev pub stored : List Entry → Address → List ℕ → List ℕ → Result Moved Abort
stored dict at bytes answer = do
  new ← written dict at.index at.sub bytes
  stays idle new answer

abbrev pub is_too_long : Option ℕ → ℕ → Bool
is_too_long size count = nat_lt 65535 count || option_map_or (λ stated. nat_lt stated count) size false

abbrev pub is_too_short : Option ℕ → ℕ → Bool
is_too_short size count = option_map_or (λ stated. nat_lt count stated) size false

abbrev pub begun : List Entry → Address → Option ℕ → Result Moved Abort
begun dict at size = do
  width ← admitted dict at.index at.sub size
  if option_map_or (λ stated. nat_lt 65535 stated) size false then Err aborts.TooLong else stays (record { transfer = Download at size false; bytes = [] }) dict (download_answer at)

-- all bytes so far, after a segment
abbrev pub taken : List Entry → Address → Option ℕ → Bool → List ℕ → Bool → Result Moved Abort
taken dict at size toggle bytes true =
    if is_too_short size (length bytes) then Err aborts.TooShort else stored dict at bytes (segment_answer toggle)
taken dict at size toggle bytes false =
    stays (record { transfer = Download at size (not toggle); bytes = bytes }) dict (segment_answer toggle)

abbrev pub segment_came : State → List Entry → Transfer → Bool → List ℕ → Bool → Result Moved Abort
segment_came state dict (Download at size toggle) t bytes is_last =
    if not (beq t toggle) then Err aborts.Toggle
    else if is_too_long size (length state.bytes + length bytes) then Err aborts.TooLong
    else taken dict at size toggle (state.bytes ++ bytes) is_last
segment_came state dict _ t bytes is_last = Err aborts.Command

-- a value of 1 to 4 bytes is answered at once, another in segments
abbrev pub asked : List Entry → Address → List ℕ → Moved
asked dict at bytes =
    if nat_lt 0 (length bytes) && nat_le (length bytes) 4
    then record { state = idle; dict = dict; answer = Some (value_answer at bytes) }
    else record {
      state = record { transfer = Upload at 0 false; bytes = bytes };
      dict = dict;
      answer = Some (size_answer at (length bytes));
    }

-- the next segment of an upload, at most 7 bytes from a place on
abbrev pub sent_on : State → List Entry → Address → ℕ → Bool → Moved
sent_on state dict at sent toggle =
    if nat_le (length state.bytes) (sent + 7)
    then record { state = idle; dict = dict; answer = Some (upload_segment toggle (drop sent state.bytes) true) }
    else record {
      state = record { transfer = Upload at (sent + 7) (not toggle); bytes = state.bytes };
      dict = dict;
      answer = Some (upload_segment toggle (take 7 (drop sent state.bytes)) false);
    }

abbrev pub segment_asked : State → List Entry → Transfer → Bool → Result Moved Abort
segment_asked state dict (Upload at sent toggle) t =
    if beq t toggle then Ok (sent_on state dict at sent toggle) else Err aborts.Toggle
segment_asked state dict _ t = Err aborts.Command

-- what a server does with a request, or why it aborts
abbrev pub moved : State → List Entry → Request → Result Moved Abort
moved state dict (Give at bytes) = stored dict at bytes (download_answer at)
moved state dict (GiveUnsized at four) = do
  width ← admitted dict at.index at.sub None
  count ← narrow width
  stored dict at (take count four) (download_answer at)
moved state dict (Begin at size) = begun dict at size
moved state dict (Segment toggle bytes is_last) = segment_came state dict state.transfer toggle bytes is_last
moved state dict (Ask at) = do
  bytes ← read_of dict at.index at.sub
  Ok (asked dict at bytes)
moved state dict (AskSegment toggle) = segment_asked state dict state.transfer toggle
moved state dict Cancel = Ok (record { state = idle; dict = dict; answer = None })
moved state dict (Unknown at) = Err aborts.Command

abbrev pub nowhere : Address
nowhere = record { index = 0; sub = 0 }

-- the address of the transfer, or another where none runs
abbrev pub running_at : Transfer → Address → Address
running_at Idle other = other
running_at (Download at size toggle) other = at
running_at (Upload at sent toggle) other = at

-- the address that an abort carries
abbrev pub named : Transfer → Request → Address
named transfer (Give at bytes) = at
named transfer (GiveUnsized at four) = at
named transfer (Begin at size) = at
named transfer (Ask at) = at
named transfer (Unknown at) = running_at transfer at
named transfer _ = running_at transfer nowhere

-- an abort leaves the server idle and the dictionary as it was
abbrev pub settled : List Entry → Address → Result Moved Abort → Moved
settled dict at (Ok moved) = moved
settled dict at (Err abort) = record { state = idle; dict = dict; answer = Some (abort_body at (code_of abort)) }

abbrev pub step : State → List Entry → Request → Moved
step state dict request = settled dict (named state.transfer request) (moved state dict request)

-- a segment that no transfer waits for, or with a wrong toggle, or with too many bytes, or the last with too few
abbrev pub refuses : Transfer → ℕ → Bool → ℕ → Bool → Bool
refuses (Download at size toggle) count t more is_last = not (beq t toggle) || is_too_long size (count + more) || (is_last && is_too_short size (count + more))
refuses _ count t more is_last = true

-- these take no memory: a download in one frame whose object is of fixed width or that is refused, a segment that is refused, an
-- upload in one frame, and all other requests
abbrev pub TakesNoMemory : State → List Entry → Request → Type 0
TakesNoMemory state dict (Give at bytes) = HasWidth dict at.index at.sub ⊎ IsErr (moved state dict (Give at bytes))
TakesNoMemory state dict (GiveUnsized at four) = HasWidth dict at.index at.sub ⊎ IsErr (moved state dict (GiveUnsized at four))
TakesNoMemory state dict (Segment toggle bytes is_last) = refuses state.transfer (length state.bytes) toggle (length bytes) is_last ≡ true
TakesNoMemory state dict (Ask at) = IfOk (read_of dict at.index at.sub) (λ bytes. (nat_lt 0 (length bytes) && nat_le (length bytes) 4) ≡ true)
TakesNoMemory state dict _ = Unit {0}

-- where memory is refused, the server aborts
abbrev pub short_of_memory : State → List Entry → Request → Moved
short_of_memory state dict request = settled dict (named state.transfer request) (Err aborts.NoMemory)

-- what a server may do with a request
pub record MayMove (state : State) (dict : List Entry) (request : Request) (next : Moved) : Type 0 where
  pub either : (next ≡ step state dict request) ⊎ (next ≡ short_of_memory state dict request)
  pub sure : TakesNoMemory state dict request → next ≡ step state dict request
