-- A record of a trace.
use Rattle.std.specs.Prelude.{replicate, ℕ, ◌-◌, ◌^◌, Bool, not, ◌&&◌, List, ◌++◌, length, codes, ◌==◌, nat_le, nat_lt, if◌then◌else◌, Option, Some, None, Result, Ok, Err}
use Rattle.std.specs.Str.{bytes_eq}
use Rattle.hex.specs.Hex.{decode_of}
use Rattle.hex.specs.declared.error.FromHexError.{FromHexError}
use Rattle.cop_table.specs.Reading.{◌>>=◌}
use Rattle.cop_table.specs.Records.{field}
use Rattle.cop_table.specs.Numbers.{number_of, is_hexadecimal, id_of}
use Rattle.cop_bus.specs.Format.{Fields}
use Rattle.cop_bus.specs.declared.steps.Content.{Content}
use Rattle.cop_bus.specs.declared.steps.Step.TheVariants.{Queue, Start, End}
use Rattle.cop_bus.specs.declared.entries.Entry.{Entry}
use Rattle.cop_bus.specs.declared.entries.Entry.TheVariants.{Taken, Until}
use Rattle.cop_bus.specs.declared.entries.EntryFault.{EntryFault}
use Rattle.cop_bus.specs.declared.entries.EntryFault.TheVariants.{Malformed}

abbrev pub or_malformed : {A : Type 0} → Option A → Result A EntryFault
or_malformed None = Err Malformed
or_malformed (Some x) = Ok x

-- a number of 1 to 20 digits that fits 64 bits
abbrev pub number_in : List ℕ → Result ℕ EntryFault
number_in text = or_malformed (number_of 20 text)

-- one below a bound
abbrev pub if_below : ℕ → ℕ → Result ℕ EntryFault
if_below bound n = if nat_lt n bound then Ok n else Err Malformed

-- decimal digits, or 0x and hexadecimal digits
abbrev pub id_number : List ℕ → Result ℕ EntryFault
id_number text = if is_hexadecimal text then or_malformed (id_of text) else number_in text

-- an identifier, which has 16 bits
abbrev pub id_in : List ℕ → Result ℕ EntryFault
id_in text = id_number text >>= if_below (2 ^ 16)

-- a length, which has 32 bits
abbrev pub bits_in : List ℕ → Result ℕ EntryFault
bits_in text = number_in text >>= if_below (2 ^ 32)

-- a frame of so many bits and of these data bytes; those after them are 0
abbrev pub content_of : ℕ → List ℕ → Content
content_of bits bytes = record { bits = bits; body = bytes ++ replicate (8 - length bytes) 0; len = length bytes }

abbrev pub with_bytes : ℕ → Result (List ℕ) FromHexError → Result Content EntryFault
with_bytes bits (Ok bytes) = Ok (content_of bits bytes)
with_bytes bits (Err e) = Err Malformed

-- at most 8 bytes, as pairs of hexadecimal digits
abbrev pub content_in : ℕ → List ℕ → Result Content EntryFault
content_in bits text = if nat_le (length text) 16 then with_bytes bits (decode_of text) else Err Malformed

-- the fields of a queue step's instance are empty
abbrev pub are_empty : Fields → Bool
are_empty row = (length (field row 3) == 0) && (length (field row 4) == 0) && (length (field row 5) == 0)

abbrev pub queued : ℕ → ℕ → Fields → Result Entry EntryFault
queued at id row = do
  event ← number_in (field row 3)
  bits ← bits_in (field row 4)
  frame ← content_in bits (field row 5)
  Ok (Taken (Queue id at event frame))

abbrev pub unqueued : List ℕ → ℕ → ℕ → Result Entry EntryFault
unqueued kind at id =
    if bytes_eq kind (codes "start") then Ok (Taken (Start id at))
    else if bytes_eq kind (codes "end") then Ok (Taken (End id at))
    else if bytes_eq kind (codes "until") && (id == 0) then Ok (Until at)
    else Err Malformed

abbrev pub by_kind : ℕ → ℕ → Fields → Result Entry EntryFault
by_kind at id row =
    if bytes_eq (field row 0) (codes "queue") then queued at id row
    else if not (are_empty row) then Err Malformed
    else unqueued (field row 0) at id

-- what a record says
unfoldable pub entry_in : Fields → Result Entry EntryFault
entry_in row = if not (length row == 6) then Err Malformed else do
  at ← number_in (field row 1)
  id ← id_in (field row 2)
  by_kind at id row
