-- What an adapter says, byte by byte (the text protocol of Lawicel's CAN232: each answer ends with CR, and BEL refuses a command).
use Rattle.std.specs.Prelude.{ℕ, List, [], ◌∷◌, ◌++◌, length, ◌==◌, nat_lt, if◌then◌else◌, Option, Some, None, option_to_list}
use Rattle.cop_slcan.specs.Meaning.{Told, Refused, meaning}

-- a byte after those since the last line's end; LF (0Ah) is passed over, and of a line that is too long for a frame the first 32 are kept
abbrev pub taken : List ℕ → ℕ → List ℕ × Option Told
taken pending byte =
    if byte == 13 then ([], Some (meaning pending))
    else if byte == 7 then ([], Some Refused)
    else if byte == 10 then (pending, None)
    else (if nat_lt (length pending) 32 then pending ++ byte ∷ [] else pending, None)

-- what is said by bytes after others
abbrev pub said_from : List ℕ → List ℕ → List Told
said_from pending [] = []
said_from pending (byte ∷ bytes) = option_to_list (taken pending byte).1 ++ said_from (taken pending byte).0 bytes

-- what is said from a line's beginning on
abbrev pub said : List ℕ → List Told
said bytes = said_from [] bytes

-- the bytes that are left of the last line
abbrev pub left_from : List ℕ → List ℕ → List ℕ
left_from pending [] = pending
left_from pending (byte ∷ bytes) = left_from (taken pending byte).0 bytes
