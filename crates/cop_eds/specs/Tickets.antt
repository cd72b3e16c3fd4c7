-- The lines that are found by a name, by numbers that stand for the names.
use Rattle.std.specs.Prelude.{ℕ, zero, suc, take, drop, Bool, true, false, ◌+◌, ◌-◌, ◌*◌, ◌/◌, ◌%◌, ◌^◌, ◌≤◌, ◌<◌, ◌≡◌, ◌==◌, if◌then◌else◌, List, [], ◌∷◌, length, get_or, nat_lt, ◌&&◌, ◌||◌, Some, IsSome, slice_get, Contains}
use Rattle.std.specs.List.{All, AllAdjacentBelow, AllWithin}
use Rattle.std.specs.Option.{option_map}
use Rattle.cop_eds.specs.declared.line.Line.{Line}
use Rattle.cop_eds.specs.declared.tickets.Ticket.{Ticket}
use Rattle.cop_eds.specs.Index.{line_key, is_found_by, IsIndex}
use Rattle.cop_eds.specs.declared.entry.Entry.{Entry}
use Rattle.cop_eds.specs.Lines.{lines_of, IsWithin}
use Rattle.cop_eds.specs.Marks.{AreMarked}

-- a number of 64 bits after more is mixed into it
abbrev pub stirred : ℕ → ℕ → ℕ
stirred n more = ((n + more) % 2 ^ 64 * 11400714819323198485) % 2 ^ 64

-- the low five bits of each byte, which a letter has in both cases, as a number of bytes of which the first is lowest
unfoldable pub low_bits : List ℕ → ℕ
low_bits [] = 0
low_bits (b ∷ bs) = b % 32 + low_bits bs * 256

-- a number of 64 bits that bytes are mixed into, one at a time
unfoldable pub mixed_each : ℕ → List ℕ → ℕ
mixed_each n [] = n
mixed_each n (b ∷ bs) = mixed_each (stirred n (b % 32)) bs

-- a number of 64 bits that bytes are mixed into, so many times eight of them
unfoldable pub mixed_by : ℕ → ℕ → List ℕ → ℕ
mixed_by zero n bs = n
mixed_by (suc count) n bs = mixed_by count (stirred n (low_bits (take 8 bs))) (drop 8 bs)

-- a number of 64 bits for a name: all its eights of bytes, and then its last eight, are mixed into it
abbrev pub mixed : List ℕ → ℕ
mixed name =
    if nat_lt (length name) 8 then mixed_each 0 name
    else stirred (mixed_by (length name / 8) 0 name) (low_bits (drop (length name - 8) name))

-- a number below 2^63 for a name; as long as the places have no more bits, the names of each place have a range of their
-- own, above those of the places before it
abbrev pub ranged : ℕ → ℕ → List ℕ → ℕ
ranged bits place name = ((place * 2 ^ (64 - bits)) % 2 ^ 64 + mixed name / 2 ^ bits) % 2 ^ 64 / 2

-- the number that stands for what a line is found by: that of an object's section is its own, and the others come after
unfoldable pub word_of : ℕ → List ℕ → ℕ
word_of bits [] = 0
word_of bits (group ∷ []) = 0
word_of bits (group ∷ code ∷ name) = if group == 0 then code else 2 ^ 63 + ranged bits ((code + group) % 2 ^ 64) name

-- the ticket is that of a line
abbrev pub IsTicket : List ℕ → List Line → ℕ → Ticket → Type 0
IsTicket text lines bits ticket =
    (1 ≤ ticket.line) × ((line : Line) × (slice_get lines (ticket.line - 1) ≡ Some line) × (option_map (word_of bits) (line_key text line) ≡ Some ticket.word))

-- the tickets of exactly those lines that are found by a name
pub record AreTickets (text : List ℕ) (lines : List Line) (bits : ℕ) (tickets : List Ticket) : Type 0 where
  pub sound : All (IsTicket text lines bits) tickets
  pub complete : (place : ℕ) (line : Line) → slice_get lines place ≡ Some line → IsSome (line_key text line) → (ticket : Ticket) × Contains tickets ticket × (ticket.line ≡ place + 1)

-- each number is below the next, so no two lines have one
abbrev pub AreRising : List Ticket → Type 0
AreRising tickets = AllAdjacentBelow (λ ticket next. ticket.word < next.word) tickets (length tickets)

-- the ticket has a lesser number, or the same and an earlier line
abbrev pub is_ahead : Ticket → Ticket → Bool
is_ahead ticket next = nat_lt ticket.word next.word || ((ticket.word == next.word) && nat_lt ticket.line next.line)

-- by their numbers, and then by their lines
abbrev pub AreOrdered : List Ticket → Type 0
AreOrdered tickets = AllAdjacentBelow (λ ticket next. is_ahead ticket next ≡ true) tickets (length tickets)

-- no ticket before a place is that of a line which the key finds
abbrev pub NoneBefore : List ℕ → List Line → List ℕ → List Ticket → ℕ → Type 0
NoneBefore text lines key tickets place =
    (k : ℕ) (d : Ticket) (line : Line) → k < place → k < length tickets → slice_get lines ((get_or tickets k d).line - 1) ≡ Some line → is_found_by text key line ≡ false

-- the tickets before the one place have numbers below this one, and those from the other place on have none
abbrev pub Surround : ℕ → List Ticket → ℕ → ℕ → Type 0
Surround word tickets low high =
    AllWithin (λ ticket. ticket.word < word) tickets 0 low × AllWithin (λ ticket. word ≤ ticket.word) tickets high (length tickets)

-- the lines of a text, and their index: by numbers, or where too many lines share one by names
pub record IsIndexed (text : List ℕ) (lines : List Line) (bits : ℕ) (tickets : List Ticket) (marks : List ℕ) (rising named : Bool) (entries : List Entry) : Type 0 where
  pub all : lines ≡ lines_of text
  pub within : All (IsWithin (length text)) lines
  pub size : length text < 2 ^ 31
  pub fits : (0 < bits) × (bits < 64)
  pub ticketed : AreTickets text lines bits tickets
  pub marked : AreMarked bits marks tickets
  pub by_number : rising ≡ true → AreRising tickets
  pub ordered : named ≡ false → AreOrdered tickets
  pub by_name : named ≡ true → IsIndex text lines entries
