-- Marks of the numbers that stand for names: a name without one stands nowhere.
use Rattle.std.specs.Prelude.{ℕ, ◌≡◌, ◌==◌, ◌-◌, ◌/◌, ◌%◌, ◌^◌, Bool, true, List, get_or, Contains}
use Rattle.std.specs.Int.{bit_at}
use Rattle.cop_eds.specs.declared.tickets.Ticket.{Ticket}

-- the mark of a number: the names of each section have sixty-four
abbrev pub mark_of : ℕ → ℕ → ℕ
mark_of bits word = (word - 2 ^ 63) / 2 ^ (57 - bits)

-- a mark is set; those past the end are
abbrev pub is_marked : List ℕ → ℕ → Bool
is_marked marks mark = bit_at (get_or marks (mark / 64) (2 ^ 64 - 1)) (mark % 64) == 1

-- the number of each ticket is marked
abbrev pub AreMarked : ℕ → List ℕ → List Ticket → Type 0
AreMarked bits marks tickets = (ticket : Ticket) → Contains tickets ticket → is_marked marks (mark_of bits ticket.word) ≡ true
