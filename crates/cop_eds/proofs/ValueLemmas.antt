-- The value of a line that is looked at first.
use Rattle.std.proofs.Common.{◌≡◌, ℕ, ◌+◌, List, slice_get, Some, sym, ap, ◌∙◌}
use Rattle.cop_eds.specs.declared.line.Kind.TheVariants.{Pair}
use Rattle.cop_eds.specs.declared.line.Line.{Line}
use Rattle.cop_eds.specs.declared.tickets.Ticket.{Ticket}
use Rattle.cop_eds.specs.Text.{key_of, value_of}
use Rattle.cop_eds.specs.Lines.{text_of, lines_of, is_keyed, first_from}
use Rattle.cop_eds.specs.Index.{pair_key}
use Rattle.cop_eds.specs.Tickets.{AreTickets, AreRising}
use Rattle.cop_eds.specs.Sections.{keyed_line}
use Rattle.cop_eds.proofs.KeyLemmas.{passes_here, first_keyed}
use Rattle.cop_eds.proofs.TicketLemmas.{found_here}

-- where the line at a place is a pair of a key, it is the key's line
pub value_here : (text : List ℕ) (lines : List Line) (bits : ℕ) (tickets : List Ticket) (section : ℕ) (key : List ℕ) (near : ℕ) (line : Line) (bytes value : List ℕ)
    → AreTickets text lines bits tickets → AreRising tickets → lines ≡ lines_of text → slice_get lines near ≡ Some line → line.kind ≡ Pair → line.section ≡ section
    → bytes ≡ text_of text line → (key_of bytes ≡ key) × (value_of bytes ≡ value)
    → (x : Line) × (keyed_line text section key ≡ Some (near + 1, x)) × (value_of (text_of text x) ≡ value)
value_here text lines bits tickets section key near line bytes value all rising whole at kind its_section own parts =
    let passes = passes_here text line section key kind its_section (ap key_of (sym own) ∙ parts.0) in
    let found = found_here text lines bits tickets (pair_key section key) near line all rising at passes in
    (line, ap (first_from 1 (is_keyed text section key)) (sym whole) ∙ sym (first_keyed text section key lines) ∙ found, ap value_of (sym own) ∙ parts.1)
