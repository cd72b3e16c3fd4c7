-- Lines that are found by the numbers of their names.
use Rattle.std.proofs.Common.{◌≡◌, ℕ, zero, suc, ◌+◌, ◌-◌, ◌^◌, ◌<◌, ◌≤◌, Bool, true, false, nat_lt, nat_le, List, [], ◌∷◌, ◌++◌, length, take, get_or, slice_get, Contains, Option, Some, None, IsSome, refl, sym, ap, subst, ◌∙◌, arith, ⊎_elim}
use Rattle.std.specs.List.{AllWithin, All, AllAdjacentBelow}
use Rattle.std.specs.List.Sorted.{IsNonDecreasingBy, IsPermutation}
use Rattle.std.specs.Option.{option_map}
use Rattle.std.proofs.lemmas.Slice.Eq.{bytes_eq-Decides}
use Rattle.std.proofs.lemmas.Option.{get_or_from_slice_get, slice_get-get_or}
use Rattle.std.proofs.lemmas.List.Sorted.{IsNonDecreasingBy-from_all_adjacent, all_adjacent_more, All-permutation, Contains-permutation}
use Rattle.std.proofs.lemmas.List.Elements.{All-append}
use Rattle.std.proofs.lemmas.Bool.Decides.{nat_tests}
use Rattle.cop_eds.specs.declared.line.Line.{Line}
use Rattle.cop_eds.specs.declared.tickets.Ticket.{Ticket}
use Rattle.cop_eds.specs.Lines.{first_from, broken}
use Rattle.cop_eds.specs.Index.{line_key, has_key, is_found_by}
use Rattle.cop_eds.specs.Marks.{mark_of, is_marked, AreMarked}
use Rattle.cop_eds.specs.Tickets.{word_of, IsTicket, AreTickets, AreRising, is_ahead, AreOrdered, NoneBefore, Surround}
use Rattle.cop_eds.proofs.ListLemmas.{get_or_same, all_one_by, some_is}
use Rattle.cop_eds.proofs.IndexLemmas.{first_none, first_some, by_test, some_key, at_last, slice_get_below, none_so_far, alone_first}
use Rattle.cop_eds.proofs.CodeLemmas.{found_small, small_found}

-- the order of the numbers

word_le : (a b : Ticket) → is_ahead a b ≡ true → a.word ≤ b.word
word_le a b e = grind (arith, nat_tests)

line_le : (a b : Ticket) → is_ahead a b ≡ true → a.word ≡ b.word → a.line ≤ b.line
line_le a b e same = grind (arith, nat_tests)

less_ahead : (a b : Ticket) → a.word < b.word → is_ahead a b ≡ true
less_ahead a b less = grind (arith, nat_tests)

not_falling : (tickets : List Ticket) → AreOrdered tickets → IsNonDecreasingBy (λ (t : Ticket). t.word) tickets
not_falling tickets ordered =
    IsNonDecreasingBy-from_all_adjacent (λ (t : Ticket). t.word) tickets (λ k d lt. word_le (get_or tickets k d) (get_or tickets (k + 1) d) (ordered k d lt))

-- rising numbers are in order, whatever the lines
never_falls : (tickets : List Ticket) → AreRising tickets → IsNonDecreasingBy (λ (t : Ticket). t.word) tickets
never_falls tickets rising =
    IsNonDecreasingBy-from_all_adjacent (λ (t : Ticket). t.word) tickets (λ k d lt. let less = rising k d lt in omega (arith, less))

pub rising_ordered : (tickets : List Ticket) → AreRising tickets → AreOrdered tickets
rising_ordered tickets rising k d lt = less_ahead (get_or tickets k d) (get_or tickets (k + 1) d) (rising k d lt)

-- of tickets with one number, a later one has a later line
lines_rise : (n : ℕ) (tickets : List Ticket) (i : ℕ) (d : Ticket) → AreOrdered tickets → i + n < length tickets → (get_or tickets i d).word ≡ (get_or tickets (i + n) d).word
    → (get_or tickets i d).line ≤ (get_or tickets (i + n) d).line
lines_rise zero tickets i d ordered lt same = let here : i + 0 ≡ i = omega arith in rw here (omega arith)
lines_rise (suc n) tickets i d ordered lt same =
    let next : i + suc n ≡ i + n + 1 = omega arith in
    let up : (get_or tickets i d).word ≤ (get_or tickets (i + n) d).word = not_falling tickets ordered i (i + n) d (omega arith) (omega arith) in
    let here = get_or tickets (i + n) d in
    let after = get_or tickets (i + n + 1) d in
    let ahead : is_ahead here after ≡ true = ordered (i + n) d (omega arith) in
    let more : here.word ≤ after.word = word_le here after ahead in
    let end : (get_or tickets i d).word ≡ (get_or tickets (i + n + 1) d).word = rw next at same in
    let so_far : (get_or tickets i d).line ≤ (get_or tickets (i + n) d).line = lines_rise n tickets i d ordered (omega arith) (omega (arith, up, more, end)) in
    let last : (get_or tickets (i + n) d).line ≤ (get_or tickets (i + n + 1) d).line = line_le here after ahead (omega (arith, up, more, end)) in
    rw next (omega (arith, so_far, last))

rises_far : (tickets : List Ticket) (i j : ℕ) (d : Ticket) → AreRising tickets → i < j → j < length tickets
    → (get_or tickets i d).word < (get_or tickets j d).word
rises_far tickets i j d rising lt inside =
    let next : (get_or tickets i d).word < (get_or tickets (i + 1) d).word = rising i d (omega arith) in
    let later : (get_or tickets (i + 1) d).word ≤ (get_or tickets j d).word = never_falls tickets rising (i + 1) j d (omega arith) inside in
    omega arith

-- what the ticket at a place says of the tickets before it, or after it
pub all_below : (tickets : List Ticket) (word i : ℕ) (d : Ticket) → AreOrdered tickets → i < length tickets → (get_or tickets i d).word < word
    → AllWithin (λ (t : Ticket). t.word < word) tickets 0 (i + 1)
all_below tickets word i d ordered lt less k e low high =
    let up : (get_or tickets k e).word ≤ (get_or tickets i e).word = not_falling tickets ordered k i e (omega arith) lt in
    let here : (get_or tickets i e).word ≡ (get_or tickets i d).word = ap (λ (x : Ticket). x.word) (get_or_same tickets i d e lt) in
    omega arith

pub all_above : (tickets : List Ticket) (word i : ℕ) (d : Ticket) → AreOrdered tickets → i < length tickets → word ≤ (get_or tickets i d).word
    → AllWithin (λ (t : Ticket). word ≤ t.word) tickets i (length tickets)
all_above tickets word i d ordered lt le k e low high =
    let up : (get_or tickets i e).word ≤ (get_or tickets k e).word = not_falling tickets ordered i k e low high in
    let here : (get_or tickets i e).word ≡ (get_or tickets i d).word = ap (λ (x : Ticket). x.word) (get_or_same tickets i d e lt) in
    omega arith

abbrev pub Parts : ℕ → List Ticket → ℕ → Type 0
Parts word tickets i = Surround word tickets i i

pub is_below : (a b : ℕ) → nat_lt a b ≡ true → a < b
is_below a b e = grind (arith, nat_tests)

pub is_at_most : (a b : ℕ) → nat_le a b ≡ true → a ≤ b
is_at_most a b e = grind (arith, nat_tests)

not_below : (a b : ℕ) → nat_lt a b ≡ false → b ≤ a
not_below a b e = grind (arith, nat_tests)

-- a ticket whose number isn't below stands at the partition's place or after it
at_or_after : (tickets : List Ticket) (word i : ℕ) (t : Ticket) → Parts word tickets i → (c : Contains tickets t) → word ≤ t.word → i ≤ c.0
at_or_after tickets word i t parts c le = by_order (nat_lt c.0 i) refl
  where
    by_order : (b : Bool) → nat_lt c.0 i ≡ b → i ≤ c.0
    by_order true less =
        let lt : c.0 < i = is_below c.0 i less in
        let low : (get_or tickets c.0 t).word < word = parts.0 c.0 t (omega arith) lt in
        let same : (get_or tickets c.0 t).word ≡ t.word = ap (λ (x : Ticket). x.word) c.2 in
        absurd (omega arith)
    by_order false ge = not_below c.0 i ge

-- its number is that of the ticket at the place, or greater
place_least : (tickets : List Ticket) (word i : ℕ) (t d : Ticket) → AreOrdered tickets → Parts word tickets i → Contains tickets t → word ≤ t.word
    → (i < length tickets) × ((get_or tickets i d).word ≤ t.word)
place_least tickets word i t d ordered parts c le =
    let after : i ≤ c.0 = at_or_after tickets word i t parts c le in
    let up : (get_or tickets i t).word ≤ (get_or tickets c.0 t).word = not_falling tickets ordered i c.0 t after c.1 in
    let same : (get_or tickets c.0 t).word ≡ t.word = ap (λ (x : Ticket). x.word) c.2 in
    let inside : i < length tickets = omega (arith, c.1) in
    let here : (get_or tickets i d).word ≡ (get_or tickets i t).word = ap (λ (x : Ticket). x.word) (get_or_same tickets i t d inside) in
    (inside, omega arith)

-- two tickets of one number are one
one_ticket : (tickets : List Ticket) (a b : Ticket) → AreRising tickets → Contains tickets a → Contains tickets b → a.word ≡ b.word → a ≡ b
one_ticket tickets a b rising x y same = by_order (nat_lt x.0 y.0) refl (nat_lt y.0 x.0) refl
  where
    first : (get_or tickets x.0 a).word ≡ a.word
    first = ap (λ (t : Ticket). t.word) x.2

    second : (get_or tickets y.0 a).word ≡ b.word
    second = ap (λ (t : Ticket). t.word) (get_or_same tickets y.0 b a y.1 ∙ y.2)

    by_order : (p : Bool) → nat_lt x.0 y.0 ≡ p → (q : Bool) → nat_lt y.0 x.0 ≡ q → a ≡ b
    by_order true less q other =
        let rise : (get_or tickets x.0 a).word < (get_or tickets y.0 a).word = rises_far tickets x.0 y.0 a rising (is_below x.0 y.0 less) y.1 in
        absurd (omega (arith, first, second))
    by_order false le true more =
        let rise : (get_or tickets y.0 a).word < (get_or tickets x.0 a).word = rises_far tickets y.0 x.0 a rising (is_below y.0 x.0 more) x.1 in
        absurd (omega (arith, first, second))
    by_order false le false ge =
        let place : x.0 ≡ y.0 = omega (arith, not_below x.0 y.0 le, not_below y.0 x.0 ge) in
        sym x.2 ∙ ap (λ i. get_or tickets i a) place ∙ get_or_same tickets y.0 b a y.1 ∙ y.2

-- the lines of the tickets

pub OwnTicket : List Ticket → ℕ → ℕ → Type 0
OwnTicket tickets number word = (ticket : Ticket) × Contains tickets ticket × (ticket.line ≡ number) × (ticket.word ≡ word)

found_key : (o : Option (List ℕ)) (key : List ℕ) → has_key o key ≡ true → o ≡ Some key
found_key None key e = cc
found_key (Some found) key e = ap (λ k. Some k) ((bytes_eq-Decides found key).0 e)

-- a line that a key finds has a ticket with the key's number
own_ticket : (text : List ℕ) (lines : List Line) (bits : ℕ) (tickets : List Ticket) (key : List ℕ) → AreTickets text lines bits tickets
    → (p : ℕ) (line : Line) → slice_get lines p ≡ Some line → is_found_by text key line ≡ true → OwnTicket tickets (p + 1) (word_of bits key)
unfolding OwnTicket
own_ticket text lines bits tickets key all p line at found =
    let some = all.complete p line at (some_key (line_key text line) key found) in
    let t = some.0 in
    let sound : IsTicket text lines bits (get_or tickets some.1.0 t) = all.sound some.1.0 t some.1.1 in
    let own : IsTicket text lines bits t = subst (IsTicket text lines bits) some.1.2 sound in
    let place : t.line - 1 ≡ p = omega (arith, some.2) in
    let same : own.1.0 ≡ line = some_is (sym own.1.1 ∙ ap (slice_get lines) place ∙ at) in
    let key_is : line_key text own.1.0 ≡ Some key = ap (line_key text) same ∙ found_key (line_key text line) key found in
    let word : Some t.word ≡ Some (word_of bits key) = sym own.1.2 ∙ ap (option_map (word_of bits)) key_is in
    (t, (some.1.0, some.1.1, some.1.2), some.2, some_is word)

-- a line that a key finds is that of the ticket with the key's number
pub only_line : (text : List ℕ) (lines : List Line) (bits : ℕ) (tickets : List Ticket) (key : List ℕ) (t : Ticket)
    → AreTickets text lines bits tickets → AreRising tickets → Contains tickets t → t.word ≡ word_of bits key
    → (q : ℕ) (y : Line) → slice_get lines q ≡ Some y → is_found_by text key y ≡ true → q + 1 ≡ t.line
unfolding OwnTicket
only_line text lines bits tickets key t all rising c word q y at found =
    let own = own_ticket text lines bits tickets key all q y at found in
    let same : own.0 ≡ t = one_ticket tickets own.0 t rising own.1 c (own.3 ∙ sym word) in
    sym own.2 ∙ ap (λ (x : Ticket). x.line) same

-- and else it finds that line
pub its_line : (text : List ℕ) (lines : List Line) (bits : ℕ) (tickets : List Ticket) (key : List ℕ) (t : Ticket) (line : Line)
    → AreTickets text lines bits tickets → AreRising tickets → Contains tickets t → t.word ≡ word_of bits key → 1 ≤ t.line
    → slice_get lines (t.line - 1) ≡ Some line → is_found_by text key line ≡ true → first_from 1 (is_found_by text key) lines ≡ Some (t.line, line)
its_line text lines bits tickets key t line all rising c word positive at found =
    let number : 1 + (t.line - 1) ≡ t.line = omega arith in
    let earlier : (q : ℕ) (y : Line) → q < t.line - 1 → slice_get lines q ≡ Some y → is_found_by text key y ≡ false =
    λ q y less at_q. by_test (is_found_by text key y) (λ h.
    let same : q + 1 ≡ t.line = only_line text lines bits tickets key t all rising c word q y at_q h in
    absurd (omega arith)) in
    first_some 1 (is_found_by text key) lines (t.line - 1) line at found earlier ∙ ap (λ n. Some (n, line)) number

-- a ticket's line is one of the lines
pub ticket_within : (text : List ℕ) (lines : List Line) (bits : ℕ) (tickets : List Ticket) (t : Ticket) → AreTickets text lines bits tickets → Contains tickets t
    → (1 ≤ t.line) × (t.line ≤ length lines)
ticket_within text lines bits tickets t all c =
    let sound : IsTicket text lines bits (get_or tickets c.0 t) = all.sound c.0 t c.1 in
    let own : IsTicket text lines bits t = subst (IsTicket text lines bits) c.2 sound in
    (own.0, omega (arith, slice_get_below lines (t.line - 1) own.1.0 own.1.1))

pub all_within : (text : List ℕ) (lines : List Line) (bits : ℕ) (tickets : List Ticket) → AreTickets text lines bits tickets
    → All (λ (t : Ticket). (1 ≤ t.line) × (t.line ≤ length lines)) tickets
all_within text lines bits tickets all k d lt = ticket_within text lines bits tickets (get_or tickets k d) all (k, lt, get_or_same tickets k d (get_or tickets k d) lt)

-- what the line of a ticket is found by gives its number
its_word : (text : List ℕ) (lines : List Line) (bits : ℕ) (tickets : List Ticket) (key : List ℕ) (k : ℕ) (d : Ticket) (line : Line) → AreTickets text lines bits tickets
    → k < length tickets → slice_get lines ((get_or tickets k d).line - 1) ≡ Some line → is_found_by text key line ≡ true → (get_or tickets k d).word ≡ word_of bits key
its_word text lines bits tickets key k d line all lt at found =
    let own = all.sound k d lt in
    let same : own.1.0 ≡ line = some_is (sym own.1.1 ∙ at) in
    let key_is : line_key text own.1.0 ≡ Some key = ap (line_key text) same ∙ found_key (line_key text line) key found in
    some_is (sym own.1.2 ∙ ap (option_map (word_of bits)) key_is)

-- no ticket with a lesser number is that of a line which the key finds
pub none_below : (text : List ℕ) (lines : List Line) (bits : ℕ) (tickets : List Ticket) (key : List ℕ) (word i : ℕ) → AreTickets text lines bits tickets
    → word ≡ word_of bits key → AllWithin (λ (t : Ticket). t.word < word) tickets 0 i → NoneBefore text lines key tickets i
none_below text lines bits tickets key word i all its below k d line less lt at = by_test (is_found_by text key line) (λ h.
    let same : (get_or tickets k d).word ≡ word_of bits key = its_word text lines bits tickets key k d line all lt at h in
    let low : (get_or tickets k d).word < word = below k d (omega arith) less in
    absurd (omega (arith, same, low, its)))

-- one more ticket whose line the key doesn't find
pub none_more : (text : List ℕ) (lines : List Line) (key : List ℕ) (tickets : List Ticket) (i : ℕ) (e : Ticket) → i < length tickets → NoneBefore text lines key tickets i
    → ((line : Line) → slice_get lines ((get_or tickets i e).line - 1) ≡ Some line → is_found_by text key line ≡ false) → NoneBefore text lines key tickets (i + 1)
none_more text lines key tickets i e inside so_far here k d line less lt at =
    ⊎_elim (λ before. so_far k d line before lt at)
    (λ same.
    let place : get_or tickets k d ≡ get_or tickets i e = ap (λ n. get_or tickets n d) same ∙ get_or_same tickets i e d inside in
    here line (ap (λ (t : Ticket). slice_get lines (t.line - 1)) (sym place) ∙ at)) (at_last k i less)

-- where no ticket with the key's number is left the key finds no line
pub none_left : (text : List ℕ) (lines : List Line) (bits : ℕ) (tickets : List Ticket) (key : List ℕ) (word i : ℕ) → AreTickets text lines bits tickets → AreOrdered tickets
    → word ≡ word_of bits key → NoneBefore text lines key tickets i → AllWithin (λ (t : Ticket). word ≤ t.word) tickets i (length tickets)
    → ((d : Ticket) → i < length tickets → (get_or tickets i d).word ≡ word → ⊥) → first_from 1 (is_found_by text key) lines ≡ None
unfolding OwnTicket
none_left text lines bits tickets key word i all ordered its none above other =
    first_none 1 (is_found_by text key) lines (λ q y at. by_test (is_found_by text key y) (λ h.
    let own = own_ticket text lines bits tickets key all q y at h in
    let c = own.1 in
    by_order own.0 c.0 c.1 (ap (λ (t : Ticket). t.word) c.2 ∙ own.3 ∙ sym its) (nat_lt c.0 i) refl (λ less.
    let place : (get_or tickets c.0 own.0).line - 1 ≡ q = omega (arith, ap (λ (t : Ticket). t.line) c.2, own.2) in
    let other : is_found_by text key y ≡ false = none c.0 own.0 y less c.1 (ap (slice_get lines) place ∙ at) in
    true_false (sym h ∙ other))))
  where
    true_false : true ≡ false → ⊥
    true_false e = cc

    by_order : (t : Ticket) (j : ℕ) → j < length tickets → (get_or tickets j t).word ≡ word → (b : Bool) → nat_lt j i ≡ b → (j < i → ⊥) → ⊥
    by_order t j lt same true less refuted = refuted (is_below j i less)
    by_order t j lt same false ge refuted =
        let le : i ≤ j = not_below j i ge in
        let inside : i < length tickets = omega arith in
        let up : (get_or tickets i t).word ≤ (get_or tickets j t).word = not_falling tickets ordered i j t le lt in
        let down : word ≤ (get_or tickets i t).word = above i t (omega arith) inside in
        other t inside (omega (arith, up, down, same))

-- no line is found by a key whose number has no mark
pub none_marked : (text : List ℕ) (lines : List Line) (bits : ℕ) (tickets : List Ticket) (marks key : List ℕ) (word : ℕ) → AreTickets text lines bits tickets → AreMarked bits marks tickets
    → word ≡ word_of bits key → is_marked marks (mark_of bits word) ≡ false → first_from 1 (is_found_by text key) lines ≡ None
unfolding OwnTicket
none_marked text lines bits tickets marks key word all marked its free =
    first_none 1 (is_found_by text key) lines (λ q y at. by_test (is_found_by text key y) (λ h.
    let own = own_ticket text lines bits tickets key all q y at h in
    let same : mark_of bits own.0.word ≡ mark_of bits word = ap (mark_of bits) (own.3 ∙ sym its) in
    true_false (sym (rw same at (marked own.0 own.1)) ∙ free)))
  where
    true_false : true ≡ false → ⊥
    true_false e = cc

-- and else it finds the line of the first such ticket
pub first_found : (text : List ℕ) (lines : List Line) (bits : ℕ) (tickets : List Ticket) (key : List ℕ) (i : ℕ) (d : Ticket) (line : Line) → AreTickets text lines bits tickets → AreOrdered tickets
    → NoneBefore text lines key tickets i → i < length tickets → 1 ≤ (get_or tickets i d).line → slice_get lines ((get_or tickets i d).line - 1) ≡ Some line → is_found_by text key line ≡ true
    → first_from 1 (is_found_by text key) lines ≡ Some ((get_or tickets i d).line, line)
unfolding OwnTicket
first_found text lines bits tickets key i d line all ordered none lt positive at passes =
    let t = get_or tickets i d in
    let number : 1 + (t.line - 1) ≡ t.line = omega arith in
    let word : t.word ≡ word_of bits key = its_word text lines bits tickets key i d line all lt at passes in
    let earlier : (q : ℕ) (y : Line) → q < t.line - 1 → slice_get lines q ≡ Some y → is_found_by text key y ≡ false =
    λ q y less at_q. by_test (is_found_by text key y) (λ h.
    let own = own_ticket text lines bits tickets key all q y at_q h in
    let c = own.1 in
    let same : get_or tickets c.0 d ≡ own.0 = get_or_same tickets c.0 own.0 d c.1 ∙ c.2 in
    let its_line : (get_or tickets c.0 d).line ≡ q + 1 = ap (λ (x : Ticket). x.line) same ∙ own.2 in
    let its_number : (get_or tickets c.0 d).word ≡ word_of bits key = ap (λ (x : Ticket). x.word) same ∙ own.3 in
    by_order c.0 c.1 (word ∙ sym its_number) (nat_lt c.0 i) refl (omega (arith, less, its_line)) (λ before.
    let place : (get_or tickets c.0 d).line - 1 ≡ q = omega (arith, its_line) in
    let other : is_found_by text key y ≡ false = none c.0 d y before c.1 (ap (slice_get lines) place ∙ at_q) in
    true_false (sym h ∙ other))) in
    first_some 1 (is_found_by text key) lines (t.line - 1) line at passes earlier ∙ ap (λ n. Some (n, line)) number
  where
    true_false : true ≡ false → ⊥
    true_false e = cc

    by_order : (j : ℕ) → j < length tickets → (get_or tickets i d).word ≡ (get_or tickets j d).word → (b : Bool) → nat_lt j i ≡ b
        → (get_or tickets j d).line < (get_or tickets i d).line → (j < i → ⊥) → ⊥
    by_order j inside same true less early refuted = refuted (is_below j i less)
    by_order j inside same false ge early refuted =
        let le : i ≤ j = not_below j i ge in
        let there : i + (j - i) ≡ j = omega arith in
        let up : (get_or tickets i d).line ≤ (get_or tickets (i + (j - i)) d).line = lines_rise (j - i) tickets i d ordered (omega arith) (rw there same) in
        let high : (get_or tickets i d).line ≤ (get_or tickets j d).line = rw there at up in
        omega arith

-- a line that a key finds is the first that it finds
pub found_here : (text : List ℕ) (lines : List Line) (bits : ℕ) (tickets : List Ticket) (key : List ℕ) (p : ℕ) (x : Line) → AreTickets text lines bits tickets → AreRising tickets
    → slice_get lines p ≡ Some x → is_found_by text key x ≡ true → first_from 1 (is_found_by text key) lines ≡ Some (p + 1, x)
unfolding OwnTicket
found_here text lines bits tickets key p x all rising at passes =
    let own = own_ticket text lines bits tickets key all p x at passes in
    let place : own.0.line - 1 ≡ p = omega (arith, own.2) in
    its_line text lines bits tickets key own.0 x all rising own.1 own.3 (omega (arith, own.2)) (ap (slice_get lines) place ∙ at) passes
    ∙ ap (λ n. Some (n, x)) own.2

-- no two lines are found by one key, so each breaks a rule after the earlier ones exactly where it does alone
pub alone_ticket : (text : List ℕ) (lines : List Line) (bits : ℕ) (tickets : List Ticket) (p : ℕ) (x : Line) → AreTickets text lines bits tickets → AreRising tickets
    → slice_get lines p ≡ Some x → broken text (take p lines) x ≡ broken text [] x
unfolding OwnTicket
alone_ticket text lines bits tickets p x all rising at = alone_first text lines p x (λ key passes.
    let own = own_ticket text lines bits tickets key all p x at passes in
    none_so_far (is_found_by text key) lines p x at passes (λ q y less at_q. by_test (is_found_by text key y) (λ h.
    let same : q + 1 ≡ own.0.line = only_line text lines bits tickets key own.0 all rising own.1 own.3 q y at_q h in
    absurd (omega (arith, own.2)))))

-- the tickets of the lines so far

pub sound_push : (text : List ℕ) (lines : List Line) (bits : ℕ) (tickets : List Ticket) (i word : ℕ) (d : Line) → i < length lines
    → option_map (word_of bits) (line_key text (get_or lines i d)) ≡ Some word
    → All (IsTicket text lines bits) tickets → All (IsTicket text lines bits) (tickets ++ record { word = word; line = i + 1 } ∷ [])
sound_push text lines bits tickets i word d lt its_word so_far =
    let t : Ticket = record { word = word; line = i + 1 } in
    let place : i ≡ t.line - 1 = omega arith in
    let at : slice_get lines (t.line - 1) ≡ Some (get_or lines i d) = ap (slice_get lines) (sym place) ∙ slice_get-get_or lines i d lt in
    let own : IsTicket text lines bits t = (omega arith, (get_or lines i d, at, its_word)) in
    All-append (IsTicket text lines bits) tickets (t ∷ []) so_far (all_one_by (IsTicket text lines bits) t own)

pub all_tickets : (text : List ℕ) (lines : List Line) (bits : ℕ) (tickets sorted : List Ticket) → IsPermutation tickets sorted → All (IsTicket text lines bits) tickets
    → ((place : ℕ) (line : Line) → slice_get lines place ≡ Some line → IsSome (line_key text line) → (ticket : Ticket) × Contains tickets ticket × (ticket.line ≡ place + 1))
    → AreTickets text lines bits sorted
all_tickets text lines bits tickets sorted moved sound complete = record {
  sound = All-permutation (IsTicket text lines bits) tickets sorted moved sound;
  complete = λ place line at some.
      let x = complete place line at some in
      (x.0, Contains-permutation tickets sorted x.0 moved x.1, x.2);
}

-- objects' sections, by rising numbers

-- between a number and that of the ticket at its place no object has a section
pub none_between : (text : List ℕ) (lines : List Line) (bits : ℕ) (tickets : List Ticket) (code c i : ℕ) (d : Ticket)
    → AreTickets text lines bits tickets → AreOrdered tickets → Parts code tickets i → code ≤ c
    → (c < 2 ^ 63 → i < length tickets → c < (get_or tickets i d).word) → first_from 1 (is_found_by text (0 ∷ c ∷ [])) lines ≡ None
unfolding OwnTicket word_of
none_between text lines bits tickets code c i d all ordered parts le beyond =
    first_none 1 (is_found_by text (0 ∷ c ∷ [])) lines (λ q y at. by_test (is_found_by text (0 ∷ c ∷ []) y) (λ h.
    let small : c < 2 ^ 63 = found_small text y c (found_key (line_key text y) (0 ∷ c ∷ []) h) in
    let own = own_ticket text lines bits tickets (0 ∷ c ∷ []) all q y at h in
    let word : own.0.word ≡ c = own.3 in
    let least = place_least tickets code i own.0 d ordered parts own.1 (omega arith) in
    let less : c < (get_or tickets i d).word = beyond small least.0 in
    absurd (omega (arith, least.1))))

coded_word : (bits code : ℕ) → code ≡ word_of bits (0 ∷ code ∷ [])
unfolding word_of
coded_word bits code = refl

-- no ticket before the place has a greater number
none_at : (text : List ℕ) (lines : List Line) (bits : ℕ) (tickets : List Ticket) (code word i : ℕ) → AreTickets text lines bits tickets → Parts code tickets i → code ≤ word
    → NoneBefore text lines (0 ∷ word ∷ []) tickets i
none_at text lines bits tickets code word i all parts le =
    none_below text lines bits tickets (0 ∷ word ∷ []) word i all (coded_word bits word) (λ k d low high. let less : (get_or tickets k d).word < code = parts.0 k d low high in omega arith)

-- a ticket with a small number is that of an object's section
pub its_section : (text : List ℕ) (lines : List Line) (bits : ℕ) (tickets : List Ticket) (code i : ℕ) (d : Ticket) (e : Line)
    → AreTickets text lines bits tickets → AreOrdered tickets → Parts code tickets i → i < length tickets → (get_or tickets i d).word < 2 ^ 63
    → (code ≤ (get_or tickets i d).word)
    × (first_from 1 (is_found_by text (0 ∷ (get_or tickets i d).word ∷ [])) lines ≡ Some ((get_or tickets i d).line, get_or lines ((get_or tickets i d).line - 1) e))
its_section text lines bits tickets code i d e all ordered parts lt small =
    let t = get_or tickets i d in
    let own : IsTicket text lines bits t = all.sound i d lt in
    let key : line_key text own.1.0 ≡ Some (0 ∷ t.word ∷ []) = small_found text own.1.0 bits t.word own.1.2 small in
    let passes : is_found_by text (0 ∷ t.word ∷ []) own.1.0 ≡ true =
    ap (λ o. has_key o (0 ∷ t.word ∷ [])) key ∙ (bytes_eq-Decides (0 ∷ t.word ∷ []) (0 ∷ t.word ∷ [])).1 refl in
    let same : get_or lines (t.line - 1) e ≡ own.1.0 = get_or_from_slice_get lines (t.line - 1) own.1.0 e own.1.1 in
    let first = first_found text lines bits tickets (0 ∷ t.word ∷ []) i d own.1.0 all ordered (none_at text lines bits tickets code t.word i all parts (parts.1 i d (omega arith) lt)) lt own.0 own.1.1 passes in
    (parts.1 i d (omega arith) lt, first ∙ ap (λ x. Some (t.line, x)) (sym same))

pub ordered_more : (tickets : List Ticket) (i : ℕ) (d : Ticket) → 1 ≤ i → i < length tickets → is_ahead (get_or tickets (i - 1) d) (get_or tickets i d) ≡ true
    → AllAdjacentBelow (λ ticket next. is_ahead ticket next ≡ true) tickets i → AllAdjacentBelow (λ ticket next. is_ahead ticket next ≡ true) tickets (i + 1)
ordered_more tickets i e pos lt ahead so_far =
    all_adjacent_more tickets (λ ticket next. is_ahead ticket next ≡ true) i pos so_far (λ d.
    let one : get_or tickets (i - 1) d ≡ get_or tickets (i - 1) e = get_or_same tickets (i - 1) e d (omega arith) in
    let two : get_or tickets i d ≡ get_or tickets i e = get_or_same tickets i e d lt in
    rw (one, two) ahead)
