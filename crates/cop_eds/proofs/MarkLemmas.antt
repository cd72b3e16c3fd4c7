-- Marks of the numbers that stand for names.
use Rattle.std.proofs.Common.{◌≡◌, ◌≢◌, ◌==◌, ◌+◌, ◌*◌, ◌/◌, ◌%◌, ◌^◌, ◌<◌, ◌≤◌, ◌-◌, ℕ, Bool, true, false, List, length, get_or, set, Contains, None, refl, sym, ap, subst, ◌∙◌, max, bit_or, arith, ⊎_elim}
use Rattle.std.specs.Int.{bit_at}
use Rattle.std.proofs.Math.Nat.{mod-eq_of_lt}
use Rattle.std.proofs.Math.Pow.{pow-lt}
use Rattle.std.proofs.lemmas.Bool.{cases_eq, eq-eqb, eqb-true}
use Rattle.std.proofs.lemmas.List.{get_or-set_same, get_or-set_other, get_or_past, get_or_default}
use Rattle.std.proofs.lemmas.Nat.Bits.{bit_at_or, bit_at-lt, bit_at-pow_same, bit_at_ones}
use Rattle.cop_eds.specs.declared.tickets.Ticket.{Ticket}
use Rattle.cop_eds.specs.Marks.{mark_of, is_marked, AreMarked}
use Rattle.cop_eds.proofs.IndexLemmas.{at_last}
use Rattle.cop_eds.proofs.ListLemmas.{get_or_same}

-- a bit that is set stays so where others are set besides
still_one : (a b i : ℕ) → bit_at a i ≡ 1 → bit_at (bit_or a b) i ≡ 1
still_one a b i one = bit_at_or a b i ∙ omega (arith, one, bit_at-lt b i)

-- the bit that is set
one_there : (a i : ℕ) → bit_at (bit_or a (2 ^ i)) i ≡ 1
one_there a i = bit_at_or a (2 ^ i) i ∙ omega (arith, bit_at-pow_same i, bit_at-lt a i)

-- one bit of a word
pub one_bit : (i : ℕ) → i < 64 → 1 * 2 ^ i % 18446744073709551616 ≡ 2 ^ i
one_bit i lt =
    let less : 2 ^ i < 2 ^ 64 = pow-lt lt in
    ap (λ n. n % 18446744073709551616) (one_times i) ∙ mod-eq_of_lt less
  where
    one_times : (i : ℕ) → 1 * 2 ^ i ≡ 2 ^ i
    one_times i = omega arith

-- the words of the marks after one is set
pub set_there : (marks : List ℕ) (mark bit : ℕ) → mark / 64 < length marks → bit ≡ 2 ^ (mark % 64)
    → is_marked (set marks (mark / 64) (bit_or (get_or marks (mark / 64) 0) bit)) mark ≡ true
set_there marks mark bit inside is =
    let here = get_or-set_same marks (mark / 64) (bit_or (get_or marks (mark / 64) 0) bit) (2 ^ 64 - 1) inside in
    let one : bit_at (bit_or (get_or marks (mark / 64) 0) bit) (mark % 64) ≡ 1 = rw is (one_there (get_or marks (mark / 64) 0) (mark % 64)) in
    eq-eqb _ 1 (ap (λ n. bit_at n (mark % 64)) here ∙ one)

pub set_kept : (marks : List ℕ) (mark bit other : ℕ) → mark / 64 < length marks → is_marked marks other ≡ true
    → is_marked (set marks (mark / 64) (bit_or (get_or marks (mark / 64) 0) bit)) other ≡ true
set_kept marks mark bit other inside was =
    let word = bit_or (get_or marks (mark / 64) 0) bit in
    let one : bit_at (get_or marks (other / 64) (2 ^ 64 - 1)) (other % 64) ≡ 1 = eqb-true _ 1 was in
    ⊎_elim
    (λ (same : mark / 64 ≡ other / 64).
    let here : get_or (set marks (mark / 64) word) (other / 64) (2 ^ 64 - 1) ≡ word = rw (← same) (get_or-set_same marks (mark / 64) word (2 ^ 64 - 1) inside) in
    let before : get_or marks (other / 64) (2 ^ 64 - 1) ≡ get_or marks (mark / 64) 0 = rw (← same) (get_or_default marks (mark / 64) (2 ^ 64 - 1) 0 inside) in
    eq-eqb _ 1 (ap (λ n. bit_at n (other % 64)) here ∙ still_one (get_or marks (mark / 64) 0) bit (other % 64) (rw before at one)))
    (λ (apart : mark / 64 ≢ other / 64).
    let here : get_or (set marks (mark / 64) word) (other / 64) (2 ^ 64 - 1) ≡ get_or marks (other / 64) (2 ^ 64 - 1) = (get_or-set_other marks (mark / 64) (other / 64) word (2 ^ 64 - 1) (λ e. apart (sym e))) in
    eq-eqb _ 1 (ap (λ n. bit_at n (other % 64)) here ∙ one))
    (cases_eq (mark / 64) (other / 64))

-- where there is no word for a mark it counts as set
pub past_marked : (marks : List ℕ) (mark : ℕ) → length marks ≤ mark / 64 → is_marked marks mark ≡ true
past_marked marks mark past =
    eq-eqb _ 1 (ap (λ n. bit_at n (mark % 64)) (get_or_past marks (mark / 64) (2 ^ 64 - 1) past) ∙ bit_at_ones 64 (mark % 64) (omega arith))

-- the marks of the tickets before a place
abbrev pub MarkedTo : ℕ → List ℕ → List Ticket → ℕ → Type 0
MarkedTo bits marks tickets i = (k : ℕ) (d : Ticket) → k < i → k < length tickets → is_marked marks (mark_of bits (get_or tickets k d).word) ≡ true

pub marked_more : (bits : ℕ) (marks new : List ℕ) (tickets : List Ticket) (i : ℕ) (t d : Ticket) → t ≡ get_or tickets i d → i < length tickets
    → is_marked new (mark_of bits t.word) ≡ true → ((other : ℕ) → is_marked marks other ≡ true → is_marked new other ≡ true)
    → MarkedTo bits marks tickets i → MarkedTo bits new tickets (i + 1)
marked_more bits marks new tickets i t d it inside here kept so_far k e less lt =
    ⊎_elim
    (λ before. kept (mark_of bits (get_or tickets k e).word) (so_far k e before lt))
    (λ same.
    let place : t ≡ get_or tickets k e = it ∙ get_or_same tickets i e d inside ∙ sym (ap (λ n. get_or tickets n e) same) in
    subst (λ (x : Ticket). is_marked new (mark_of bits x.word) ≡ true) place here)
    (at_last k i less)

pub all_marked : (bits : ℕ) (marks : List ℕ) (tickets : List Ticket) (i : ℕ) → length tickets ≤ i → MarkedTo bits marks tickets i → AreMarked bits marks tickets
all_marked bits marks tickets i le so_far ticket c =
    subst (λ (x : Ticket). is_marked marks (mark_of bits x.word) ≡ true) c.2 (so_far c.0 ticket (omega (arith, c.1)) c.1)
