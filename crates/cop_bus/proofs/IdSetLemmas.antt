-- Sets of identifiers as words of bits.
use Rattle.std.proofs.Common.{◌≡◌, ◌≢◌, ℕ, ◌+◌, ◌*◌, ◌/◌, ◌%◌, ◌^◌, ◌<◌, ◌≤◌, ◌==◌, Bool, true, false, List, length, get_or, slice_set, nat_lt, bit_and, bit_or, inl, inr, refl, sym, ◌∙◌, ap, ap₂, subst, arith}
use Rattle.std.specs.Prelude.{Option, None, Some}
use Rattle.std.specs.Int.{bit_at, bit_not, w64}
use Rattle.std.proofs.lemmas.Bool.{cases_lt, cases_eq, eq-eqb, eqb-true, lt-ltb, le-ltb, ltb-true, ltb-false}
use Rattle.std.proofs.lemmas.List.{get_or-set_same, get_or-set_other, get_or_default}
use Rattle.std.proofs.lemmas.Nat.{and_le_l}
use Rattle.std.proofs.lemmas.Nat.Bits.{bit_at-zero, bit_at_set_same, bit_at_set_other, bit_at_clear_same, bit_at_clear_other}
use Rattle.cop_bus.specs.IdSets.{holds, IsLowestBit, IsLowestHeld, AreUsed}

-- what is held is told by the word and the bit
holds_in : (words : List ℕ) (n w b word : ℕ) → n / 64 ≡ w → n % 64 ≡ b → get_or words w 0 ≡ word → holds words n ≡ (bit_at word b == 1)
holds_in words n w b word e f g = ap₂ (λ x y. bit_at (get_or words x 0) y == 1) e f ∙ ap (λ x. bit_at x b == 1) g

one_true : (x : ℕ) → x ≡ 1 → (x == 1) ≡ true
one_true x e = eq-eqb x 1 e

none_false : (x : ℕ) → x ≡ 0 → (x == 1) ≡ false
none_false x e = ap (λ y. y == 1) e

-- ---- a bit that is set or cleared in its word

module _ (words : List ℕ) (n word : ℕ) (inside : n / 64 < length words) (its : word ≡ get_or words (n / 64) word) where
  there : word ≡ get_or words (n / 64) 0
  there = its ∙ get_or_default words (n / 64) word 0 inside

  -- another word of the same bits but for one
  others_in : (other : ℕ) → ((b : ℕ) → b < 64 → b ≢ n % 64 → bit_at other b ≡ bit_at word b) → (i : ℕ) → i ≢ n → holds (slice_set words (n / 64) other) i ≡ holds words i
  others_in other same i apart = elim (cases_eq (i / 64) (n / 64)) [
    | inl e ↦ ap (λ x. bit_at (get_or (slice_set words (n / 64) other) x 0) (i % 64) == 1) e
        ∙ ap (λ x. bit_at x (i % 64) == 1) (get_or-set_same words (n / 64) other 0 inside)
        ∙ ap (λ x. x == 1) (same (i % 64) (omega arith) (λ f. apart (omega (arith, e, f))))
        ∙ ap (λ x. bit_at x (i % 64) == 1) there
        ∙ ap (λ x. bit_at (get_or words x 0) (i % 64) == 1) (sym e)
    | inr d ↦ ap (λ x. bit_at x (i % 64) == 1) (get_or-set_other words (n / 64) (i / 64) other 0 d)
  ]

  pub set_here : holds (slice_set words (n / 64) (bit_or word (1 * 2 ^ (n % 64) % 18446744073709551616))) n ≡ true
  set_here = ap (λ x. bit_at x (n % 64) == 1) (get_or-set_same words (n / 64) _ 0 inside) ∙ one_true _ (bit_at_set_same w64 word (n % 64) (omega arith))

  pub clear_here : holds (slice_set words (n / 64) (bit_and word (bit_not w64 (1 * 2 ^ (n % 64) % 18446744073709551616)))) n ≡ false
  clear_here = ap (λ x. bit_at x (n % 64) == 1) (get_or-set_same words (n / 64) _ 0 inside) ∙ none_false _ (bit_at_clear_same w64 word (n % 64) (omega arith))

  pub set_others : (i : ℕ) → i ≢ n → holds (slice_set words (n / 64) (bit_or word (1 * 2 ^ (n % 64) % 18446744073709551616))) i ≡ holds words i
  set_others = others_in _ (λ b l d. bit_at_set_other w64 word (n % 64) (omega arith) b d)

  pub clear_others : (i : ℕ) → i ≢ n → holds (slice_set words (n / 64) (bit_and word (bit_not w64 (1 * 2 ^ (n % 64) % 18446744073709551616)))) i ≡ holds words i
  clear_others = others_in _ (λ b l d. bit_at_clear_other w64 word (n % 64) (omega arith) b l d)

  pub clear_fewer : (w : ℕ) → get_or (slice_set words (n / 64) (bit_and word (bit_not w64 (1 * 2 ^ (n % 64) % 18446744073709551616)))) w 0 ≤ get_or words w 0
  clear_fewer w = elim (cases_eq w (n / 64)) [
    | inl e ↦ (let a = get_or-set_same words (n / 64) (bit_and word (bit_not w64 (1 * 2 ^ (n % 64) % 18446744073709551616))) 0 inside in
        let b = and_le_l word (bit_not w64 (1 * 2 ^ (n % 64) % 18446744073709551616)) in
        let t = there in
        subst (λ v. get_or (slice_set words (n / 64) (bit_and word (bit_not w64 (1 * 2 ^ (n % 64) % 18446744073709551616)))) v 0 ≤ get_or words v 0) (sym e) (omega (arith, a, b, t)))
    | inr d ↦ (let a = get_or-set_other words (n / 64) w (bit_and word (bit_not w64 (1 * 2 ^ (n % 64) % 18446744073709551616))) 0 d in omega (arith, a))
  ]

-- ---- the lowest

pub lowest_found : (words : List ℕ) (w bit : ℕ) → ((v : ℕ) → v < w → get_or words v 0 ≡ 0) → IsLowestBit (get_or words w 0) (Some bit) → IsLowestHeld words (Some (64 * w + bit))
lowest_found words w bit none its =
    let within = its.0 in (
      holds_in words (64 * w + bit) w bit (get_or words w 0) (omega (arith, within)) (omega (arith, within)) refl ∙ one_true _ its.1,
      λ i l. elim (cases_lt (i / 64) w) [
        | inl m ↦ holds_in words i (i / 64) (i % 64) 0 refl refl (none (i / 64) m) ∙ none_false _ (bit_at-zero (i % 64))
        | inr m ↦ holds_in words i w (i % 64) (get_or words w 0) (omega (arith, l, m, within)) refl refl ∙ none_false _ (its.2 (i % 64) (omega (arith, l, m, within)))
      ],
    )

pub none_found : (words : List ℕ) → ((v : ℕ) → get_or words v 0 ≡ 0) → IsLowestHeld words None
none_found words none = λ i. holds_in words i (i / 64) (i % 64) 0 refl refl (none (i / 64)) ∙ none_false _ (bit_at-zero (i % 64))

-- a word without a bit
pub none_there : (words used : List ℕ) (w : ℕ) → AreUsed words used → holds used w ≡ false → get_or words w 0 ≡ 0
none_there words used w t e = (let l = ltb-false 0 (get_or words w 0) (sym (t.each w) ∙ e) in omega (arith, l))

-- a word with one
pub some_there : (words used : List ℕ) (w : ℕ) → AreUsed words used → holds used w ≡ true → 0 < get_or words w 0
some_there words used w t e = ltb-true 0 (get_or words w 0) (sym (t.each w) ∙ e)

-- what is held stands in a word that is not 0
pub held_some : (words : List ℕ) (n : ℕ) → holds words n ≡ true → 0 < get_or words (n / 64) 0
held_some words n e = elim (cases_lt 0 (get_or words (n / 64) 0)) [
  | inl l ↦ l
  | inr l ↦ (let zero : get_or words (n / 64) 0 ≡ 0 = omega (arith, l) in
      let none : bit_at (get_or words (n / 64) 0) (n % 64) ≡ 0 = ap (λ x. bit_at x (n % 64)) zero ∙ bit_at-zero (n % 64) in
      let one : bit_at (get_or words (n / 64) 0) (n % 64) ≡ 1 = eqb-true _ 1 e in
      absurd (omega (arith, none, one)))
]

-- ---- an identifier that comes or goes

module _ (words used : List ℕ) (id : ℕ) (t : AreUsed words used) (words' used' : List ℕ) (long : length words' ≡ length words) (as_long : length used' ≡ length used)
    (apart : (w : ℕ) → w ≢ id / 64 → get_or words' w 0 ≡ get_or words w 0) (others : (w : ℕ) → w ≢ id / 64 → holds used' w ≡ holds used w) where
  pub used_again : holds used' (id / 64) ≡ nat_lt 0 (get_or words' (id / 64) 0) → AreUsed words' used'
  used_again here = record {
    few = let l = t.few in omega (arith, l, long);
    fewer = let l = t.fewer in omega (arith, l, as_long);
    room = let l = t.room in omega (arith, l, long, as_long);
    each = λ w. elim (cases_eq w (id / 64)) [
      | inl e ↦ ap (holds used') e ∙ here ∙ ap (λ v. nat_lt 0 (get_or words' v 0)) (sym e)
      | inr d ↦ others w d ∙ t.each w ∙ ap (nat_lt 0) (sym (apart w d))
    ];
  }
