-- The indexes of a device, in rising order.
use Rattle.std.proofs.Common.{◌≡◌, ℕ, suc, ◌+◌, ◌-◌, ◌<◌, ◌≤◌, Bool, true, false, cond, List, [], ◌∷◌, filter, fold, refl, sym, ap, ◌∙◌, arith}
use Rattle.std.proofs.lemmas.List.Sums.{fold-append}
use Rattle.std.specs.Ordering.{nat_cmp}
use Rattle.std.specs.BTreeSet.{insert_key}
use Rattle.cop_eds.specs.Objects.{rising}
use Rattle.cop_tidy_reading.specs.Pdos.{implies}
use Rattle.cop_tidy_reading.specs.Objects.{Whole}
use Rattle.cop_tidy_reading.specs.Reading.{numbers_from, indexes_of}

numbers_behind : (first count : ℕ) → numbers_from first (suc count) ≡ first ∷ numbers_from (first + 1) count
unfolding numbers_from
numbers_behind first count = refl

next_number : (place : ℕ) → place < 0x800 → numbers_from (0x1400 + place) (0x800 - place) ≡ (0x1400 + place) ∷ numbers_from (0x1400 + (place + 1)) (0x800 - (place + 1))
next_number place lt =
    let e : 0x800 - place ≡ suc (0x800 - (place + 1)) = omega (arith, lt) in
    let f : (0x1400 + place) + 1 ≡ 0x1400 + (place + 1) = omega arith in
    rw e (numbers_behind (0x1400 + place) (0x800 - (place + 1)) ∙ ap (λ (n : ℕ). (0x1400 + place) ∷ numbers_from n (0x800 - (place + 1))) f)

fold_test : (t : Bool) (s : List ℕ) (x : ℕ) (xs : List ℕ) →
    fold (insert_key nat_cmp) s (cond t (x ∷ xs) xs) ≡ fold (insert_key nat_cmp) (cond t (insert_key nat_cmp s x) s) xs
fold_test true s x xs = refl
fold_test false s x xs = refl

-- the numbers that pass are the first one, where it passes, and those behind it
pub next_index : (p : ℕ → Bool) (s : List ℕ) (place : ℕ) → place < 0x800 →
    fold (insert_key nat_cmp) s (filter p (numbers_from (0x1400 + place) (0x800 - place)))
    ≡ fold (insert_key nat_cmp) (cond (p (0x1400 + place)) (insert_key nat_cmp s (0x1400 + place)) s) (filter p (numbers_from (0x1400 + (place + 1)) (0x800 - (place + 1))))
next_index p s place lt =
    ap (λ (ns : List ℕ). fold (insert_key nat_cmp) s (filter p ns)) (next_number place lt)
    ∙ fold_test (p (0x1400 + place)) s (0x1400 + place) (filter p (numbers_from (0x1400 + (place + 1)) (0x800 - (place + 1))))

-- no number is left
pub last_index : (p : ℕ → Bool) (s : List ℕ) (place : ℕ) → 0x800 ≤ place → fold (insert_key nat_cmp) s (filter p (numbers_from (0x1400 + place) (0x800 - place))) ≡ s
unfolding numbers_from
last_index p s place late = let e : 0x800 - place ≡ 0 = omega (arith, late) in rw e refl

-- those that the lists name and those that CompactPDO tells of are all
pub rises_all : (whole : Whole) (named all : List ℕ) → named ≡ fold (insert_key nat_cmp) [] whole.listed →
    all ≡ fold (insert_key nat_cmp) named (filter (implies whole.pdos whole.listed) (numbers_from 0x1400 0x800)) → all ≡ indexes_of whole
unfolding indexes_of rising
rises_all whole named all e f =
    f ∙ ap (λ (s : List ℕ). fold (insert_key nat_cmp) s (filter (implies whole.pdos whole.listed) (numbers_from 0x1400 0x800))) e
    ∙ sym (fold-append (insert_key nat_cmp) [] whole.listed (filter (implies whole.pdos whole.listed) (numbers_from 0x1400 0x800)))
