-- Changes that tell what stood at their lines.
use Rattle.std.proofs.Common.{◌≡◌, suc, length-take, ◌∙◌, ℕ, ◌+◌, ◌<◌, Bool, true, false, not, ◌&&◌, ◌==◌, cond, List, [], ◌∷◌, length, take, drop, get_or, refl, ap, subst, arith, All, take-append-drop}
use Rattle.std.specs.List.{list_all}
use Rattle.std.specs.Str.{bytes_eq}
use Rattle.std.proofs.lemmas.Bool.{eqb-true, and_parts}
use Rattle.std.proofs.lemmas.Slice.Eq.{bytes_eq-Decides}
use Rattle.std.proofs.lemmas.List.{get_or-take}
use Rattle.std.proofs.lemmas.List.Sums.{fails_before_first}
use Rattle.std.proofs.lemmas.List.Elements.{All-append, All-cons, All-nil}
use Rattle.cop_change.specs.declared.change.Change.{Change}
use Rattle.cop_change.specs.Applied.{here, body_of, lines_of}
use Rattle.cop_change.specs.Told.{is_addition, is_told, is_line_told, are_told_from, are_told, IsOfLine}

addition_told : (b e x : Bool) → (b && e) ≡ true → cond b e x ≡ true
addition_told true e x h = h
addition_told false e x h = cc

nothing_is : {X : Type 0} (xs : List X) → (length xs == 0) ≡ true → xs ≡ []
nothing_is [] h = refl
nothing_is (x ∷ xs) h = let none = eqb-true (suc (length xs)) 0 h in absurd (omega (arith, none))

additions_told : (raw : List ℕ) (changes : List Change) → list_all is_addition changes ≡ true → All (λ change. is_told raw change ≡ true) changes
additions_told raw [] h = All-nil (λ change. is_told raw change ≡ true)
additions_told raw (c ∷ cs) h =
    let parts = and_parts _ _ h in
    All-cons (λ change. is_told raw change ≡ true) c cs (addition_told c.is_added (length c.old.items == 0) (bytes_eq c.old.items (body_of raw)) parts.0) (additions_told raw cs parts.1)

line_told : (raw : List ℕ) (changes : List Change) → is_line_told raw changes ≡ true → All (λ change. is_told raw change ≡ true) changes
line_told raw [] h = All-nil (λ change. is_told raw change ≡ true)
line_told raw (c ∷ cs) h = let parts = and_parts _ _ h in All-cons (λ change. is_told raw change ≡ true) c cs parts.0 (additions_told raw cs parts.1)

same_bytes : (xs ys : List ℕ) → bytes_eq xs ys ≡ true → xs ≡ ys
same_bytes xs ys h = (bytes_eq-Decides xs ys).0 h

-- a change that tells what stood at a line
told_of : (first : ℕ) (raw : List ℕ) (raws : List (List ℕ)) (change : Change) → change.place ≡ first → is_told raw change ≡ true → IsOfLine first (raw ∷ raws) change
told_of first raw raws change its told = record {
  line = 0;
  within = omega arith;
  its = omega (arith, its);
  changed = λ no. same_bytes change.old.items (body_of raw) (rw no at told);
  added = λ yes. nothing_is change.old.items (rw yes at told);
}

-- the same of a later line
told_later : (first : ℕ) (raw : List ℕ) (raws : List (List ℕ)) (change : Change) → IsOfLine (first + 1) raws change → IsOfLine first (raw ∷ raws) change
told_later first raw raws change h = record {
  line = suc h.line;
  within = (let w = h.within in omega (arith, w));
  its = (let i = h.its in omega (arith, i));
  changed = h.changed;
  added = h.added;
}

here_of : (first : ℕ) (changes : List Change) (k : ℕ) (d : Change) → k < here first changes → (get_or changes k d).place ≡ first
here_of first changes k d below =
    let other = fails_before_first (λ (change : Change). not (change.place == first)) changes k d below in
    eqb-true (get_or changes k d).place first (unnot ((get_or changes k d).place == first) other)
  where
    unnot : (b : Bool) → not b ≡ false → b ≡ true
    unnot true h = refl
    unnot false h = cc

all_told : (first : ℕ) (raws : List (List ℕ)) (changes : List Change) → are_told_from first raws changes ≡ true → All (IsOfLine first raws) changes
all_told first [] changes h = rw (nothing_is changes h) (All-nil (IsOfLine first []))
all_told first (raw ∷ raws) changes h =
    let parts = and_parts _ _ h in
    let own = line_told raw (take (here first changes) changes) parts.0 in
    let rest = all_told (first + 1) raws (drop (here first changes) changes) parts.1 in
    let P : List Change → Type 0 = λ xs. All (IsOfLine first (raw ∷ raws)) xs in
    subst P (take-append-drop (here first changes) changes)
    (All-append (IsOfLine first (raw ∷ raws)) (take (here first changes) changes) (drop (here first changes) changes)
    (λ k d inside. told_of first raw raws (get_or (take (here first changes) changes) k d) (placed k d inside) (own k d inside))
    (λ k d inside. told_later first raw raws (get_or (drop (here first changes) changes) k d) (rest k d inside)))
  where
    placed : (k : ℕ) (d : Change) → k < length (take (here first changes) changes) → (get_or (take (here first changes) changes) k d).place ≡ first
    placed k d inside =
        let n = length-take (here first changes) changes in
        let below : k < here first changes = omega (arith, n, inside) in
        ap (λ (c : Change). c.place) (get_or-take (here first changes) changes k d below) ∙ here_of first changes k d below

pub told_changes : (text : List ℕ) (changes : List Change) → are_told text changes ≡ true → All (IsOfLine 1 (lines_of text)) changes
told_changes text changes h = all_told 1 (lines_of text) changes h
