-- Changes at the front of others.
use Rattle.std.proofs.Common.{◌≡◌, ℕ, ◌+◌, ◌-◌, ◌≤◌, Bool, true, false, ◌&&◌, ◌==◌, cond, List, [], ◌∷◌, ◌++◌, length, take, drop, slice_index, arith, nat_lt, Some, None, position, unwrap_or, refl, ap, ◌∙◌, take-append-drop, append-nil}
use Rattle.std.specs.List.{position_or_len, concat}
use Rattle.std.proofs.lemmas.List.Sums.{prefix_len-le-length}
use Rattle.std.proofs.lemmas.Bool.Decides.{nat_tests}
use Rattle.cop_eds.specs.Text.{end_len, mark_len}
use Rattle.cop_eds.proofs.LawLemmas.{concat_cut}
use Rattle.cop_change.specs.Told.{are_told_from, are_told}
use Rattle.cop_change.specs.Applied.{body_of, ending_of, ended, newline_of, line_with, lines_with, lines_of, applied}

either : (m n : ℕ) → m ≤ n → unwrap_or (cond (nat_lt m n) (Some m) None) n ≡ m
either m n le = grind (arith, nat_tests)

pub position_or : {X : Type 0} (p : X → Bool) (xs : List X) → unwrap_or (position p xs) (length xs) ≡ position_or_len p xs
position_or p xs = either (position_or_len p xs) (length xs) (prefix_len-le-length _ xs)

open_end : (newline body ending : List ℕ) → ended newline body ending false ≡ ending
open_end newline body ending = closed (length ending == 0)
  where
    closed : (b : Bool) → cond (b && false) (cond (slice_index body (length body - 1) == 13) (13 ∷ 10 ∷ []) newline) ending ≡ ending
    closed true = refl
    closed false = refl

line_nothing : (newline raw : List ℕ) → line_with newline raw [] ≡ raw
line_nothing newline raw =
    append-nil _ ∙ ap (λ e. body_of raw ++ e) (open_end newline (body_of raw) (ending_of raw)) ∙ take-append-drop (length raw - end_len raw) raw

lines_nothing : (newline : List ℕ) (place : ℕ) (raws : List (List ℕ)) → lines_with newline place raws [] ≡ concat raws
lines_nothing newline place [] = refl
lines_nothing newline place (raw ∷ raws) = ap (λ a. a ++ lines_with newline (place + 1) raws []) (line_nothing newline raw) ∙ ap (λ a. raw ++ a) (lines_nothing newline (place + 1) raws)

-- a text with no changes is the text
pub applied_nothing : (text : List ℕ) → applied text [] ≡ text
applied_nothing text =
    ap (λ a. take (mark_len text) text ++ a) (lines_nothing (newline_of (lines_of text)) 1 (lines_of text) ∙ concat_cut (drop (mark_len text) text))
    ∙ take-append-drop (mark_len text) text

-- no change tells all that there is to tell
none_told : (place : ℕ) (raws : List (List ℕ)) → are_told_from place raws [] ≡ true
none_told place [] = refl
none_told place (raw ∷ raws) = none_told (place + 1) raws

pub nothing_told : (text : List ℕ) → are_told text [] ≡ true
nothing_told text = none_told 1 (lines_of text)
