-- Lines that are in no change.
use Rattle.std.proofs.Common.{◌≡◌, ℕ, ◌+◌, ◌-◌, Bool, true, false, ◌&&◌, ◌==◌, cond, List, [], ◌∷◌, ◌++◌, length, take, drop, slice_index, refl, ap, ◌∙◌, take-append-drop, append-nil}
use Rattle.cop_eds.specs.Text.{end_len}
use Rattle.cop_change.specs.declared.change.Change.{Change}
use Rattle.cop_change.specs.Applied.{here, body_of, ending_of, ended, line_with, lines_with}

open_end : (newline body ending : List ℕ) → ended newline body ending false ≡ ending
open_end newline body ending = closed (length ending == 0)
  where
    closed : (b : Bool) → cond (b && false) (cond (slice_index body (length body - 1) == 13) (13 ∷ 10 ∷ []) newline) ending ≡ ending
    closed true = refl
    closed false = refl

pub line_stands : (newline raw : List ℕ) → line_with newline raw [] ≡ raw
line_stands newline raw =
    append-nil _ ∙ ap (λ e. body_of raw ++ e) (open_end newline (body_of raw) (ending_of raw)) ∙ take-append-drop (length raw - end_len raw) raw

by_count : (newline : List ℕ) (place n : ℕ) (raw : List ℕ) (raws : List (List ℕ)) (changes : List Change) → n ≡ 0
    → line_with newline raw (take n changes) ++ lines_with newline (place + 1) raws (drop n changes) ≡ raw ++ lines_with newline (place + 1) raws changes
by_count newline place n raw raws changes e = rw e (ap (λ a. a ++ lines_with newline (place + 1) raws changes) (line_stands newline raw))

pub untold_stands : (newline : List ℕ) (place : ℕ) (raw : List ℕ) (raws : List (List ℕ)) (changes : List Change) → here place changes ≡ 0
    → lines_with newline place (raw ∷ raws) changes ≡ raw ++ lines_with newline (place + 1) raws changes
untold_stands newline place raw raws changes e = by_count newline place (here place changes) raw raws changes e
