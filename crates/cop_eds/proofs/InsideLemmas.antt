-- Lines and their ends lie in their text.
use Rattle.std.proofs.Common.{◌≡◌, ◌≤◌, ℕ, ◌+◌, ◌-◌, Bool, true, false, ◌&&◌, cond, List, [], ◌∷◌, length, drop, All, ap, ◌∙◌, arith, length-append, length-drop}
use Rattle.std.specs.Prelude.{nat_eq}
use Rattle.std.specs.List.{concat, starts_with}
use Rattle.std.proofs.lemmas.List.Elements.{All-cons}
use Rattle.cop_eds.specs.Text.{mark_len, cut}
use Rattle.cop_eds.specs.Lines.{IsInside, line_of, lines_from, lines_of}
use Rattle.cop_eds.proofs.LawLemmas.{concat_cut}

-- a mark is no longer than its text
pub mark_inside : (text : List ℕ) → mark_len text ≤ length text
mark_inside [] = omega arith
mark_inside (a ∷ []) = by_test (nat_eq 239 a)
  where
    by_test : (p : Bool) → cond (p && false) 3 0 ≤ 1
    by_test true = omega arith
    by_test false = omega arith
mark_inside (a ∷ b ∷ []) = by_test (nat_eq 239 a) (nat_eq 187 b)
  where
    by_test : (p q : Bool) → cond (p && (q && false)) 3 0 ≤ 2
    by_test true true = omega arith
    by_test true false = omega arith
    by_test false q = omega arith
mark_inside (a ∷ b ∷ c ∷ rest) = by_test (starts_with nat_eq (a ∷ b ∷ c ∷ rest) (239 ∷ 187 ∷ 191 ∷ []))
  where
    by_test : (p : Bool) → cond p 3 0 ≤ length (a ∷ b ∷ c ∷ rest)
    by_test true = omega arith
    by_test false = omega arith

inside_from : (size at before : ℕ) (raws : List (List ℕ)) → at + length (concat raws) ≤ size → All (IsInside size) (lines_from at before raws)
inside_from size at before [] h = λ k d lt. absurd (omega arith)
inside_from size at before (raw ∷ raws) h =
    let whole : length (concat (raw ∷ raws)) ≡ length raw + length (concat raws) = length-append raw (concat raws) in
    All-cons (IsInside size) (line_of at before raw) (lines_from (at + length raw) (line_of at before raw).section raws)
    (record { bytes = omega arith; ending = omega arith; all = omega arith })
    (inside_from size (at + length raw) (line_of at before raw).section raws (omega arith))

pub lines_inside : (text : List ℕ) → All (IsInside (length text)) (lines_of text)
lines_inside text =
    let mark : mark_len text ≤ length text = mark_inside text in
    let rest : length (concat (cut (drop (mark_len text) text))) ≡ length text - mark_len text = ap length (concat_cut (drop (mark_len text) text)) ∙ length-drop (mark_len text) text in
    inside_from (length text) (mark_len text) 0 (cut (drop (mark_len text) text)) (omega arith)
