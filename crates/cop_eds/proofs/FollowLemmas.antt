-- Lines that follow one another.
use Rattle.std.proofs.Common.{◌≡◌, ◌∙◌, ℕ, zero, suc, ◌+◌, List, [], ◌∷◌, length, drop, Some, sym, ap, arith, length-append, length-drop}
use Rattle.std.specs.Prelude.{slice_get}
use Rattle.std.specs.List.{concat}
use Rattle.cop_eds.specs.declared.line.Line.{Line}
use Rattle.cop_eds.specs.Text.{mark_len, cut}
use Rattle.cop_eds.specs.Lines.{line_of, lines_from, lines_of}
use Rattle.cop_eds.proofs.InsideLemmas.{mark_inside}
use Rattle.cop_eds.proofs.LawLemmas.{concat_cut}

first_at : (at before : ℕ) (raws : List (List ℕ)) (a : Line) → slice_get (lines_from at before raws) 0 ≡ Some a → a.from ≡ at
first_at at before [] a h = cc
first_at at before (raw ∷ raws) a h = let e : line_of at before raw ≡ a = cc in sym (ap (λ (l : Line). l.from) e)

follows : (at before k : ℕ) (raws : List (List ℕ)) (a b : Line) → slice_get (lines_from at before raws) k ≡ Some a → slice_get (lines_from at before raws) (suc k) ≡ Some b → b.from ≡ a.next
follows at before k [] a b h g = cc
follows at before zero (raw ∷ raws) a b h g =
    let e : line_of at before raw ≡ a = cc in
    first_at (at + length raw) (line_of at before raw).section raws b g ∙ ap (λ (l : Line). l.next) e
follows at before (suc k) (raw ∷ raws) a b h g = follows (at + length raw) (line_of at before raw).section k raws a b h g

last_ends : (at before k : ℕ) (raws : List (List ℕ)) (a : Line) → slice_get (lines_from at before raws) k ≡ Some a → suc k ≡ length (lines_from at before raws) → a.next ≡ at + length (concat raws)
last_ends at before k [] a h e = cc
last_ends at before zero (raw ∷ []) a h e =
    let same : line_of at before raw ≡ a = cc in
    let n = length-append raw [] in
    sym (ap (λ (l : Line). l.next) same) ∙ omega (arith, n)
last_ends at before zero (raw ∷ other ∷ raws) a h e = absurd (omega (arith, e))
last_ends at before (suc k) (raw ∷ raws) a h e =
    let rest = last_ends (at + length raw) (line_of at before raw).section k raws a h (omega (arith, e)) in
    let n = length-append raw (concat raws) in
    omega (arith, rest, n)

pub lines_begin : (text : List ℕ) (a : Line) → slice_get (lines_of text) 0 ≡ Some a → a.from ≡ mark_len text
lines_begin text a h = first_at (mark_len text) 0 (cut (drop (mark_len text) text)) a h

pub lines_follow : (text : List ℕ) (k : ℕ) (a b : Line) → slice_get (lines_of text) k ≡ Some a → slice_get (lines_of text) (k + 1) ≡ Some b → b.from ≡ a.next
lines_follow text k a b h g = follows (mark_len text) 0 k (cut (drop (mark_len text) text)) a b h (ap (slice_get (lines_of text)) (omega arith) ∙ g)

pub lines_end : (text : List ℕ) (k : ℕ) (a : Line) → slice_get (lines_of text) k ≡ Some a → k + 1 ≡ length (lines_of text) → a.next ≡ length text
lines_end text k a h e =
    let small = mark_inside text in
    let ends = last_ends (mark_len text) 0 k (cut (drop (mark_len text) text)) a h (omega (arith, e)) in
    let all = ap length (concat_cut (drop (mark_len text) text)) in
    let n = length-drop (mark_len text) text in
    omega (arith, ends, all, n, small)
