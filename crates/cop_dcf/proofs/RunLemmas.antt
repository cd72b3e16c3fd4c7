-- Lines that stand as they are, one behind the other.
use Rattle.std.proofs.Common.{◌≡◌, ℕ, ◌+◌, ◌-◌, ◌<◌, ◌≤◌, List, [], ◌∷◌, ◌++◌, length, take, drop, slice_range, sym, ap, ◌∙◌, arith, refl, append_assoc, get_or, Some}
use Rattle.std.proofs.lemmas.List.{drop_more, take_all, length-drop}
use Rattle.std.proofs.lemmas.Option.{slice_get-get_or}
use Rattle.cop_eds.specs.Edits.{Change}
use Rattle.cop_dcf.specs.Pieces.{piece_of, pieces_of}
use Rattle.std.specs.Prelude.{slice_get}
use Rattle.cop_eds.specs.declared.line.Line.{Line}
use Rattle.cop_eds.specs.Lines.{IsInside, lines_of}
use Rattle.cop_eds.proofs.FollowLemmas.{lines_follow}
use Rattle.cop_dcf.specs.declared.writing.Run.{Run}
use Rattle.cop_dcf.specs.Runs.{IsRun, run_of, IsBehind, Extends}
use Rattle.cop_dcf.proofs.PieceLemmas.{slices_join}

no_bytes : (text : List ℕ) (at : ℕ) → slice_range text at at ≡ []
no_bytes text at = let none : at - at ≡ 0 = omega arith in rw none refl

pub no_run : (text : List ℕ) (run : Run) → run.from ≡ run.to → run_of text run ≡ []
no_run text run e = rw e (no_bytes text run.to)

pub begins : (text : List ℕ) (run longer : Run) (line : Line) → run.from ≡ run.to → IsInside (length text) line → longer.from ≡ line.from → longer.to ≡ line.next → Extends text run line longer
begins text run longer line e inside from to = record {
  is = (let b = inside.bytes in let n = inside.ending in let a = inside.all in record { rising = omega (arith, from, to, b, n); inside = omega (arith, to, a) });
  to = to;
  bytes = rw (from, to, no_run text run e) refl;
}

pub goes_on : (text : List ℕ) (run longer : Run) (line : Line) → (run.from ≡ run.to → ⊥) → IsRun text run → IsInside (length text) line → IsBehind run line → longer.from ≡ run.from → longer.to ≡ line.next → Extends text run line longer
goes_on text run longer line some is inside behind from to =
    let rising = is.rising in
    let within = is.inside in
    let bytes = inside.bytes in
    let ending = inside.ending in
    let all = inside.all in
    let less : run.from < run.to = omega (arith, rising, some) in
    let next : line.from ≡ run.to = behind less in
    record {
      is = record { rising = omega (arith, from, to, rising, next, bytes, ending); inside = omega (arith, to, all) };
      to = to;
      bytes = rw (from, to, next) (sym (slices_join text run.from run.to line.next rising (omega (arith, next, bytes, ending)) within));
    }

-- the line behind the one at a place
pub line_behind : (text : List ℕ) (lines : List Line) (at : ℕ) (d : Line) (run : Run) (next : Line) → lines ≡ lines_of text → at < length lines → (run.from < run.to → run.to ≡ (get_or lines at d).next)
    → slice_get lines (at + 1) ≡ Some next → run.from < run.to → next.from ≡ run.to
line_behind text lines at d run next is within to follows some =
    let here : slice_get lines at ≡ Some (get_or lines at d) = slice_get-get_or lines at d within in
    lines_follow text at (get_or lines at d) next (ap (λ (ls : List Line). slice_get ls at) (sym is) ∙ here) (ap (λ (ls : List Line). slice_get ls (at + 1)) (sym is) ∙ follows) ∙ sym (to some)

pub line_put : (text newline : List ℕ) (table : List (List Change)) (lines : List Line) (at : ℕ) (d : Line) (run left : List ℕ) (before after all : List ℕ) → at < length lines
    → (keys : List Change) → keys ≡ get_or table (get_or lines at d).section []
    → after ++ left ≡ (before ++ run) ++ piece_of text newline keys (get_or lines at d) (take (length lines - (at + 1)) (drop (at + 1) lines))
    → (before ++ run) ++ pieces_of text newline table (drop at lines) ≡ all
    → (after ++ left) ++ pieces_of text newline table (drop (at + 1) lines) ≡ all
line_put text newline table lines at d run left before after all within keys is put done =
    let more : drop at lines ≡ get_or lines at d ∷ drop (at + 1) lines = drop_more lines at d within in
    let later = drop (at + 1) lines in
    let whole : take (length lines - (at + 1)) later ≡ later = take_all (length lines - (at + 1)) later (omega (arith, length-drop (at + 1) lines)) in
    rw (put, is, whole) (append_assoc (before ++ run) (piece_of text newline (get_or table (get_or lines at d).section []) (get_or lines at d) later) (pieces_of text newline table later)
    ∙ ap (λ (ls : List Line). (before ++ run) ++ pieces_of text newline table ls) (sym more) ∙ done)
