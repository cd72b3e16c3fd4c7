-- The text of a trace, line by line and record by record.
use Rattle.std.proofs.Common.{◌≡◌, ℕ, suc, ◌+◌, ◌<◌, ◌≤◌, Bool, true, false, cond, List, [], ◌∷◌, ◌++◌, length, take, drop, ◌-◌, length-drop, All, Option, Some, IfSome, Result, Ok, refl, sym, ap, subst, ◌∙◌, arith, append_assoc, append-nil, true≢false, None}
use Rattle.std.specs.Prelude.{Err, OnOk, is_err}
use Rattle.std.proofs.lemmas.List.{take_all}
use Rattle.std.proofs.lemmas.List.Elements.{All-head}
use Rattle.csv.specs.Reading.{strip_bom}
use Rattle.cop_rta.specs.declared.streams.Stream.{Stream}
use Rattle.cop_table.specs.Plain.{is_comma, is_quote, is_line_end, with_first, pieces, cut_lines}
use Rattle.cop_table.specs.Lines.{first_line}
use Rattle.cop_table.proofs.PlainLemmas.{plain_lines}
use Rattle.cop_table.proofs.LineLemmas.{first_line_taken}
use Rattle.cop_bus.specs.declared.steps.Step.{Step}
use Rattle.cop_bus.specs.declared.entries.Entry.TheVariants.{Taken, Until}
use Rattle.cop_bus.specs.Format.{Fields}
use Rattle.cop_bus.specs.Entries.{entry_in}
use Rattle.cop_bus.specs.Reading.{trace_from, trace_of}
use Rattle.cop_bus.proofs.TraceLemmas.{goes_on, stops}
use Rattle.cop_watch.specs.declared.watching.Watch.{Watch}
use Rattle.cop_watch.specs.declared.reading.Stage.{Stage}
use Rattle.cop_watch.specs.declared.reading.Stage.TheVariants.{Ended}
use Rattle.cop_watch.specs.declared.found.Found.{Found}
use Rattle.cop_watch.specs.declared.found.Found.TheVariants as found
use Rattle.cop_watch.specs.declared.found.Seen.{Seen}
use Rattle.cop_watch.specs.declared.found.Seen.TheVariants as seen
use Rattle.cop_watch.specs.Found.{Follows, FollowsBy, Finds, Decides}
use Rattle.cop_watch.specs.Reading.{trace_in, AreSteps, AreAll, IsAt, IsRead, TakesLine, Shows, is_mark_byte}

-- some piece comes first
first_piece : (text : List ℕ) → (piece : List ℕ) × (more : List (List ℕ)) × (pieces is_line_end text ≡ piece ∷ more)
first_piece [] = ([], [], refl)
first_piece (c ∷ text) = cut (is_line_end c) (pieces is_line_end text)
  where
    cut : (t : Bool) (ps : List (List ℕ)) → (piece : List ℕ) × (more : List (List ℕ)) × (cond t ([] ∷ ps) (with_first c ps) ≡ piece ∷ more)
    cut true ps = ([], ps, refl)
    cut false [] = (c ∷ [], [], refl)
    cut false (p ∷ ps) = (c ∷ p, ps, refl)

-- a line in which none ends
whole-head : (c : ℕ) (line : List ℕ) → first_line (c ∷ line) ≡ c ∷ line → (is_line_end c ≡ false) × (first_line line ≡ line)
whole-head c line h = go (is_line_end c) refl h
  where
    go : (t : Bool) → is_line_end c ≡ t → cond t [] (c ∷ first_line line) ≡ c ∷ line → (is_line_end c ≡ false) × (first_line line ≡ line)
    go true e f = absurd (cc)
    go false e f = (e, cc)

pub whole-append : (a b : List ℕ) → first_line a ≡ a → first_line b ≡ b → first_line (a ++ b) ≡ a ++ b
whole-append [] b h k = k
whole-append (c ∷ a) b h k = let w = whole-head c a h in rw w.0 (ap (λ xs. c ∷ xs) (whole-append a b w.1 k))

pub whole-first : (text : List ℕ) → first_line (first_line text) ≡ first_line text
whole-first [] = refl
whole-first (c ∷ text) = go (is_line_end c) refl (whole-first text)
  where
    go : (t : Bool) → is_line_end c ≡ t → first_line (first_line text) ≡ first_line text → first_line (cond t [] (c ∷ first_line text)) ≡ cond t [] (c ∷ first_line text)
    go true e h = refl
    go false e h = rw e (ap (λ xs. c ∷ xs) h)

-- a line that ends is a piece
line-then : (line : List ℕ) (c : ℕ) (more : List ℕ) → first_line line ≡ line → is_line_end c ≡ true → pieces is_line_end (line ++ c ∷ more) ≡ line ∷ pieces is_line_end more
line-then [] c more h e = rw e refl
line-then (b ∷ line) c more h e = let w = whole-head b line h in rw (w.0, line-then line c more w.1 e) refl

pub record-then : (line : List ℕ) (c : ℕ) (more : List ℕ) → first_line line ≡ line → is_line_end c ≡ true → (length line ≡ 0 → ⊥) →
    cut_lines (pieces is_line_end (line ++ c ∷ more)) ≡ pieces is_comma line ∷ cut_lines (pieces is_line_end more)
record-then [] c more h e some = absurd (some refl)
record-then (b ∷ line) c more h e some = rw (line-then (b ∷ line) c more h e) refl

-- a text that ends after its first line
pub divided : (text : List ℕ) → length (first_line text) < length text → (c : ℕ) × (is_line_end c ≡ true) × (text ≡ first_line text ++ c ∷ drop (length (first_line text) + 1) text)
divided [] l = absurd (omega (arith, l))
divided (c ∷ text) l = go (is_line_end c) refl l (divided text)
  where
    go : (t : Bool) → is_line_end c ≡ t → length (cond t [] (c ∷ first_line text)) < length (c ∷ text) →
        (length (first_line text) < length text → (c : ℕ) × (is_line_end c ≡ true) × (text ≡ first_line text ++ c ∷ drop (length (first_line text) + 1) text)) →
        (d : ℕ) × (is_line_end d ≡ true) × (c ∷ text ≡ cond t [] (c ∷ first_line text) ++ d ∷ drop (length (cond t [] (c ∷ first_line text)) + 1) (c ∷ text))
    go true e l ih = (c, e, refl)
    go false e l ih =
        let r = ih (omega (arith, l)) in
        let n : suc (length (first_line text)) + 1 ≡ suc (length (first_line text) + 1) = omega arith in
        (r.0, r.1, rw n (ap (λ xs. c ∷ xs) r.2))

-- a line's end behind a text gives no record more
ends-blank : (text : List ℕ) (c : ℕ) → is_line_end c ≡ true → pieces is_line_end (text ++ c ∷ []) ≡ pieces is_line_end text ++ [] ∷ []
ends-blank [] c e = rw e refl
ends-blank (b ∷ text) c e = go (is_line_end b) (ends-blank text c e)
  where
    go : (t : Bool) → pieces is_line_end (text ++ c ∷ []) ≡ pieces is_line_end text ++ [] ∷ [] →
        cond t ([] ∷ pieces is_line_end (text ++ c ∷ [])) (with_first b (pieces is_line_end (text ++ c ∷ []))) ≡ cond t ([] ∷ pieces is_line_end text) (with_first b (pieces is_line_end text)) ++ [] ∷ []
    go true h = ap (λ xs. [] ∷ xs) h
    go false h = let f = first_piece text in rw (h, f.2) refl

cut-blank : (lines : List (List ℕ)) → cut_lines (lines ++ [] ∷ []) ≡ cut_lines lines
cut-blank [] = refl
cut-blank ([] ∷ lines) = cut-blank lines
cut-blank ((c ∷ line) ∷ lines) = ap (λ rs. pieces is_comma (c ∷ line) ∷ rs) (cut-blank lines)

pub end-behind : (text : List ℕ) (c : ℕ) → is_line_end c ≡ true → cut_lines (pieces is_line_end (text ++ c ∷ [])) ≡ cut_lines (pieces is_line_end text)
end-behind text c e = ap cut_lines (ends-blank text c e) ∙ cut-blank (pieces is_line_end text)

-- a text without that byte has no mark
no-mark : (text : List ℕ) → All (λ c. is_mark_byte c ≡ false) text → strip_bom text ≡ text
unfolding strip_bom
no-mark [] h = refl
no-mark (a ∷ []) h = refl
no-mark (a ∷ b ∷ []) h = refl
no-mark (a ∷ b ∷ c ∷ text) h = rw (All-head (λ c. is_mark_byte c ≡ false) a (b ∷ c ∷ text) h) refl

pub trace-of-text : (text : List ℕ) → All (λ c. is_quote c ≡ false) text → All (λ c. is_mark_byte c ≡ false) text → trace_of text ≡ trace_in (cut_lines (pieces is_line_end text))
unfolding trace_of
trace-of-text text plain unmarked = ap trace_in (plain_lines text plain ∙ ap (λ (xs : List ℕ). cut_lines (pieces is_line_end xs)) (no-mark text unmarked))

-- ---- records

pub at-step : (tau : ℕ) (streams : List Stream) (rows : List Fields) (row : Fields) (step : Step) (w w' : Watch) → entry_in row ≡ Ok (Taken step) →
    ((steps : List Step) → Follows tau streams steps w → Follows tau streams (steps ++ step ∷ []) w') → AreSteps tau streams rows w → AreSteps tau streams (rows ++ row ∷ []) w'
at-step tau streams rows row step w w' e takes a = record {
  steps = a.steps ++ step ∷ [];
  place = a.place + 1;
  taken = takes a.steps a.taken;
  goes_on = λ more. ap trace_in (append_assoc rows (row ∷ []) more) ∙ a.goes_on (row ∷ more) ∙ sym (goes_on a.place a.steps row more (row ∷ more) (trace_from a.place a.steps (row ∷ more)) step refl e refl);
}

pub at-until : (tau : ℕ) (streams : List Stream) (rows : List Fields) (row : Fields) (until : ℕ) (w : Watch) → entry_in row ≡ Ok (Until until) → AreSteps tau streams rows w → AreAll tau streams (rows ++ row ∷ []) until w
at-until tau streams rows row until w e a = record {
  steps = a.steps;
  taken = a.taken;
  all = a.goes_on (row ∷ []) ∙ sym (stops a.place a.steps row [] (row ∷ []) (trace_from a.place a.steps (row ∷ [])) until refl e refl);
}

-- ---- lines

pub part-read : (tau : ℕ) (streams : List Stream) (text part line : List ℕ) (w : Watch) (stage : Stage) → first_line part ≡ part → IsRead tau streams text w line stage → IsRead tau streams (text ++ part) w (line ++ part) stage
part-read tau streams text part line w stage whole r = record {
  rows = r.rows;
  at = r.at;
  all = λ more. ap (λ (xs : List ℕ). cut_lines (pieces is_line_end xs)) (append_assoc text part more) ∙ r.all (part ++ more)
      ∙ ap (λ (xs : List ℕ). r.rows ++ cut_lines (pieces is_line_end xs)) (sym (append_assoc line part more));
  whole = whole-append line part r.whole whole;
}

pub line-read : (tau : ℕ) (streams : List Stream) (text line : List ℕ) (c : ℕ) (row : Fields) (w w' : Watch) (stage stage' : Stage) → is_line_end c ≡ true → (length line ≡ 0 → ⊥) → row ≡ pieces is_comma line →
    ((rows : List Fields) → IsAt tau streams rows w stage → IsAt tau streams (rows ++ row ∷ []) w' stage') → IsRead tau streams text w line stage → IsRead tau streams (text ++ c ∷ []) w' [] stage'
line-read tau streams text line c row w w' stage stage' e some is takes r = record {
  rows = r.rows ++ row ∷ [];
  at = takes r.rows r.at;
  all = λ more. ap (λ (xs : List ℕ). cut_lines (pieces is_line_end xs)) (append_assoc text (c ∷ []) more) ∙ r.all (c ∷ more)
      ∙ ap (λ rs. r.rows ++ rs) (record-then line c more r.whole e some ∙ ap (λ v. v ∷ cut_lines (pieces is_line_end more)) (sym is)) ∙ sym (append_assoc r.rows (row ∷ []) (cut_lines (pieces is_line_end more)));
  whole = refl;
}

-- a part of a line, or a line, that is taken off a text
pub part-taken : (rest line : List ℕ) (w w' : Watch) (line' : List ℕ) (stage stage' : Stage) → 0 < length rest →
    ((tau : ℕ) (streams : List Stream) (text : List ℕ) → IsRead tau streams text w line stage → IsRead tau streams (text ++ rest) w' line' stage') → TakesLine rest [] w line stage w' line' stage'
part-taken rest line w w' line' stage stage' some read = record { first = rest; divided = append-nil rest; shorter = some; read = read }

pub whole-taken : (rest : List ℕ) (len : ℕ) → len ≡ length (first_line rest) → take len rest ≡ first_line rest
whole-taken rest len e = ap (λ n. take n rest) e ∙ first_line_taken rest

pub line-taken : (rest line : List ℕ) (len : ℕ) (w w' : Watch) (line' : List ℕ) (stage stage' : Stage) → len ≡ length (first_line rest) → len ≤ length rest → (len ≡ length rest → ⊥) →
    ((tau : ℕ) (streams : List Stream) (text : List ℕ) (c : ℕ) → is_line_end c ≡ true → IsRead tau streams text w line stage → IsRead tau streams (text ++ (take len rest ++ c ∷ [])) w' line' stage') →
    TakesLine rest (take (length rest - (len + 1)) (drop (len + 1) rest)) w line stage w' line' stage'
line-taken rest line len w w' line' stage stage' e within not_all read =
    let d = divided rest (omega (arith, e, within, not_all)) in
    let first = whole-taken rest len e in
    let low : length (drop (len + 1) rest) ≤ length rest - (len + 1) = omega (arith, length-drop (len + 1) rest) in
    let left = take_all (length rest - (len + 1)) (drop (len + 1) rest) low in
    let behind : d.0 ∷ drop (length (first_line rest) + 1) rest ≡ d.0 ∷ drop (len + 1) rest = ap (λ n. d.0 ∷ drop (n + 1) rest) (sym e) in
    let all : (take len rest ++ d.0 ∷ []) ++ drop (len + 1) rest ≡ rest = append_assoc (take len rest) (d.0 ∷ []) (drop (len + 1) rest) ∙ ap (λ xs. xs ++ d.0 ∷ drop (len + 1) rest) first ∙ ap (λ xs. first_line rest ++ xs) (sym behind) ∙ sym d.2 in
    record {
      first = take len rest ++ d.0 ∷ [];
      divided = ap (λ xs. (take len rest ++ d.0 ∷ []) ++ xs) left ∙ all;
      shorter = (let n = ap (λ (xs : List ℕ). length xs) left in let m = length-drop (len + 1) rest in omega (arith, n, m, within, not_all));
      read = λ tau streams text r. read tau streams text d.0 d.1 r;
    }

-- a text whose records are those of a trace that was taken to its end
shown-all : (tau : ℕ) (streams : List Stream) (text : List ℕ) (rows : List Fields) (until : ℕ) (answer : Option Seen) (w : Watch) → All (λ c. is_quote c ≡ false) text → All (λ c. is_mark_byte c ≡ false) text →
    ((steps : List Step) → Follows tau streams steps w → IfSome answer (Decides tau streams until steps)) → cut_lines (pieces is_line_end text) ≡ rows → AreAll tau streams rows until w → IfSome answer (Shows tau streams text)
shown-all tau streams text rows until answer w plain unmarked finishes cut a = go answer (finishes a.steps a.taken)
  where
    told : trace_of text ≡ Ok (record { until = until; steps = a.steps })
    told = trace-of-text text plain unmarked ∙ ap trace_in cut ∙ a.all

    go : (o : Option Seen) → IfSome o (Decides tau streams until a.steps) → IfSome o (Shows tau streams text)
    go None h = tt
    go (Some (seen.Lawful count)) h = record { told = record { until = until; steps = a.steps }; is = told; clean = h.0; sent_is = h.1 }
    go (Some (seen.Broken step rule)) h = record { told = record { until = until; steps = a.steps }; is = told; broken = h }

-- the end of a text, of which nothing is left but a line's end that it may do without
pub shown : (tau : ℕ) (streams : List Stream) (text : List ℕ) (c until : ℕ) (answer : Option Seen) (w : Watch) → All (λ c. is_quote c ≡ false) text → All (λ c. is_mark_byte c ≡ false) text → is_line_end c ≡ true →
    ((steps : List Step) → Follows tau streams steps w → IfSome answer (Decides tau streams until steps)) → IsRead tau streams (text ++ c ∷ []) w [] (Ended until) → IfSome answer (Shows tau streams text)
shown tau streams text c until answer w plain unmarked e finishes r =
    let rows : cut_lines (pieces is_line_end text) ≡ r.rows =
    sym (end-behind text c e) ∙ ap (λ (xs : List ℕ). cut_lines (pieces is_line_end xs)) (sym (append-nil (text ++ c ∷ []))) ∙ r.all [] ∙ append-nil r.rows in
    shown-all tau streams text r.rows until answer w plain unmarked finishes rows r.at

-- a step that was found goes on with the steps
pub goes-on-with : (tau : ℕ) (streams : List Stream) (steps : List Step) (f : Found) (w : Watch) → (f ≡ found.Unknown → ⊥) → Finds tau streams steps f w → Follows tau streams steps w
goes-on-with tau streams steps found.Taken w known h = subst (λ o. FollowsBy o tau streams steps w) (sym h.1) h.0
goes-on-with tau streams steps (found.Broken b) w known h = subst (λ o. FollowsBy o tau streams steps w) (sym h.1) h.0
goes-on-with tau streams steps found.Unknown w known h = absurd (known refl)

pub none-is : (xs : List ℕ) → length xs ≡ 0 → xs ≡ []
none-is [] e = refl
none-is (x ∷ xs) e = absurd (omega (arith, e))

-- a text that is its first line
pub all-first : (text : List ℕ) (len : ℕ) → len ≡ length (first_line text) → len ≡ length text → first_line text ≡ text
all-first text len e l =
    let low : length text ≤ len = omega (arith, l) in
    sym (whole-taken text len e) ∙ take_all len text low

-- what holds of a call that went well
pub ok-is : {X E : Type 0} (o : Result X E) (P : Type 0) → is_err o ≡ false → OnOk o P → P
ok-is (Ok x) P e h = h
ok-is (Err f) P e h = absurd (true≢false e)
