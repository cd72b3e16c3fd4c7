-- The lines of a text that comes in pieces.
use Rattle.std.proofs.Common.{◌≡◌, ◌∙◌, ℕ, ◌+◌, ◌<◌, ◌≤◌, List, [], ◌∷◌, ◌++◌, suc, zero, length, take, drop, refl, sym, ap, subst, arith, append_assoc, append-nil, length-append, Bool, true, false, cond}
use Rattle.std.specs.Prelude.{◌==◌, slice_index}
use Rattle.std.specs.List.{concat}
use Rattle.cop_lines.specs.Words.{place_in, front, back}
use Rattle.cop_lines.specs.Texts.{begun, lines_of, lines_behind, GoesOn, Ends, IsCut, AreCut, all_of}

-- what was kept before some lines
abbrev kept_before : List ℕ → List (List ℕ) → List (List ℕ)
kept_before [] ls = ls
kept_before (c ∷ kept) ls = begun c (kept_before kept ls)

before_line : (kept : List ℕ) (ls : List (List ℕ)) → kept_before kept ([] ∷ ls) ≡ kept ∷ ls
before_line [] ls = refl
before_line (c ∷ kept) ls = ap (begun c) (before_line kept ls)

before_more : (kept : List ℕ) (c : ℕ) (ls : List (List ℕ)) → kept_before (kept ++ c ∷ []) ls ≡ kept_before kept (begun c ls)
before_more [] c ls = refl
before_more (d ∷ kept) c ls = ap (begun d) (before_more kept c ls)

behind_is : (kept text : List ℕ) → lines_behind kept text ≡ kept_before kept (lines_of text)
behind_is kept [] = sym (before_line kept [])
behind_is kept (c ∷ text) = go (c == 10) (behind_is [] text) (behind_is (kept ++ c ∷ []) text)
  where
    go : (b : Bool) → lines_behind [] text ≡ lines_of text → lines_behind (kept ++ c ∷ []) text ≡ kept_before (kept ++ c ∷ []) (lines_of text)
        → cond b (kept ∷ lines_behind [] text) (lines_behind (kept ++ c ∷ []) text) ≡ kept_before kept (cond b ([] ∷ lines_of text) (begun c (lines_of text)))
    go true next more = ap (λ ls. kept ∷ ls) next ∙ sym (before_line kept (lines_of text))
    go false next more = more ∙ before_more kept c (lines_of text)

-- with nothing kept they are those of the text
pub behind_nothing : (text : List ℕ) → lines_behind [] text ≡ lines_of text
behind_nothing text = behind_is [] text

-- a line that ends in a piece is the next one
pub ends_at : (kept piece more : List ℕ) → place_in 10 piece < length piece → lines_behind kept (piece ++ more) ≡ (kept ++ front 10 piece) ∷ lines_behind [] (back 10 piece ++ more)
ends_at kept [] more l = absurd (omega arith)
ends_at kept (c ∷ piece) more l = go (c == 10) l (ends_at (kept ++ c ∷ []) piece more)
  where
    go : (b : Bool) → cond b 0 (suc (place_in 10 piece)) < suc (length piece)
        → (place_in 10 piece < length piece → lines_behind (kept ++ c ∷ []) (piece ++ more) ≡ ((kept ++ c ∷ []) ++ front 10 piece) ∷ lines_behind [] (back 10 piece ++ more))
        → cond b (kept ∷ lines_behind [] (piece ++ more)) (lines_behind (kept ++ c ∷ []) (piece ++ more))
        ≡ (kept ++ take (cond b 0 (suc (place_in 10 piece))) (c ∷ piece)) ∷ lines_behind [] (drop (cond b 0 (suc (place_in 10 piece)) + 1) (c ∷ piece) ++ more)
    go true l next = ap (λ line. line ∷ lines_behind [] (piece ++ more)) (sym (append-nil kept))
    go false l next =
        let less : place_in 10 piece < length piece = omega arith in
        let e : suc (place_in 10 piece) + 1 ≡ suc (place_in 10 piece + 1) = omega arith in
        next less
        ∙ (ap (λ line. line ∷ lines_behind [] (back 10 piece ++ more)) (append_assoc kept (c ∷ []) (front 10 piece))
        ∙ ap (λ k. (kept ++ c ∷ front 10 piece) ∷ lines_behind [] (drop k (c ∷ piece) ++ more)) (sym e))

-- a piece with no end is kept
pub goes_on_behind : (kept piece more : List ℕ) → place_in 10 piece ≡ length piece → lines_behind kept (piece ++ more) ≡ lines_behind (kept ++ piece) more
goes_on_behind kept [] more e = ap (λ xs. lines_behind xs more) (sym (append-nil kept))
goes_on_behind kept (c ∷ piece) more e = go (c == 10) e (goes_on_behind (kept ++ c ∷ []) piece more)
  where
    go : (b : Bool) → cond b 0 (suc (place_in 10 piece)) ≡ suc (length piece)
        → (place_in 10 piece ≡ length piece → lines_behind (kept ++ c ∷ []) (piece ++ more) ≡ lines_behind ((kept ++ c ∷ []) ++ piece) more)
        → cond b (kept ∷ lines_behind [] (piece ++ more)) (lines_behind (kept ++ c ∷ []) (piece ++ more)) ≡ lines_behind (kept ++ c ∷ piece) more
    go true e next = absurd (omega arith)
    go false e next =
        let less : place_in 10 piece ≡ length piece = omega arith in
        next less ∙ ap (λ xs. lines_behind xs more) (append_assoc kept (c ∷ []) piece)

-- what a cutter tells of a piece
pub line_ends : (kept piece line left more : List ℕ) → Ends kept piece line left → lines_behind kept (piece ++ more) ≡ line ∷ lines_behind [] (left ++ more)
line_ends kept piece line left more e =
    ends_at kept piece more e.has_end ∙ (ap (λ xs. xs ∷ lines_behind [] (back 10 piece ++ more)) (sym e.whole) ∙ ap (λ xs. line ∷ lines_behind [] (xs ++ more)) (sym e.rest))

pub line_goes_on : (kept piece now more : List ℕ) → GoesOn kept piece now → lines_behind kept (piece ++ more) ≡ lines_behind now more
line_goes_on kept piece now more e = goes_on_behind kept piece more e.no_end ∙ ap (λ xs. lines_behind xs more) (sym e.all)

cut_lines : (kept piece now more : List ℕ) (ls : List (List ℕ)) → IsCut kept piece ls now → lines_behind kept (piece ++ more) ≡ ls ++ lines_behind now more
cut_lines kept piece now more [] e = line_goes_on kept piece now more e
cut_lines kept piece now more (l ∷ ls) (left, e, next) = line_ends kept piece l left more e ∙ ap (λ xs. l ∷ xs) (cut_lines [] left now more ls next)

pub pieces_lines : (pieces : List (List ℕ)) (lines : List (List (List ℕ))) (kept now : List ℕ) → AreCut kept pieces lines now → lines_behind kept (concat pieces) ≡ all_of lines ++ now ∷ []
pieces_lines [] [] kept now e = ap (λ xs. xs ∷ []) (sym e)
pieces_lines [] (ls ∷ more) kept now e = absurd e
pieces_lines (p ∷ ps) [] kept now e = absurd e
pieces_lines (p ∷ ps) (ls ∷ more) kept now (between, cut, rest) =
    cut_lines kept p between (concat ps) ls cut ∙ (ap (λ xs. ls ++ xs) (pieces_lines ps more between now rest) ∙ sym (append_assoc ls (all_of more) (now ∷ [])))

pub whole_lines : (pieces : List (List ℕ)) (lines : List (List (List ℕ))) (kept : List ℕ) → AreCut [] pieces lines kept → lines_of (concat pieces) ≡ all_of lines ++ kept ∷ []
whole_lines pieces lines kept e = sym (behind_nothing (concat pieces)) ∙ pieces_lines pieces lines [] kept e

-- where a search finds the end of a line
not_it : (b : Bool) → (b ≡ true → ⊥) → b ≡ false
not_it b never = elim b as (λ v. (v ≡ true → ⊥) → v ≡ false) [ true ↦ λ never. absurd (never refl) | false ↦ λ never. refl ] never

pub place_found : (b : ℕ) (text : List ℕ) (k : ℕ) → k < length text → (slice_index text k == b) ≡ true → ((i : ℕ) → 0 ≤ i → i < k → (slice_index text i == b) ≡ true → ⊥) → place_in b text ≡ k
place_found b [] k l here before = absurd (omega arith)
place_found b (c ∷ text) zero l here before = ap (λ t. cond t 0 (suc (place_in b text))) here
place_found b (c ∷ text) (suc k) l here before =
    ap (λ t. cond t 0 (suc (place_in b text))) (not_it (c == b) (before 0 (omega arith) (omega arith)))
    ∙ ap suc (place_found b text k (omega arith) here (λ i a less. before (suc i) (omega arith) (omega arith)))

pub place_absent : (b : ℕ) (text : List ℕ) → ((i : ℕ) → 0 ≤ i → i < length text → (slice_index text i == b) ≡ true → ⊥) → place_in b text ≡ length text
place_absent b [] none = refl
place_absent b (c ∷ text) none =
    ap (λ t. cond t 0 (suc (place_in b text))) (not_it (c == b) (none 0 (omega arith) (omega arith)))
    ∙ ap suc (place_absent b text (λ i a less. none (suc i) (omega arith) (omega arith)))

-- what comes behind a line is shorter than the piece
dropped : (n : ℕ) (xs : List ℕ) → length (drop n xs) ≤ length xs
dropped zero xs = omega arith
dropped (suc n) [] = omega arith
dropped (suc n) (x ∷ xs) = let r = dropped n xs in omega arith

pub back_shorter : (text : List ℕ) → place_in 10 text < length text → length (back 10 text) < length text
back_shorter [] l = absurd (omega arith)
back_shorter (c ∷ text) l =
    let e : place_in 10 (c ∷ text) + 1 ≡ suc (place_in 10 (c ∷ text)) = omega arith in
    let h = dropped (place_in 10 (c ∷ text)) text in
    subst (λ n. length (drop n (c ∷ text)) < suc (length text)) (sym e) (omega arith)

pub left_shorter : (kept piece line left : List ℕ) → Ends kept piece line left → length left < length piece
left_shorter kept piece line left e = subst (λ (xs : List ℕ). length xs < length piece) (sym e.rest) (back_shorter piece e.has_end)

-- a line that was kept is at least as long in the end
pub kept_long : (kept more : List ℕ) → (l : List ℕ) × (ls : List (List ℕ)) × (lines_behind kept more ≡ l ∷ ls) × (length kept ≤ length l)
kept_long kept [] = (kept, [], refl, omega arith)
kept_long kept (c ∷ more) = go (c == 10) (kept_long (kept ++ c ∷ []) more)
  where
    longer : length (kept ++ c ∷ []) ≡ length kept + 1
    longer = length-append kept (c ∷ [])

    go : (b : Bool) → (l : List ℕ) × (ls : List (List ℕ)) × (lines_behind (kept ++ c ∷ []) more ≡ l ∷ ls) × (length (kept ++ c ∷ []) ≤ length l)
        → (l : List ℕ) × (ls : List (List ℕ)) × (cond b (kept ∷ lines_behind [] more) (lines_behind (kept ++ c ∷ []) more) ≡ l ∷ ls) × (length kept ≤ length l)
    go true next = (kept, lines_behind [] more, refl, omega arith)
    go false next =
        let n = longer in
        let (l, ls, e, least) = next in
        (l, ls, e, omega (arith, n, least))

pub piece_long : (kept piece more : List ℕ) → (l : List ℕ) × (ls : List (List ℕ)) × (lines_behind kept (piece ++ more) ≡ l ∷ ls) × (length kept + length (front 10 piece) ≤ length l)
piece_long kept [] more = let (l, ls, e, least) = kept_long kept more in (l, ls, e, omega (arith, least))
piece_long kept (c ∷ piece) more = go (c == 10) (piece_long (kept ++ c ∷ []) piece more)
  where
    longer : length (kept ++ c ∷ []) ≡ length kept + 1
    longer = length-append kept (c ∷ [])

    go : (b : Bool) → (l : List ℕ) × (ls : List (List ℕ)) × (lines_behind (kept ++ c ∷ []) (piece ++ more) ≡ l ∷ ls) × (length (kept ++ c ∷ []) + length (front 10 piece) ≤ length l)
        → (l : List ℕ) × (ls : List (List ℕ)) × (cond b (kept ∷ lines_behind [] (piece ++ more)) (lines_behind (kept ++ c ∷ []) (piece ++ more)) ≡ l ∷ ls)
        × (length kept + length (take (cond b 0 (suc (place_in 10 piece))) (c ∷ piece)) ≤ length l)
    go true next = (kept, lines_behind [] (piece ++ more), refl, omega arith)
    go false next =
        let n = longer in
        let (l, ls, e, least) = next in
        (l, ls, e, omega (arith, n, least))

pub front_short : (piece : List ℕ) → length (front 10 piece) ≤ length piece
front_short [] = omega arith
front_short (c ∷ piece) = go (c == 10) (front_short piece)
  where
    go : (b : Bool) → length (front 10 piece) ≤ length piece → length (take (cond b 0 (suc (place_in 10 piece))) (c ∷ piece)) ≤ suc (length piece)
    go true h = omega arith
    go false h = omega arith
