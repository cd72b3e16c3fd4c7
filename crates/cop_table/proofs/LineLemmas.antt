-- The lines of a text without a quote, and the fields of a line by the places where they end.
use Rattle.std.proofs.Common.{◌≡◌, ℕ, zero, suc, ◌+◌, ◌-◌, ◌<◌, ◌≤◌, Bool, true, false, cond, List, [], ◌∷◌, length, take, drop, get_or, refl, sym, ap, ◌∙◌, arith, length-drop, true≢false, ◌==◌, ◌&&◌}
use Rattle.std.proofs.lemmas.List.{take_all}
use Rattle.csv.specs.Reading.{strip_bom}
use Rattle.cop_table.specs.Plain.{is_comma, is_line_end, with_first, pieces, cut_lines}
use Rattle.cop_table.specs.Lines.{has_mark, first_line, StartsLine, ends_of, start_at}

-- the piece of a line, which begins at a place, from one place to another
pub record IsCut (line : List ℕ) (at start end : ℕ) (piece : List ℕ) : Type 0 where
  pub low : at ≤ start
  pub rising : start ≤ end
  pub high : end ≤ at + length line
  pub is : piece ≡ take (end - start) (drop (start - at) line)

further : (c : ℕ) (line : List ℕ) (at start end : ℕ) (piece : List ℕ) → IsCut line (at + 1) start end piece → IsCut (c ∷ line) at start end piece
further c line at start end piece h =
    let one : start - at ≡ suc (start - (at + 1)) = omega (arith, h.low) in
    record {
      low = omega (arith, h.low);
      rising = h.rising;
      high = omega (arith, h.high);
      is = rw one h.is;
    }

longer : (c : ℕ) (line : List ℕ) (at end : ℕ) (piece : List ℕ) → IsCut line (at + 1) (at + 1) end piece → IsCut (c ∷ line) at at end (c ∷ piece)
longer c line at end piece h =
    let one : end - at ≡ suc (end - (at + 1)) = omega (arith, h.rising) in
    let none : at - at ≡ 0 = omega arith in
    let none' : (at + 1) - (at + 1) ≡ 0 = omega arith in
    record {
      low = omega arith;
      rising = omega (arith, h.rising);
      high = omega (arith, h.high);
      is = rw (one, none) (ap (λ xs. c ∷ xs) (h.is ∙ rw none' refl));
    }

-- some piece comes first
first_piece : (cuts : ℕ → Bool) (text : List ℕ) → (piece : List ℕ) × (more : List (List ℕ)) × (pieces cuts text ≡ piece ∷ more)
first_piece cuts [] = ([], [], refl)
first_piece cuts (c ∷ text) = cut (cuts c) (pieces cuts text)
  where
    cut : (t : Bool) (ps : List (List ℕ)) → (piece : List ℕ) × (more : List (List ℕ)) × (cond t ([] ∷ ps) (with_first c ps) ≡ piece ∷ more)
    cut true ps = ([], ps, refl)
    cut false [] = (c ∷ [], [], refl)
    cut false (p ∷ ps) = (c ∷ p, ps, refl)

pub length-pieces : (cuts : ℕ → Bool) (at : ℕ) (line : List ℕ) → length (pieces cuts line) ≡ length (ends_of cuts at line)
length-pieces cuts at [] = refl
length-pieces cuts at (c ∷ line) = either (cuts c) (length-pieces cuts (at + 1) line)
  where
    either : (t : Bool) → length (pieces cuts line) ≡ length (ends_of cuts (at + 1) line)
        → length (cond t ([] ∷ pieces cuts line) (with_first c (pieces cuts line))) ≡ length (cond t (at ∷ ends_of cuts (at + 1) line) (ends_of cuts (at + 1) line))
    either true h = ap (λ n. suc n) h
    either false h = let first = first_piece cuts line in rw first.2 (sym (rw first.2 refl) ∙ h)

start_after : (at place : ℕ) (ends : List ℕ) → start_at (at + 1) ends place ≡ start_at at (at ∷ ends) (suc place)
start_after at zero ends = refl
start_after at (suc place) ends = refl

-- all the fields of a line lie where its ends say
abbrev AreCuts : (ℕ → Bool) → ℕ → List ℕ → List ℕ → List (List ℕ) → Type 0
AreCuts cuts at line ends fields = (place : ℕ) → place < length ends → IsCut line at (start_at at ends place) (get_or ends place 0) (get_or fields place [])

cut_first : (c at : ℕ) (line ends : List ℕ) (fields : List (List ℕ)) → ((place : ℕ) → place < length ends → IsCut line (at + 1) (start_at (at + 1) ends place) (get_or ends place 0) (get_or fields place []))
    → (place : ℕ) → place < length (at ∷ ends) → IsCut (c ∷ line) at (start_at at (at ∷ ends) place) (get_or (at ∷ ends) place 0) (get_or ([] ∷ fields) place [])
cut_first c at line ends fields h zero short = record { low = omega arith; rising = omega arith; high = omega arith; is = let none : at - at ≡ 0 = omega arith in rw none refl }
cut_first c at line ends fields h (suc place) short = further c line at _ _ _ (rw start_after at (h place (omega (arith, short))))

cut_on : (c at : ℕ) (line ends first : List ℕ) (more : List (List ℕ)) → ((place : ℕ) → place < length ends → IsCut line (at + 1) (start_at (at + 1) ends place) (get_or ends place 0) (get_or (first ∷ more) place []))
    → (place : ℕ) → place < length ends → IsCut (c ∷ line) at (start_at at ends place) (get_or ends place 0) (get_or ((c ∷ first) ∷ more) place [])
cut_on c at line ends first more h zero short = longer c line at _ _ (h zero short)
cut_on c at line ends first more h (suc place) short = further c line at _ _ _ (h (suc place) short)

pub cut_at : (cuts : ℕ → Bool) (at : ℕ) (line : List ℕ) (place : ℕ) → place < length (ends_of cuts at line)
    → IsCut line at (start_at at (ends_of cuts at line) place) (get_or (ends_of cuts at line) place 0) (get_or (pieces cuts line) place [])
cut_at cuts at [] zero h = record { low = omega arith; rising = omega arith; high = omega arith; is = let none : at - at ≡ 0 = omega arith in rw none refl }
cut_at cuts at [] (suc place) h = absurd (omega (arith, h))
cut_at cuts at (c ∷ line) place h = either (cuts c) (cut_at cuts (at + 1) line) place h
  where
    either : (t : Bool) → AreCuts cuts (at + 1) line (ends_of cuts (at + 1) line) (pieces cuts line)
        → AreCuts cuts at (c ∷ line) (cond t (at ∷ ends_of cuts (at + 1) line) (ends_of cuts (at + 1) line)) (cond t ([] ∷ pieces cuts line) (with_first c (pieces cuts line)))
    either true h = cut_first c at line _ _ h
    either false h = let first = first_piece cuts line in rw first.2 (cut_on c at line _ _ _ (rw first.2 at h))

-- the field at a place, of a line whose ends are these
pub found : (line ends : List ℕ) (place start : ℕ) → ends ≡ ends_of is_comma 0 line → place < length ends → start ≡ start_at 0 ends place
    → IsCut line 0 start (get_or ends place 0) (get_or (pieces is_comma line) place [])
found line ends place start e short is = rw (is, e) (cut_at is_comma 0 line place (rw e at short))

past_all : (fields : List (List ℕ)) (place : ℕ) → length fields ≤ place → [] ≡ get_or fields place []
past_all [] place h = refl
past_all (field ∷ fields) zero h = absurd (omega (arith, h))
past_all (field ∷ fields) (suc place) h = past_all fields place (omega (arith, h))

pub none_found : (line ends : List ℕ) (place : ℕ) → ends ≡ ends_of is_comma 0 line → length ends ≤ place → [] ≡ get_or (pieces is_comma line) place []
none_found line ends place e h = past_all (pieces is_comma line) place (omega (arith, h, length-pieces is_comma 0 line, ap length e))

-- the bytes of the first line are those that a text begins with
pub first_line_taken : (text : List ℕ) → take (length (first_line text)) text ≡ first_line text
first_line_taken [] = refl
first_line_taken (c ∷ text) = either (is_line_end c) (first_line_taken text)
  where
    either : (t : Bool) → take (length (first_line text)) text ≡ first_line text → take (length (cond t [] (c ∷ first_line text))) (c ∷ text) ≡ cond t [] (c ∷ first_line text)
    either true h = refl
    either false h = ap (λ xs. c ∷ xs) h

-- the first line comes first, and what is after it is what the rest of the text begins with
record Divides (text : List ℕ) : Type 0 where
  more : List (List ℕ)
  all : pieces is_line_end text ≡ first_line text ∷ more
  rest : cut_lines more ≡ cut_lines (pieces is_line_end (drop (length (first_line text)) text))

divides : (text : List ℕ) → Divides text
divides [] = record { more = []; all = refl; rest = refl }
divides (c ∷ text) = either (is_line_end c) refl (divides text)
  where
    either : (t : Bool) → is_line_end c ≡ t → Divides text → Divides (c ∷ text)
    either true e h = record { more = pieces is_line_end text; all = rw e refl; rest = rw e (rw e refl) }
    either false e h = record { more = h.more; all = rw (e, h.all) refl; rest = rw e h.rest }

lines_after : (c : ℕ) (text : List ℕ) → is_line_end c ≡ false
    → cut_lines (pieces is_line_end (c ∷ text)) ≡ pieces is_comma (first_line (c ∷ text)) ∷ cut_lines (pieces is_line_end (drop (length (first_line (c ∷ text))) (c ∷ text)))
lines_after c text starts = let d = divides text in rw (starts, d.all) (ap (λ rs. pieces is_comma (c ∷ first_line text) ∷ rs) d.rest)

pub next_of_lines : (text : List ℕ) → StartsLine text → (length text ≡ 0 → ⊥)
    → cut_lines (pieces is_line_end text) ≡ pieces is_comma (first_line text) ∷ cut_lines (pieces is_line_end (drop (length (first_line text)) text))
next_of_lines [] starts some = absurd (some refl)
next_of_lines (c ∷ text) starts some = lines_after c text starts

-- the first line is read, and what stands after it is left
pub line_read : (before text : List ℕ) (row : List (List ℕ)) (len : ℕ) → cut_lines (pieces is_line_end text) ≡ cut_lines (pieces is_line_end before) → StartsLine text → (length text ≡ 0 → ⊥)
    → row ≡ pieces is_comma (first_line text) → len ≡ length (first_line text)
    → cut_lines (pieces is_line_end before) ≡ row ∷ cut_lines (pieces is_line_end (take (length text - len) (drop len text)))
line_read before text row len same starts some fields is =
    let all : length (drop len text) ≤ length text - len = omega (arith, length-drop len text) in
    let rest : take (length text - len) (drop len text) ≡ drop len text = take_all (length text - len) (drop len text) all in
    rw (rest, fields, is) (sym same ∙ next_of_lines text starts some)

pub pieces_counted : (line ends : List ℕ) → ends ≡ ends_of is_comma 0 line → length ends ≡ length (pieces is_comma line)
pieces_counted line ends e = ap length e ∙ sym (length-pieces is_comma 0 line)

-- the mark at the start
pub record IsMarked (text : List ℕ) : Type 0 where
  pub long : 3 ≤ length text
  pub rest : drop 3 text ≡ strip_bom text

pub marked : (text : List ℕ) → has_mark text ≡ true → IsMarked text
unfolding strip_bom
marked [] h = absurd (true≢false (sym h))
marked (a ∷ []) h = absurd (true≢false (sym (sym (no_mark (a == 239) (0 == 187)) ∙ h)))
  where
    no_mark : (s t : Bool) → (s && t && false) ≡ false
    no_mark true true = refl
    no_mark true false = refl
    no_mark false t = refl
marked (a ∷ b ∷ []) h = absurd (true≢false (sym (sym (no_mark (a == 239) (b == 187)) ∙ h)))
  where
    no_mark : (s t : Bool) → (s && t && false) ≡ false
    no_mark true true = refl
    no_mark true false = refl
    no_mark false t = refl
marked (a ∷ b ∷ c ∷ text) h = record { long = omega arith; rest = rw h refl }

pub unmarked : (text : List ℕ) → has_mark text ≡ false → text ≡ strip_bom text
unfolding strip_bom
unmarked [] h = refl
unmarked (a ∷ []) h = refl
unmarked (a ∷ b ∷ []) h = refl
unmarked (a ∷ b ∷ c ∷ text) h = rw h refl
