-- A text that is put together of rows has these rows.
use Rattle.std.specs.Prelude.{slice_range, slice_index}
use Rattle.std.proofs.Common.{subst, lit≤, ◌≡◌, ◌⊎◌, inl, inr, ◌<◌, ◌≤◌, ℕ, zero, suc, ◌+◌, ◌-◌, Bool, true, false, cond, ◌||◌, ◌==◌, List, [], ◌∷◌, ◌++◌, map, length, take, drop, refl, sym, ap, ◌∙◌, arith, append_assoc, append-nil, length-append, length-drop}
use Rattle.std.specs.List.{list_any, concat, onto_first}
use Rattle.std.proofs.lemmas.Bool.Decides.{nat_tests}
use Rattle.std.proofs.lemmas.List.{take-append-le, drop-append-le, drop-drop}
use Rattle.std.proofs.Math.Seq.{drop-append_seam, take-append_seam}
use Rattle.std.proofs.Math.Seq.{get_or-append_seam}
use Rattle.std.proofs.Math.ListN.{get_or-append}
use Rattle.std.proofs.lemmas.List.{get_or-append-add}
use Rattle.std.proofs.lemmas.List.Folds.{list_any-append}
use Rattle.cop_eds.specs.declared.line.Kind.{Kind}
use Rattle.cop_eds.specs.Text.{cut, end_len, mark_len}
use Rattle.cop_eds.specs.Lines.{lines_from, line_of, kind_of, header_count}
use Rattle.cop_eds.proofs.LawLemmas.{concat_cut}
use Rattle.cop_eds.specs.Rows.{Row, row_of, rows_of}
use Rattle.cop_eds.specs.Edits.{bytes_of_rows}

-- the row of a line with its end, where so many sections began before
abbrev pub row_from : ℕ → List ℕ → Row
row_from before raw =
    let len = length raw - end_len raw in
    let body = take len raw in
    record { kind = kind_of body; section = before + header_count (kind_of body); body = body; ending = drop len raw }

abbrev pub numbered : ℕ → List (List ℕ) → List Row
numbered before [] = []
numbered before (raw ∷ raws) = row_from before raw ∷ numbered (row_from before raw).section raws

-- parts of what stands in a text from a place on
part : (text raw rest : List ℕ) (at len : ℕ) → drop at text ≡ raw ++ rest → len ≤ length raw → slice_range text at (at + len) ≡ take len raw
part text raw rest at len e le =
    let size : at + len - at ≡ len = omega arith in
    rw (size, e) (take-append-le len raw rest le)

drop_more : (n m : ℕ) (xs : List ℕ) → drop (n + m) xs ≡ drop m (drop n xs)
drop_more n m xs = sym (drop-drop m n xs)

tail : (text raw rest : List ℕ) (at len : ℕ) → drop at text ≡ raw ++ rest → len ≤ length raw → slice_range text (at + len) (at + length raw) ≡ drop len raw
tail text raw rest at len e le =
    let size : at + length raw - (at + len) ≡ length (drop len raw) = omega (arith, length-drop len raw) in
    let from : drop (at + len) text ≡ drop len raw ++ rest = drop_more at len text ∙ ap (drop len) e ∙ drop-append-le len raw rest le in
    rw (size, from) (take-append_seam (drop len raw) rest)

whole : (text raw rest : List ℕ) (at : ℕ) → drop at text ≡ raw ++ rest → drop (at + length raw) text ≡ rest
whole text raw rest at e = drop_more at (length raw) text ∙ ap (drop (length raw)) e ∙ drop-append_seam raw rest

front : (raw : List ℕ) (len : ℕ) → slice_range raw 0 len ≡ take len raw
front raw len = let size : len - 0 ≡ len = omega arith in rw size refl

-- a row by its parts, of which the first tells what it is
abbrev made : ℕ → List ℕ → List ℕ → List ℕ → Row
made before own body ending = record { kind = kind_of own; section = before + header_count (kind_of own); body = body; ending = ending }

row_is : (text raw rest : List ℕ) (at before : ℕ) → drop at text ≡ raw ++ rest → row_of text (line_of at before raw) ≡ row_from before raw
row_is text raw rest at before e =
    let len = length raw - end_len raw in
    let le : length raw - end_len raw ≤ length raw = omega arith in
    ap (λ own. made before own (slice_range text at (at + len)) (slice_range text (at + len) (at + length raw))) (front raw len)
    ∙ ap (λ body. made before (take len raw) body (slice_range text (at + len) (at + length raw))) (part text raw rest at len e le)
    ∙ ap (λ ending. made before (take len raw) (take len raw) ending) (tail text raw rest at len e le)

rows_numbered : (text : List ℕ) (at before : ℕ) (raws : List (List ℕ)) → drop at text ≡ concat raws → map (row_of text) (lines_from at before raws) ≡ numbered before raws
rows_numbered text at before [] e = refl
rows_numbered text at before (raw ∷ raws) e =
    let first = row_is text raw (concat raws) at before e in
    let rest = rows_numbered text (at + length raw) (line_of at before raw).section raws (whole text raw (concat raws) at e) in
    ap (λ rows. row_of text (line_of at before raw) ∷ rows) rest
    ∙ ap (λ row. row ∷ numbered (line_of at before raw).section raws) first
    ∙ ap (λ section. row_from before raw ∷ numbered section raws) (ap (λ row. row.section) first)

-- a text's rows, by its bytes
pub rows_by_bytes : (text : List ℕ) → rows_of text ≡ numbered 0 (cut (drop (mark_len text) text))
rows_by_bytes text = rows_numbered text (mark_len text) 0 (cut (drop (mark_len text) text)) (sym (concat_cut (drop (mark_len text) text)))

abbrev pub ends_in_return : List ℕ → Bool
ends_in_return body = slice_index body (length body - 1) == 13

-- LF after a body that does not end in CR, or CR LF
abbrev pub IsEnding : List ℕ → List ℕ → Type 0
IsEnding body ending = ((ending ≡ 10 ∷ []) × (ends_in_return body ≡ false)) ⊎ (ending ≡ 13 ∷ 10 ∷ [])

cut_line : (xs rest : List ℕ) → list_any (λ b. b == 10) xs ≡ false → cut (xs ++ 10 ∷ rest) ≡ (xs ++ 10 ∷ []) ∷ cut rest
cut_line [] rest none = refl
cut_line (x ∷ xs) rest none = by_test (x == 10) refl none (cut_line xs rest)
  where
    by_test : (b : Bool) → (x == 10) ≡ b → b || list_any (λ b. b == 10) xs ≡ false → (list_any (λ b. b == 10) xs ≡ false → cut (xs ++ 10 ∷ rest) ≡ (xs ++ 10 ∷ []) ∷ cut rest)
        → cond b ((x ∷ []) ∷ cut (xs ++ 10 ∷ rest)) (onto_first x (cut (xs ++ 10 ∷ rest))) ≡ (x ∷ xs ++ 10 ∷ []) ∷ cut rest
    by_test true is h later = cc
    by_test false is h later = ap (onto_first x) (later h)

cut_last : (xs : List ℕ) → 0 < length xs → list_any (λ b. b == 10) xs ≡ false → cut xs ≡ xs ∷ []
cut_last [] some none = absurd (omega arith)
cut_last (x ∷ []) some none = by_test (x == 10) none
  where
    by_test : (b : Bool) → b || false ≡ false → cond b ((x ∷ []) ∷ []) (onto_first x []) ≡ (x ∷ []) ∷ []
    by_test true h = refl
    by_test false h = refl
cut_last (x ∷ y ∷ ys) some none = by_test (x == 10) none (cut_last (y ∷ ys) (omega arith))
  where
    by_test : (b : Bool) → b || list_any (λ b. b == 10) (y ∷ ys) ≡ false → (list_any (λ b. b == 10) (y ∷ ys) ≡ false → cut (y ∷ ys) ≡ (y ∷ ys) ∷ [])
        → cond b ((x ∷ []) ∷ cut (y ∷ ys)) (onto_first x (cut (y ∷ ys))) ≡ (x ∷ y ∷ ys) ∷ []
    by_test true h later = cc
    by_test false h later = ap (onto_first x) (later h)

none_at : (xs : List ℕ) (i : ℕ) → list_any (λ b. b == 10) xs ≡ false → (slice_index xs i == 10) ≡ false
none_at [] i none = refl
none_at (x ∷ xs) zero none = or_left (x == 10) _ none
  where
    or_left : (a b : Bool) → a || b ≡ false → a ≡ false
    or_left true b e = cc
    or_left false b e = refl
none_at (x ∷ xs) (suc i) none = none_at xs i (or_right (x == 10) _ none)
  where
    or_right : (a b : Bool) → a || b ≡ false → b ≡ false
    or_right true b e = cc
    or_right false b e = e

-- how many bytes an end takes
end_none : (body : List ℕ) → list_any (λ b. b == 10) body ≡ false → end_len body ≡ 0
end_none body none = let last : (slice_index body (length body - 1) == 10) ≡ false = none_at body (length body - 1) none in rw last refl

end_crlf : (body : List ℕ) → end_len (body ++ 13 ∷ 10 ∷ []) ≡ 2
end_crlf body =
    let size : length (body ++ 13 ∷ 10 ∷ []) ≡ length body + 2 = length-append body (13 ∷ 10 ∷ []) in
    let one : length (body ++ 13 ∷ 10 ∷ []) - 1 ≡ length body + 1 = omega arith in
    let two : length (body ++ 13 ∷ 10 ∷ []) - 2 ≡ length body = omega arith in
    let last : slice_index (body ++ 13 ∷ 10 ∷ []) (length (body ++ 13 ∷ 10 ∷ []) - 1) ≡ 10 = ap (slice_index (body ++ 13 ∷ 10 ∷ [])) one ∙ get_or-append-add body (13 ∷ 10 ∷ []) 1 0 in
    let before : slice_index (body ++ 13 ∷ 10 ∷ []) (length (body ++ 13 ∷ 10 ∷ []) - 2) ≡ 13 = ap (slice_index (body ++ 13 ∷ 10 ∷ [])) two ∙ get_or-append_seam body 13 (10 ∷ []) 0 in
    by_both (slice_index (body ++ 13 ∷ 10 ∷ []) (length (body ++ 13 ∷ 10 ∷ []) - 1)) (slice_index (body ++ 13 ∷ 10 ∷ []) (length (body ++ 13 ∷ 10 ∷ []) - 2)) last before
  where
    by_both : (m n : ℕ) → m ≡ 10 → n ≡ 13 → ◌≡◌ {A = ℕ} (cond (m == 10) (cond (n == 13) 2 1) 0) 2
    by_both m n e h = rw (e, h) refl

end_lf : (body : List ℕ) → ends_in_return body ≡ false → end_len (body ++ 10 ∷ []) ≡ 1
end_lf body none =
    let size : length (body ++ 10 ∷ []) ≡ length body + 1 = length-append body (10 ∷ []) in
    let one : length (body ++ 10 ∷ []) - 1 ≡ length body = omega arith in
    let two : length (body ++ 10 ∷ []) - 2 ≡ length body - 1 = omega arith in
    let last : slice_index (body ++ 10 ∷ []) (length (body ++ 10 ∷ []) - 1) ≡ 10 = ap (slice_index (body ++ 10 ∷ [])) one ∙ get_or-append_seam body 10 [] 0 in
    by_both (slice_index (body ++ 10 ∷ []) (length (body ++ 10 ∷ []) - 1)) (slice_index (body ++ 10 ∷ []) (length (body ++ 10 ∷ []) - 2)) last
    (ap (λ n. slice_index (body ++ 10 ∷ []) n == 13) two ∙ before body none)
  where
    by_both : (m n : ℕ) → m ≡ 10 → (n == 13) ≡ false → ◌≡◌ {A = ℕ} (cond (m == 10) (cond (n == 13) 2 1) 0) 1
    by_both m n e h = rw (e, h) refl

    before : (xs : List ℕ) → ends_in_return xs ≡ false → (slice_index (xs ++ 10 ∷ []) (length xs - 1) == 13) ≡ false
    before [] h = refl
    before (x ∷ xs) h =
        let inside : length (x ∷ xs) - 1 < length (x ∷ xs) = omega arith in
        ap (λ n. n == 13) (get_or-append (x ∷ xs) (10 ∷ []) 0 (length (x ∷ xs) - 1) inside) ∙ h

-- a body and its ending are a row
split_row : (before : ℕ) (body ending : List ℕ) → end_len (body ++ ending) ≡ length ending → row_from before (body ++ ending) ≡ made before body body ending
split_row before body ending e =
    let size : length (body ++ ending) - end_len (body ++ ending) ≡ length body = ap (λ n. length (body ++ ending) - n) e ∙ omega (arith, length-append body ending) in
    ap (λ n. made before (take n (body ++ ending)) (take n (body ++ ending)) (drop n (body ++ ending))) size
    ∙ ap (λ xs. made before xs xs (drop (length body) (body ++ ending))) (take-append_seam body ending)
    ∙ ap (λ xs. made before body body xs) (drop-append_seam body ending)

ended_row : (before : ℕ) (body ending : List ℕ) → IsEnding body ending → row_from before (body ++ ending) ≡ made before body body ending
ended_row before body ending (inl h) = split_row before body ending (rw h.0 (end_lf body h.1))
ended_row before body ending (inr h) = split_row before body ending (rw h (end_crlf body))

ended_cut : (body ending rest : List ℕ) → list_any (λ b. b == 10) body ≡ false → IsEnding body ending → cut ((body ++ ending) ++ rest) ≡ (body ++ ending) ∷ cut rest
ended_cut body ending rest none (inl h) = rw h.0 (ap cut (append_assoc body (10 ∷ []) rest) ∙ cut_line body rest none)
ended_cut body ending rest none (inr h) =
    let flat : list_any (λ b. b == 10) (body ++ 13 ∷ []) ≡ false = list_any-append (λ b. b == 10) body (13 ∷ []) ∙ (rw none refl) in
    rw h (ap (λ xs. cut (xs ++ rest)) (sym (append_assoc body (13 ∷ []) (10 ∷ []))) ∙ ap cut (append_assoc (body ++ 13 ∷ []) (10 ∷ []) rest) ∙ cut_line (body ++ 13 ∷ []) rest flat
    ∙ ap (λ xs. xs ∷ cut rest) (append_assoc body (13 ∷ []) (10 ∷ [])))

-- a row is what its bytes say, after so many sections
pub record IsRow (before : ℕ) (row : Row) : Type 0 where
  pub kind : kind_of row.body ≡ row.kind
  pub section : row.section ≡ before + header_count row.kind
  pub flat : list_any (λ b. b == 10) row.body ≡ false

-- rows that can be written one after the other: each but the last has an end, and the last may have none
unfoldable pub AreWritten : ℕ → List Row → Type 0
AreWritten before [] = Unit {0}
AreWritten before (row ∷ []) = IsRow before row × (IsEnding row.body row.ending ⊎ ((row.ending ≡ []) × (0 < length row.body)))
AreWritten before (row ∷ next ∷ rows) = IsRow before row × IsEnding row.body row.ending × AreWritten row.section (next ∷ rows)

made_is : (before : ℕ) (row : Row) → IsRow before row → made before row.body row.body row.ending ≡ row
made_is before row h = by_parts row.kind row.section h.kind h.section
  where
    by_parts : (kind : Kind) (section : ℕ) → kind_of row.body ≡ kind → section ≡ before + header_count kind
        → made before row.body row.body row.ending ≡ record { kind = kind; section = section; body = row.body; ending = row.ending }
    by_parts kind section e s = rw (s, ← e) refl

-- rows that are written are read again
pub written_rows_read : (before : ℕ) (rows : List Row) → AreWritten before rows → numbered before (cut (bytes_of_rows rows)) ≡ rows
unfolding AreWritten
written_rows_read before [] h = refl
written_rows_read before (row ∷ []) h = elim h.1 [
  | inl ends ↦
      ap (numbered before) (ended_cut row.body row.ending [] h.0.flat ends)
      ∙ ap (λ r. r ∷ []) (ended_row before row.body row.ending ends ∙ made_is before row h.0)
  | inr bare ↦ last bare.0 bare.1
]
  where
    last : row.ending ≡ [] → 0 < length row.body → numbered before (cut ((row.body ++ row.ending) ++ [])) ≡ row ∷ []
    last none some =
        let all : row.body ++ row.ending ≡ row.body = ap (λ e. row.body ++ e) none ∙ append-nil row.body in
        let size : end_len (row.body ++ row.ending) ≡ length row.ending = ap end_len all ∙ end_none row.body h.0.flat ∙ sym (ap length none) in
        ap (λ xs. numbered before (cut xs)) (append-nil (row.body ++ row.ending) ∙ all)
        ∙ ap (numbered before) (cut_last row.body some h.0.flat)
        ∙ ap (λ xs. row_from before xs ∷ []) (sym all)
        ∙ ap (λ r. r ∷ []) (split_row before row.body row.ending size ∙ made_is before row h.0)
written_rows_read before (row ∷ next ∷ rows) h =
    let first : row_from before (row.body ++ row.ending) ≡ row = ended_row before row.body row.ending h.1 ∙ made_is before row h.0 in
    ap (numbered before) (ended_cut row.body row.ending (bytes_of_rows (next ∷ rows)) h.0.flat h.1)
    ∙ ap (λ r. r ∷ numbered (row_from before (row.body ++ row.ending)).section (cut (bytes_of_rows (next ∷ rows)))) first
    ∙ ap (λ r. row ∷ numbered r.section (cut (bytes_of_rows (next ∷ rows)))) first
    ∙ ap (λ rs. row ∷ rs) (written_rows_read row.section (next ∷ rows) h.2)

-- a line with its end
record IsEnded (raw : List ℕ) : Type 0 where
  body : List ℕ
  ending : List ℕ
  whole : raw ≡ body ++ ending
  flat : list_any (λ b. b == 10) body ≡ false
  ends : IsEnding body ending

-- lines of which each but the last has an end
unfoldable AreRaws : List (List ℕ) → Type 0
AreRaws [] = Unit {0}
AreRaws (r ∷ []) = IsEnded r ⊎ ((list_any (λ b. b == 10) r ≡ false) × (0 < length r))
AreRaws (r ∷ s ∷ rs) = IsEnded r × AreRaws (s ∷ rs)

flat_more : (b : ℕ) (xs : List ℕ) → (b == 10) ≡ false → list_any (λ b. b == 10) xs ≡ false → list_any (λ b. b == 10) (b ∷ xs) ≡ false
flat_more b xs other flat = rw other flat

onto_ended : (b : ℕ) (r : List ℕ) → (b == 10) ≡ false → IsEnded r → IsEnded (b ∷ r)
onto_ended b r other h = elim h.ends [
  | inl lf ↦ by_body h.body h.whole h.flat lf.0 lf.1
  | inr crlf ↦ record { body = b ∷ h.body; ending = h.ending; whole = ap (λ xs. b ∷ xs) h.whole; flat = flat_more b h.body other h.flat; ends = inr crlf }
]
  where
    by_return : (t : Bool) → (b == 13) ≡ t → r ≡ 10 ∷ [] → IsEnded (b ∷ r)
    by_return true is e =
        let same : b ≡ 13 = grind (arith, nat_tests) in
        record { body = []; ending = 13 ∷ 10 ∷ []; whole = ap (λ xs. b ∷ xs) e ∙ ap (λ n. n ∷ 10 ∷ []) same; flat = refl; ends = inr refl }
    by_return false is e =
        record { body = b ∷ []; ending = 10 ∷ []; whole = ap (λ xs. b ∷ xs) e; flat = flat_more b [] other refl; ends = inl (refl, is) }

    by_body : (body : List ℕ) → r ≡ body ++ h.ending → list_any (λ b. b == 10) body ≡ false → h.ending ≡ 10 ∷ [] → ends_in_return body ≡ false → IsEnded (b ∷ r)
    by_body [] e flat lf none = by_return (b == 13) refl (e ∙ lf)
    by_body (c ∷ cs) e flat lf none =
        let size : length (b ∷ c ∷ cs) - 1 ≡ suc (length (c ∷ cs) - 1) = omega arith in
        let last : ends_in_return (b ∷ c ∷ cs) ≡ false = ap (λ n. slice_index (b ∷ c ∷ cs) n == 13) size ∙ none in
        record { body = b ∷ c ∷ cs; ending = h.ending; whole = ap (λ xs. b ∷ xs) e; flat = flat_more b (c ∷ cs) other flat; ends = inl (lf, last) }

onto_raws : (b : ℕ) (rs : List (List ℕ)) → (b == 10) ≡ false → AreRaws rs → AreRaws (onto_first b rs)
unfolding AreRaws
onto_raws b [] other h = inr (flat_more b [] other refl, lit≤ tt)
onto_raws b (r ∷ []) other h = elim h
    [ inl ended ↦ inl (onto_ended b r other ended) | inr bare ↦ inr (flat_more b r other bare.0, omega arith) ]
onto_raws b (r ∷ s ∷ rs) other h = (onto_ended b r other h.0, h.1)

one_more : (r : List ℕ) (rs : List (List ℕ)) → IsEnded r → AreRaws rs → AreRaws (r ∷ rs)
unfolding AreRaws
one_more r [] h more = inl h
one_more r (s ∷ rs) h more = (h, more)

none_raw : AreRaws []
unfolding AreRaws
none_raw = tt

raws_cut : (xs : List ℕ) → AreRaws (cut xs)
raws_cut [] = none_raw
raws_cut (b ∷ bs) = by_test (b == 10) refl (raws_cut bs)
  where
    by_test : (t : Bool) → (b == 10) ≡ t → AreRaws (cut bs) → AreRaws (cond t ((b ∷ []) ∷ cut bs) (onto_first b (cut bs)))
    by_test true is later =
        let same : b ≡ 10 = grind (arith, nat_tests) in
        one_more (b ∷ []) (cut bs) (record { body = []; ending = 10 ∷ []; whole = ap (λ n. n ∷ []) same; flat = refl; ends = inl (refl, refl) }) later
    by_test false is later = onto_raws b (cut bs) is later

-- the rows of lines can be written
made_row : (before : ℕ) (body ending : List ℕ) → list_any (λ b. b == 10) body ≡ false → IsRow before (made before body body ending)
made_row before body ending flat = record { kind = refl; section = refl; flat = flat }

ended_made : (before : ℕ) (r : List ℕ) (h : IsEnded r) → row_from before r ≡ made before h.body h.body h.ending
ended_made before r h = ap (row_from before) h.whole ∙ ended_row before h.body h.ending h.ends

raw_row : (before : ℕ) (r : List ℕ) → IsEnded r → IsRow before (row_from before r) × IsEnding (row_from before r).body (row_from before r).ending
raw_row before r h =
    let P : Row → Type 0 = λ row. IsRow before row × IsEnding row.body row.ending in
    subst P (sym (ended_made before r h)) (made_row before h.body h.ending h.flat, h.ends)

bare_row : (before : ℕ) (r : List ℕ) → list_any (λ b. b == 10) r ≡ false → 0 < length r → IsRow before (row_from before r) × (IsEnding (row_from before r).body (row_from before r).ending ⊎ (((row_from before r).ending ≡ []) × (0 < length (row_from before r).body)))
bare_row before r flat some =
    let P : Row → Type 0 = λ row. IsRow before row × (IsEnding row.body row.ending ⊎ ((row.ending ≡ []) × (0 < length row.body))) in
    let size : end_len (r ++ []) ≡ 0 = ap end_len (append-nil r) ∙ end_none r flat in
    let same : row_from before r ≡ made before r r [] = ap (row_from before) (sym (append-nil r)) ∙ split_row before r [] size in
    subst P (sym same) (made_row before r [] flat, inr (refl, some))

raws_written : (before : ℕ) (raws : List (List ℕ)) → AreRaws raws → AreWritten before (numbered before raws)
unfolding AreRaws AreWritten
raws_written before [] h = tt
raws_written before (r ∷ []) h = elim h
    [ inl ended ↦ let one = raw_row before r ended in (one.0, inl one.1) | inr bare ↦ bare_row before r bare.0 bare.1 ]
raws_written before (r ∷ s ∷ rs) h =
    let one = raw_row before r h.0 in
    (one.0, one.1, raws_written (row_from before r).section (s ∷ rs) h.1)

-- the rows of a text can be written
pub rows_are_written : (text : List ℕ) → AreWritten 0 (rows_of text)
rows_are_written text = subst (AreWritten 0) (sym (rows_by_bytes text)) (raws_written 0 (cut (drop (mark_len text) text)) (raws_cut (drop (mark_len text) text)))
