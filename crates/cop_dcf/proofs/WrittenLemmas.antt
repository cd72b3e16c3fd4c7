-- The rows of a DCF are those that it is written of.
use Rattle.std.specs.Prelude.{slice_index}
use Rattle.std.proofs.Common.{◌≡◌, ◌⊎◌, inl, inr, ◌<◌, ◌+◌, ◌-◌, ℕ, Bool, true, false, not, cond, ◌&&◌, ◌==◌, nat_eq, List, [], ◌∷◌, ◌++◌, length, take, drop, Ok, refl, sym, ap, ◌∙◌, codes, arith}
use Rattle.std.specs.List.{list_any, starts_with}
use Rattle.std.proofs.lemmas.Bool.Decides.{nat_tests}
use Rattle.cop_eds.specs.declared.line.Kind.{Kind}
use Rattle.cop_eds.specs.declared.line.Kind.TheVariants.{Other, Header, Pair}
use Rattle.cop_eds.specs.Text.{name_of, is_comment, is_header, is_pair, mark_len, cut}
use Rattle.cop_eds.specs.Lines.{kind_of, header_count, lines_of}
use Rattle.cop_eds.specs.Reading.{reading}
use Rattle.cop_eds.specs.Rows.{Row, rows_of, has_name}
use Rattle.cop_eds.specs.Edits.{Change, newline_of, header_row, section_count, with_section, with_keys, closed, bytes_of_rows, text_with}
use Rattle.cop_eds.proofs.LawLemmas.{lawful_lines}
use Rattle.cop_eds.proofs.RowLemmas.{are_lawful, is_lawful, is_lawful_kind, rows_lawful}
use Rattle.cop_eds.proofs.EditLemmas.{AreClean, AreApart, and_left, and_right}
use Rattle.cop_eds.proofs.LawfulLemmas.{with_keys_lawful, lawful_append, both, false_not}
use Rattle.cop_eds.proofs.KeepsLemmas.{with_both, all_closed_lawful}
use Rattle.cop_eds.proofs.RawLemmas.{IsRow, IsEnding, AreWritten, rows_by_bytes, numbered, written_rows_read}
use Rattle.cop_eds.proofs.SpelledLemmas.{AreSpelled, IsSpelled, IsNewline, AreLines, closed_written, rewritten_spelled}
use Rattle.cop_dcf.proofs.HomeLemmas.{spelled_rows}

-- the end of the first line is LF or CR LF
pub newline_is : (before : ℕ) (rows : List Row) → AreSpelled before rows → IsNewline (newline_of rows)
unfolding AreSpelled
newline_is before [] h = inl refl
newline_is before (row ∷ rows) h = by_ending h.1
  where
    by_ending : IsSpelled row → IsNewline (newline_of (row ∷ rows))
    by_ending (inl (inl e)) = rw e.0 (inl refl)
    by_ending (inl (inr e)) = rw e (inr refl)
    by_ending (inr e) = rw e.0 (inl refl)

-- the number of the last section
abbrev pub last_section : ℕ → List Row → ℕ
last_section before [] = before
last_section before (row ∷ rows) = last_section row.section rows

last_is : (row : Row) (rows : List Row) → last_section row.section rows ≡ section_count (row ∷ rows)
last_is row [] = refl
last_is row (next ∷ rows) = last_is next rows

pub count_is : (rows : List Row) → last_section 0 rows ≡ section_count rows
count_is [] = refl
count_is (row ∷ rows) = last_is row rows

put_spelled : (before : ℕ) (rows : List Row) (row : Row) → AreSpelled before rows → IsRow (last_section before rows) row → IsSpelled row → AreSpelled before (rows ++ row ∷ [])
unfolding AreSpelled
put_spelled before [] row h own ends = (own, ends, tt)
put_spelled before (x ∷ xs) row h own ends = (h.0, h.1, put_spelled x.section xs row h.2 own ends)

header_spelled : (newline : List ℕ) (section : ℕ) (name : List ℕ) → IsNewline newline → (slice_index (codes "[" ++ name ++ codes "]") (length (codes "[" ++ name ++ codes "]") - 1) == 13) ≡ false
    → IsSpelled (header_row newline section name)
header_spelled newline section name line last = elim line [ inl lf ↦ inl (inl (lf, last)) | inr crlf ↦ inl (inr crlf) ]

-- a section that is put at the end
pub section_spelled : (name : List ℕ) (rows : List Row) → kind_of (codes "[" ++ name ++ codes "]") ≡ Header → list_any (λ b. b == 10) (codes "[" ++ name ++ codes "]") ≡ false
    → (slice_index (codes "[" ++ name ++ codes "]") (length (codes "[" ++ name ++ codes "]") - 1) == 13) ≡ false → AreSpelled 0 rows → AreSpelled 0 (with_section name rows)
section_spelled name rows kind flat last h = by_test (list_any (has_name name) rows)
  where
    count : last_section 0 rows ≡ section_count rows
    count = count_is rows

    by_test : (b : Bool) → AreSpelled 0 (cond b rows (rows ++ header_row (newline_of rows) (section_count rows + 1) name ∷ []))
    by_test true = h
    by_test false =
        put_spelled 0 rows (header_row (newline_of rows) (section_count rows + 1) name) h
        (record { kind = kind; section = omega (arith, count); flat = flat })
        (header_spelled (newline_of rows) (section_count rows + 1) name (newline_is 0 rows h) last)

pub both_spelled : (rows : List Row) → AreSpelled 0 rows → AreSpelled 0 (with_both rows)
both_spelled rows h = section_spelled (codes "DeviceComissioning") (with_section (codes "FileInfo") rows) refl refl refl (section_spelled (codes "FileInfo") rows refl refl refl h)

section_lawful : (name : List ℕ) (rows : List Row) → name_of (codes "[" ++ name ++ codes "]") ≡ name → are_lawful [] rows ≡ true → are_lawful [] (with_section name rows) ≡ true
section_lawful name rows own h = by_test (list_any (has_name name) rows) refl
  where
    by_test : (b : Bool) → list_any (has_name name) rows ≡ b → are_lawful [] (cond b rows (rows ++ header_row (newline_of rows) (section_count rows + 1) name ∷ [])) ≡ true
    by_test true is = h
    by_test false is =
        lawful_append [] rows (header_row (newline_of rows) (section_count rows + 1) name ∷ [])
        ∙ both _ _ h (both _ _ (false_not _ (ap (λ n. list_any (has_name n) rows) own ∙ is)) refl)

both_lawful : (rows : List Row) → are_lawful [] rows ≡ true → are_lawful [] (with_both rows) ≡ true
both_lawful rows h = section_lawful (codes "DeviceComissioning") (with_section (codes "FileInfo") rows) refl (section_lawful (codes "FileInfo") rows refl h)

-- ---- no mark at the front

abbrev is_marked : List ℕ → Bool
is_marked bytes = starts_with nat_eq bytes (239 ∷ 187 ∷ 191 ∷ [])

not_marked : (b : ℕ) (bs : List ℕ) → (239 == b) ≡ false → is_marked (b ∷ bs) ≡ false
not_marked b bs e = rw e refl

not_239 : (b n : ℕ) → (b == n) ≡ true → (n == 239) ≡ false → (239 == b) ≡ false
not_239 b n e f = grind (arith, nat_tests)

-- a comment does not begin with the first byte of a mark
comment_first : (b : ℕ) (bs : List ℕ) → is_comment (b ∷ bs) ≡ true → (239 == b) ≡ false
comment_first b bs h = by_test (239 == b) refl
  where
    by_test : (t : Bool) → (239 == b) ≡ t → t ≡ false
    by_test false is = refl
    by_test true is =
        let same : 239 ≡ b = grind (arith, nat_tests) in
        let bad : is_comment (239 ∷ bs) ≡ true = ap (λ n. is_comment (n ∷ bs)) same ∙ h in
        let long : (length (239 ∷ bs) == 0) ≡ false = grind (arith, nat_tests) in
        let no : is_comment (239 ∷ bs) ≡ false = rw long refl in
        sym bad ∙ no

kind_cases : (body : List ℕ) (kind : Kind) → kind_of body ≡ kind → kind ≡ Header → is_header body ≡ true
kind_cases body kind e head = by_tests (is_comment body) (is_header body) refl (e ∙ head)
  where
    by_tests : (a b : Bool) → is_header body ≡ b → cond a Other (cond b Header (cond (is_pair body) Pair Other)) ≡ Header → b ≡ true
    by_tests true b is k = cc
    by_tests false true is k = refl
    by_tests false false is k = by_pair (is_pair body) k
      where
        by_pair : (c : Bool) → cond c Pair Other ≡ Header → false ≡ true
        by_pair true k = cc
        by_pair false k = cc

-- the first line of a text that keeps the rules is no pair, and begins with no mark
first_byte : (row : Row) (b : ℕ) (bs : List ℕ) → row.body ≡ b ∷ bs → IsRow 0 row → is_lawful [] row ≡ true → (239 == b) ≡ false
first_byte row b bs body own h = by_kind row.kind refl h
  where
    by_kind : (kind : Kind) → row.kind ≡ kind → is_lawful_kind kind [] row ≡ true → (239 == b) ≡ false
    by_kind Other is k = comment_first b bs (ap is_comment (sym body) ∙ k)
    by_kind Header is k =
        let head : is_header row.body ≡ true = kind_cases row.body row.kind own.kind is in
        let there : is_header (b ∷ bs) ≡ true = ap is_header (sym body) ∙ head in
        not_239 b 91 (and_left _ _ (and_left _ _ (and_left _ _ there))) refl
    by_kind Pair is k =
        let none : row.section ≡ 0 = own.section ∙ ap (λ k. 0 + header_count k) is in
        let bad : not (row.section == 0) ≡ true = and_left _ _ k in
        let no : not (0 == 0) ≡ true = ap (λ n. not (n == 0)) (sym none) ∙ bad in
        cc

ending_first : (body ending rest : List ℕ) → body ≡ [] → IsEnding body ending → is_marked ((body ++ ending) ++ rest) ≡ false
ending_first body ending rest none (inl h) = rw (none, h.0) refl
ending_first body ending rest none (inr h) = rw (none, h) refl

front_of : (row : Row) (rest : List ℕ) → IsRow 0 row → IsEnding row.body row.ending ⊎ ((row.ending ≡ []) × (0 < length row.body)) → is_lawful [] row ≡ true
    → is_marked ((row.body ++ row.ending) ++ rest) ≡ false
front_of row rest own ends h = by_body row.body refl
  where
    by_body : (body : List ℕ) → row.body ≡ body → is_marked ((row.body ++ row.ending) ++ rest) ≡ false
    by_body (b ∷ bs) is = rw is (not_marked b ((bs ++ row.ending) ++ rest) (first_byte row b bs is own h))
    by_body [] is = elim ends [ inl e ↦ ending_first row.body row.ending rest is e | inr e ↦ (let some : 0 < length row.body = e.1 in let size : length row.body ≡ 0 = ap length is in absurd (omega (arith, some, size))) ]

pub front_unmarked : (rows : List Row) → AreWritten 0 rows → are_lawful [] rows ≡ true → is_marked (bytes_of_rows rows) ≡ false
unfolding AreWritten
front_unmarked [] h k = refl
front_unmarked (row ∷ []) h k = front_of row [] h.0 h.1 (and_left _ _ k)
front_unmarked (row ∷ next ∷ rows) h k = front_of row (bytes_of_rows (next ∷ rows)) h.0 (inl h.1) (and_left _ _ k)

-- what stands behind the mark
behind_mark : (text bytes : List ℕ) → is_marked bytes ≡ false → drop (mark_len (take (mark_len text) text ++ bytes)) (take (mark_len text) text ++ bytes) ≡ bytes
behind_mark text bytes none = by_test (is_marked text) refl
  where
    bare : drop (cond (is_marked bytes) 3 0) bytes ≡ bytes
    bare = rw none refl

    marked : (t : List ℕ) → is_marked t ≡ true → drop (mark_len (take 3 t ++ bytes)) (take 3 t ++ bytes) ≡ bytes
    marked [] e = cc
    marked (a ∷ []) e = by_first (239 == a) e
      where
        by_first : (x : Bool) → x && false ≡ true → drop (mark_len (a ∷ bytes)) (a ∷ bytes) ≡ bytes
        by_first true k = cc
        by_first false k = cc
    marked (a ∷ b ∷ []) e = by_first (239 == a) (187 == b) e
      where
        by_first : (x y : Bool) → x && (y && false) ≡ true → drop (mark_len (a ∷ b ∷ bytes)) (a ∷ b ∷ bytes) ≡ bytes
        by_first true true k = cc
        by_first true false k = cc
        by_first false y k = cc
    marked (a ∷ b ∷ c ∷ cs) e =
        let first : (239 == a) ≡ true = and_left _ _ e in
        let second : (187 == b) ≡ true = and_left _ _ (and_right (239 == a) _ e) in
        let third : (191 == c) ≡ true = and_left _ _ (and_right (187 == b) _ (and_right (239 == a) _ e)) in
        rw (first, second, third) refl

    by_test : (b : Bool) → is_marked text ≡ b → drop (mark_len (take (cond b 3 0) text ++ bytes)) (take (cond b 3 0) text ++ bytes) ≡ bytes
    by_test true is = marked text is
    by_test false is = bare

-- the rows of a text with keys set are those that it is written of
pub rows_written : (text : List ℕ) (cs : List Change) → reading text ≡ Ok text → AreClean cs → AreApart cs → AreLines cs
    → rows_of (text_with text (with_keys cs (with_both (rows_of text)))) ≡ closed (newline_of (with_keys cs (with_both (rows_of text)))) (with_keys cs (with_both (rows_of text)))
rows_written text cs accepted clean apart lines =
    rows_by_bytes (text_with text rows)
    ∙ ap (λ bytes. numbered 0 (cut bytes)) (behind_mark text (bytes_of_rows whole) (front_unmarked whole written lawful))
    ∙ written_rows_read 0 whole written
  where
    old : List Row
    old = with_both (rows_of text)

    rows : List Row
    rows = with_keys cs (with_both (rows_of text))

    whole : List Row
    whole = closed (newline_of rows) rows

    spelled : AreSpelled 0 old
    spelled = both_spelled (rows_of text) (spelled_rows text)

    now : AreSpelled 0 rows
    now = rewritten_spelled old cs (newline_of old) 0 old (newline_is 0 old spelled) clean lines spelled

    written : AreWritten 0 whole
    written = closed_written (newline_of rows) 0 rows (newline_is 0 rows now) now

    lawful : are_lawful [] whole ≡ true
    lawful = all_closed_lawful (newline_of rows) rows (with_keys_lawful old cs clean apart (both_lawful (rows_of text) (rows_lawful text [] (lines_of text) (lawful_lines text accepted))))
