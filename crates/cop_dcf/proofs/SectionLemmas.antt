-- The sections for the file's name and for the node.
use Rattle.std.proofs.Common.{◌≡◌, ◌≤◌, ℕ, ◌+◌, Bool, true, false, cond, ◌||◌, List, [], ◌∷◌, ◌++◌, codes, map, length, drop, find, Option, Some, None, refl, sym, ap, ◌∙◌, arith}
use Rattle.std.specs.List.{list_any}
use Rattle.std.specs.Option.{option_map, option_map_or, option_or}
use Rattle.std.proofs.lemmas.List.Folds.{find-append}
use Rattle.cop_eds.specs.declared.line.Line.{Line}
use Rattle.cop_eds.specs.Text.{cut, mark_len}
use Rattle.cop_eds.specs.Names.{same_section}
use Rattle.cop_eds.specs.Lines.{header_count, line_of, lines_from, lines_of}
use Rattle.cop_eds.specs.Sections.{section_of}
use Rattle.cop_eds.specs.Rows.{Row, row_of, rows_of, has_name}
use Rattle.cop_eds.specs.Edits.{header_row, newline_of, section_count, with_section}
use Rattle.cop_eds.proofs.RowLemmas.{section_row}
use Rattle.cop_dcf.specs.Dcf.{file_number, device_number}

-- each line is in the section before it, or begins the next
unfoldable pub AreLaid : ℕ → List Line → Type 0
AreLaid before [] = Unit {0}
AreLaid before (line ∷ lines) = (line.section ≡ before + header_count line.kind) × AreLaid line.section lines

laid_from : (at before : ℕ) (raws : List (List ℕ)) → AreLaid before (lines_from at before raws)
unfolding AreLaid
laid_from at before [] = tt
laid_from at before (raw ∷ raws) = (refl, laid_from (at + length raw) (line_of at before raw).section raws)

pub lines_laid : (text : List ℕ) → AreLaid 0 (lines_of text)
lines_laid text = laid_from (mark_len text) 0 (cut (drop (mark_len text) text))

-- no section is above the last
pub count_least : (text : List ℕ) (before : ℕ) (line : Line) (lines : List Line) → AreLaid before (line ∷ lines) → line.section ≤ section_count (map (row_of text) (line ∷ lines))
unfolding AreLaid
count_least text before line [] laid = omega arith
count_least text before line (next ∷ lines) laid =
    let up : next.section ≡ line.section + header_count next.kind = laid.1.0 in
    let later : next.section ≤ section_count (map (row_of text) (next ∷ lines)) = count_least text line.section next lines laid.1 in
    omega arith

found_least : (text : List ℕ) (p : Row → Bool) (before : ℕ) (lines : List Line) (row : Row) → AreLaid before lines → find p (map (row_of text) lines) ≡ Some row → row.section ≤ section_count (map (row_of text) lines)
unfolding AreLaid
found_least text p before [] row laid e = cc
found_least text p before (line ∷ []) row laid e = by_test (p (row_of text line)) e
  where
    by_test : (b : Bool) → cond b (Some (row_of text line)) None ≡ Some row → row.section ≤ line.section
    by_test true h = let same : row_of text line ≡ row = cc in let s : line.section ≡ row.section = ap (λ r. r.section) same in omega arith
    by_test false h = cc
found_least text p before (line ∷ next ∷ lines) row laid e = by_test (p (row_of text line)) e (found_least text p line.section (next ∷ lines) row laid.1)
  where
    by_test : (b : Bool) → cond b (Some (row_of text line)) (find p (map (row_of text) (next ∷ lines))) ≡ Some row
        → (find p (map (row_of text) (next ∷ lines)) ≡ Some row → row.section ≤ section_count (map (row_of text) (next ∷ lines))) → row.section ≤ section_count (map (row_of text) (next ∷ lines))
    by_test true h later =
        let same : row_of text line ≡ row = cc in
        let s : line.section ≡ row.section = ap (λ r. r.section) same in
        let all : line.section ≤ section_count (map (row_of text) (line ∷ next ∷ lines)) = count_least text before line (next ∷ lines) laid in
        omega arith
    by_test false h later = later h

-- the row that a name finds
row_found : (text name : List ℕ) (n : ℕ) → section_of text name ≡ Some n → (row : Row) × (find (has_name name) (rows_of text) ≡ Some row) × (row.section ≡ n)
row_found text name n e = by_row (find (has_name name) (rows_of text)) refl (sym (section_row text name) ∙ e)
  where
    by_row : (o : Option Row) → find (has_name name) (rows_of text) ≡ o → option_map (λ row. row.section) o ≡ Some n → (row : Row) × (find (has_name name) (rows_of text) ≡ Some row) × (row.section ≡ n)
    by_row None is h = cc
    by_row (Some row) is h = let same : row.section ≡ n = cc in (row, is, same)

none_found : (text name : List ℕ) → section_of text name ≡ None → find (has_name name) (rows_of text) ≡ None
none_found text name e = by_row (find (has_name name) (rows_of text)) (sym (section_row text name) ∙ e)
  where
    by_row : (o : Option Row) → option_map (λ row. row.section) o ≡ None → o ≡ None
    by_row None h = refl
    by_row (Some row) h = cc

pub section_small : (text name : List ℕ) (n : ℕ) → section_of text name ≡ Some n → n ≤ section_count (rows_of text)
section_small text name n e =
    let found = row_found text name n e in
    let least : found.0.section ≤ section_count (rows_of text) = found_least text (has_name name) 0 (lines_of text) found.0 (lines_laid text) found.1 in
    let same : found.0.section ≡ n = found.2 in
    omega arith

pub none_any : {A : Type 0} (p : A → Bool) (xs : List A) → find p xs ≡ None → list_any p xs ≡ false
none_any p [] e = refl
none_any {A = A} p (x ∷ xs) e = by_test (p x) e (none_any p xs)
  where
    by_test : (b : Bool) → cond b (Some x) (find p xs) ≡ None → (find p xs ≡ None → list_any p xs ≡ false) → b || list_any p xs ≡ false
    by_test true h later = cc
    by_test false h later = later h

-- a row that is found is found when a section is put at the end
find_kept : (p : Row → Bool) (name : List ℕ) (rows : List Row) (row : Row) → find p rows ≡ Some row → find p (with_section name rows) ≡ Some row
find_kept p name rows row e = by_test (list_any (has_name name) rows)
  where
    by_test : (b : Bool) → find p (cond b rows (rows ++ header_row (newline_of rows) (section_count rows + 1) name ∷ [])) ≡ Some row
    by_test true = e
    by_test false =
        find-append p rows (header_row (newline_of rows) (section_count rows + 1) name ∷ [])
        ∙ ap (λ o. option_or o (find p (header_row (newline_of rows) (section_count rows + 1) name ∷ []))) e

-- a section that is absent is put at the end
pub section_put : (name : List ℕ) (rows : List Row) → find (has_name name) rows ≡ None
    → with_section name rows ≡ rows ++ header_row (newline_of rows) (section_count rows + 1) name ∷ []
section_put name rows none = ap (λ b. cond b rows (rows ++ header_row (newline_of rows) (section_count rows + 1) name ∷ [])) (none_any (has_name name) rows none)

find_put : (p : Row → Bool) (rows : List Row) (row : Row) → find p rows ≡ None → p row ≡ true → find p (rows ++ row ∷ []) ≡ Some row
find_put p rows row none own = find-append p rows (row ∷ []) ∙ ap (λ o. option_or o (find p (row ∷ []))) none ∙ ap (λ b. cond b (Some row) None) own

pub own_file : (newline : List ℕ) (section : ℕ) → has_name (codes "FileInfo") (header_row newline section (codes "FileInfo")) ≡ true
unfolding same_section
own_file newline section = refl

pub own_device : (newline : List ℕ) (section : ℕ) → has_name (codes "DeviceComissioning") (header_row newline section (codes "DeviceComissioning")) ≡ true
unfolding same_section
own_device newline section = refl

pub no_device : (newline : List ℕ) (section : ℕ) → has_name (codes "DeviceComissioning") (header_row newline section (codes "FileInfo")) ≡ false
unfolding same_section
no_device newline section = refl

pub file_here : (text : List ℕ) (n : ℕ) → section_of text (codes "FileInfo") ≡ Some n → file_number (rows_of text) ≡ n
file_here text n e =
    let found = row_found text (codes "FileInfo") n e in
    ap (λ o. option_map_or (λ row. row.section) o 0)
    (find_kept (has_name (codes "FileInfo")) (codes "DeviceComissioning") (with_section (codes "FileInfo") (rows_of text)) found.0
    (find_kept (has_name (codes "FileInfo")) (codes "FileInfo") (rows_of text) found.0 found.1))
    ∙ found.2

pub file_put : (text : List ℕ) → section_of text (codes "FileInfo") ≡ None → file_number (rows_of text) ≡ section_count (rows_of text) + 1
file_put text e =
    let none = none_found text (codes "FileInfo") e in
    let header = header_row (newline_of (rows_of text)) (section_count (rows_of text) + 1) (codes "FileInfo") in
    let first : find (has_name (codes "FileInfo")) (with_section (codes "FileInfo") (rows_of text)) ≡ Some header =
    ap (find (has_name (codes "FileInfo"))) (section_put (codes "FileInfo") (rows_of text) none)
    ∙ find_put (has_name (codes "FileInfo")) (rows_of text) header none (own_file (newline_of (rows_of text)) (section_count (rows_of text) + 1)) in
    ap (λ o. option_map_or (λ row. row.section) o 0) (find_kept (has_name (codes "FileInfo")) (codes "DeviceComissioning") (with_section (codes "FileInfo") (rows_of text)) header first)

pub device_here : (text : List ℕ) (n : ℕ) → section_of text (codes "DeviceComissioning") ≡ Some n → device_number (rows_of text) ≡ n
device_here text n e =
    let found = row_found text (codes "DeviceComissioning") n e in
    ap (λ o. option_map_or (λ row. row.section) o 0)
    (find_kept (has_name (codes "DeviceComissioning")) (codes "DeviceComissioning") (with_section (codes "FileInfo") (rows_of text)) found.0
    (find_kept (has_name (codes "DeviceComissioning")) (codes "FileInfo") (rows_of text) found.0 found.1))
    ∙ found.2

-- the node's section is not there after that of the file was put
pub none_after : (rows : List Row) → find (has_name (codes "DeviceComissioning")) rows ≡ None → find (has_name (codes "DeviceComissioning")) (with_section (codes "FileInfo") rows) ≡ None
none_after rows none = by_test (list_any (has_name (codes "FileInfo")) rows)
  where
    header : Row
    header = header_row (newline_of rows) (section_count rows + 1) (codes "FileInfo")

    by_test : (b : Bool) → find (has_name (codes "DeviceComissioning")) (cond b rows (rows ++ header_row (newline_of rows) (section_count rows + 1) (codes "FileInfo") ∷ [])) ≡ None
    by_test true = none
    by_test false =
        find-append (has_name (codes "DeviceComissioning")) rows (header_row (newline_of rows) (section_count rows + 1) (codes "FileInfo") ∷ [])
        ∙ ap (λ o. option_or o (find (has_name (codes "DeviceComissioning")) (header_row (newline_of rows) (section_count rows + 1) (codes "FileInfo") ∷ []))) none
        ∙ ap (λ b. cond b (Some (header_row (newline_of rows) (section_count rows + 1) (codes "FileInfo"))) None) (no_device (newline_of rows) (section_count rows + 1))

device_put : (text : List ℕ) → section_of text (codes "DeviceComissioning") ≡ None → device_number (rows_of text) ≡ section_count (with_section (codes "FileInfo") (rows_of text)) + 1
device_put text e =
    let none = none_after (rows_of text) (none_found text (codes "DeviceComissioning") e) in
    let rows = with_section (codes "FileInfo") (rows_of text) in
    let header = header_row (newline_of rows) (section_count rows + 1) (codes "DeviceComissioning") in
    ap (λ o. option_map_or (λ row. row.section) o 0)
    (ap (find (has_name (codes "DeviceComissioning"))) (section_put (codes "DeviceComissioning") rows none)
    ∙ find_put (has_name (codes "DeviceComissioning")) rows header none (own_device (newline_of rows) (section_count rows + 1)))

pub count_put : (rows : List Row) (row : Row) → section_count (rows ++ row ∷ []) ≡ row.section
count_put [] row = refl
count_put (r ∷ []) row = refl
count_put (r ∷ s ∷ rows) row = count_put (s ∷ rows) row

found_any : {A : Type 0} (p : A → Bool) (xs : List A) (x : A) → find p xs ≡ Some x → list_any p xs ≡ true
found_any p [] x e = cc
found_any {A = A} p (y ∷ ys) x e = by_test (p y) e (found_any p ys x)
  where
    by_test : (b : Bool) → cond b (Some y) (find p ys) ≡ Some x → (find p ys ≡ Some x → list_any p ys ≡ true) → b || list_any p ys ≡ true
    by_test true h later = refl
    by_test false h later = later h

-- the node's section comes first behind the text, or behind that of the file
pub device_first : (text : List ℕ) (n : ℕ) → section_of text (codes "FileInfo") ≡ Some n → section_of text (codes "DeviceComissioning") ≡ None → device_number (rows_of text) ≡ section_count (rows_of text) + 1
device_first text n file e =
    let found = row_found text (codes "FileInfo") n file in
    let there : with_section (codes "FileInfo") (rows_of text) ≡ rows_of text =
    ap (λ b. cond b (rows_of text) (rows_of text ++ header_row (newline_of (rows_of text)) (section_count (rows_of text) + 1) (codes "FileInfo") ∷ []))
    (found_any (has_name (codes "FileInfo")) (rows_of text) found.0 found.1) in
    device_put text e ∙ ap (λ rows. section_count rows + 1) there

pub device_second : (text : List ℕ) → section_of text (codes "FileInfo") ≡ None → section_of text (codes "DeviceComissioning") ≡ None → device_number (rows_of text) ≡ section_count (rows_of text) + 2
device_second text file e =
    let none = none_found text (codes "FileInfo") file in
    let header = header_row (newline_of (rows_of text)) (section_count (rows_of text) + 1) (codes "FileInfo") in
    let put : section_count (with_section (codes "FileInfo") (rows_of text)) ≡ section_count (rows_of text) + 1 =
    ap section_count (section_put (codes "FileInfo") (rows_of text) none) ∙ count_put (rows_of text) header in
    device_put text e ∙ ap (λ n. n + 1) put ∙ omega arith
