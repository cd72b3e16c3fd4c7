-- What stands in a DCF for each line, and for each section that is appended.
use Rattle.std.proofs.Common.{◌≡◌, ◌<◌, ◌≤◌, ℕ, suc, ◌+◌, ◌-◌, Bool, true, false, not, cond, ◌&&◌, ◌||◌, ◌==◌, List, [], ◌∷◌, ◌++◌, codes, map, length, take, drop, get_or, find, Option, Some, None, is_some, refl, sym, ap, ◌∙◌, arith, append_assoc, append-nil}
use Rattle.std.proofs.Common.{length-drop}
use Rattle.std.specs.Prelude.{slice_get, slice_index, slice_range}
use Rattle.std.specs.List.{list_any}
use Rattle.std.specs.Option.{option_map, option_map_or}
use Rattle.std.proofs.Math.Bool.{and-false}
use Rattle.std.proofs.Math.Seq.{take-append-add}
use Rattle.std.proofs.lemmas.Bool.Decides.{nat_tests}
use Rattle.std.proofs.lemmas.List.{take_more, length-take-le}
use Rattle.std.proofs.lemmas.List.Folds.{drop_split}
use Rattle.cop_eds.specs.declared.line.Kind.{Kind}
use Rattle.cop_eds.specs.declared.line.Kind.TheVariants.{Other, Header, Pair}
use Rattle.cop_eds.specs.declared.line.Line.{Line}
use Rattle.cop_eds.specs.Text.{cut, mark_len}
use Rattle.cop_eds.specs.Lines.{header_count, line_of, lines_from, lines_of, text_of, IsInside}
use Rattle.cop_eds.specs.Sections.{section_of}
use Rattle.cop_eds.specs.Rows.{row_of, rows_of, has_name}
use Rattle.cop_eds.specs.Edits.{Change, pair_of, change_of, changed, section_count, newline_of}
use Rattle.cop_eds.proofs.RowLemmas.{section_row}
use Rattle.cop_dcf.specs.Pieces.{is_wanting, new_lines, has_section, is_extended, ends_entries, piece_of, whole_line}

-- a line more of keys that are not there yet
new_lines_append : (text newline : List ℕ) (xs ys : List Change) → new_lines text newline (xs ++ ys) ≡ new_lines text newline xs ++ new_lines text newline ys
new_lines_append text newline [] ys = refl
new_lines_append text newline (x ∷ xs) ys =
    ap (λ rest. cond (is_wanting text x) (pair_of x ++ newline) [] ++ rest) (new_lines_append text newline xs ys)
    ∙ sym (append_assoc (cond (is_wanting text x) (pair_of x ++ newline) []) (new_lines text newline xs) (new_lines text newline ys))

pub new_lines_more : (text newline : List ℕ) (keys : List Change) (k : ℕ) (d : Change) → k < length keys
    → new_lines text newline (take (k + 1) keys) ≡ new_lines text newline (take k keys) ++ cond (is_wanting text (get_or keys k d)) (pair_of (get_or keys k d) ++ newline) []
new_lines_more text newline keys k d lt =
    ap (new_lines text newline) (take_more keys k d lt)
    ∙ new_lines_append text newline (take k keys) (get_or keys k d ∷ [])
    ∙ ap (λ xs. new_lines text newline (take k keys) ++ xs) (append-nil (cond (is_wanting text (get_or keys k d)) (pair_of (get_or keys k d) ++ newline) []))

pub wanting_more : (text newline : List ℕ) (keys : List Change) (k : ℕ) (d : Change) (before now last : List ℕ) → k < length keys → is_wanting text (get_or keys k d) ≡ true
    → now ≡ before ++ new_lines text newline (take k keys) → last ≡ (now ++ pair_of (get_or keys k d)) ++ newline → last ≡ before ++ new_lines text newline (take (k + 1) keys)
wanting_more text newline keys k d before now last lt wanting old new =
    let more = ap (λ b. new_lines text newline (take k keys) ++ cond b (pair_of (get_or keys k d) ++ newline) []) wanting in
    new ∙ append_assoc now (pair_of (get_or keys k d)) newline ∙ ap (λ xs. xs ++ (pair_of (get_or keys k d) ++ newline)) old
    ∙ append_assoc before (new_lines text newline (take k keys)) (pair_of (get_or keys k d) ++ newline)
    ∙ sym (ap (λ xs. before ++ xs) (new_lines_more text newline keys k d lt ∙ more))

pub there_more : (text newline : List ℕ) (keys : List Change) (k : ℕ) (d : Change) (before now : List ℕ) → k < length keys → is_wanting text (get_or keys k d) ≡ false
    → now ≡ before ++ new_lines text newline (take k keys) → now ≡ before ++ new_lines text newline (take (k + 1) keys)
there_more text newline keys k d before now lt there old =
    let more = ap (λ b. new_lines text newline (take k keys) ++ cond b (pair_of (get_or keys k d) ++ newline) []) there in
    old ∙ sym (ap (λ xs. before ++ xs) (new_lines_more text newline keys k d lt ∙ more ∙ append-nil (new_lines text newline (take k keys))))

-- the section of a name is there
some_found : {A B : Type 0} (f : A → B) (p : A → Bool) (xs : List A) → is_some (option_map f (find p xs)) ≡ list_any p xs
some_found f p [] = refl
some_found {A = A} f p (x ∷ xs) = by_test (p x) (some_found f p xs)
  where
    by_test : (b : Bool) → is_some (option_map f (find p xs)) ≡ list_any p xs → is_some (option_map f (cond b (Some x) (find p xs))) ≡ (b || list_any p xs)
    by_test true later = refl
    by_test false later = later

pub has_section_is : (text name : List ℕ) → is_some (section_of text name) ≡ has_section text name
has_section_is text name = ap is_some (section_row text name) ∙ some_found (λ row. row.section) (has_name name) (rows_of text)

-- the end of the first line
pub newline_first : (text : List ℕ) (lines : List Line) (line : Line) → slice_get lines 0 ≡ Some line
    → newline_of (map (row_of text) lines) ≡ cond (length (slice_range text line.to line.next) == 0) (10 ∷ []) (slice_range text line.to line.next)
newline_first text [] line e = cc
newline_first text (x ∷ xs) line e =
    let same : x ≡ line = cc in
    ap (λ (l : Line). cond (length (slice_range text l.to l.next) == 0) (10 ∷ []) (slice_range text l.to l.next)) same

-- how many sections there are: the last line's
pub count_last : (text : List ℕ) (lines : List Line) (line : Line) → slice_get lines (length lines - 1) ≡ Some line → section_count (map (row_of text) lines) ≡ line.section
count_last text [] line e = cc
count_last text (x ∷ []) line e = let same : x ≡ line = cc in ap (λ (l : Line). l.section) same
count_last text (x ∷ y ∷ ys) line e =
    let size : length (x ∷ y ∷ ys) - 1 ≡ suc (length (y ∷ ys) - 1) = omega arith in
    count_last text (y ∷ ys) line (ap (slice_get (x ∷ y ∷ ys)) (sym size) ∙ e)

one_header : (kind : Kind) → header_count kind ≤ 1
one_header Header = omega arith
one_header Pair = omega arith
one_header Other = omega arith

-- no more sections than lines
count_from : (text : List ℕ) (at before : ℕ) (raws : List (List ℕ)) → section_count (map (row_of text) (lines_from at before raws)) ≤ before + length (lines_from at before raws)
count_from text at before [] = omega arith
count_from text at before (raw ∷ []) = omega (arith, one_header (line_of at before raw).kind)
count_from text at before (raw ∷ next ∷ raws) =
    let later : section_count (map (row_of text) (lines_from (at + length raw) (line_of at before raw).section (next ∷ raws)))
    ≤ (line_of at before raw).section + length (lines_from (at + length raw) (line_of at before raw).section (next ∷ raws)) =
    count_from text (at + length raw) (line_of at before raw).section (next ∷ raws) in
    omega (arith, one_header (line_of at before raw).kind, later)

pub count_small : (text : List ℕ) → section_count (rows_of text) ≤ length (lines_of text)
count_small text =
    let all : section_count (rows_of text) ≤ 0 + length (lines_of text) = count_from text (mark_len text) 0 (cut (drop (mark_len text) text)) in
    omega arith

-- an end of no bytes
pub no_end : (text : List ℕ) (to next : ℕ) (other : List ℕ) → to ≡ next → cond (length (slice_range text to next) == 0) other (slice_range text to next) ≡ other
no_end text to next other e =
    let none : next - to ≡ 0 = omega arith in
    ap (λ n. cond (length (take n (drop to text)) == 0) other (take n (drop to text))) none

-- exactly one of both sections is enough for the text to be extended
pub extended_is : (text : List ℕ) (file device : Option ℕ) → file ≡ section_of text (codes "FileInfo") → device ≡ section_of text (codes "DeviceComissioning")
    → not (is_some file && is_some device) ≡ is_extended text
extended_is text file device f d =
    ap (λ b. not (b && is_some device)) (ap is_some f ∙ has_section_is text (codes "FileInfo"))
    ∙ ap (λ b. not (has_section text (codes "FileInfo") && b)) (ap is_some d ∙ has_section_is text (codes "DeviceComissioning"))

pub extended_then : (text : List ℕ) (file device : Option ℕ) (result : Bool) → file ≡ section_of text (codes "FileInfo") → device ≡ section_of text (codes "DeviceComissioning")
    → is_some file ≡ true → result ≡ is_some device → not result ≡ is_extended text
extended_then text file device result f d there e =
    ap not e ∙ ap (λ b. not (b && is_some device)) (sym there) ∙ extended_is text file device f d

pub extended_else : (text : List ℕ) (file : Option ℕ) (result : Bool) → file ≡ section_of text (codes "FileInfo") → is_some file ≡ false → result ≡ false → not result ≡ is_extended text
extended_else text file result f none e =
    ap not e ∙ ap (λ b. not (b && has_section text (codes "DeviceComissioning"))) (sym none ∙ ap is_some f ∙ has_section_is text (codes "FileInfo"))

-- the bytes of a line whose key is set, and of another
pub set_body : (text : List ℕ) (line : Line) (keys : List Change) (key : Change) → change_of keys (row_of text line) ≡ Some key → (changed keys (row_of text line)).body ≡ pair_of key
set_body text line keys key e = ap (λ o. (option_map_or (λ change. record (row_of text line) { body = pair_of change }) o (row_of text line)).body) e

pub own_body : (text : List ℕ) (line : Line) (keys : List Change) → change_of keys (row_of text line) ≡ None → (changed keys (row_of text line)).body ≡ (row_of text line).body
own_body text line keys e = ap (λ o. (option_map_or (λ change. record (row_of text line) { body = pair_of change }) o (row_of text line)).body) e

-- what is put where a section is absent
pub put_not : (text name more : List ℕ) (n : ℕ) → section_of text name ≡ Some n → cond (has_section text name) [] more ≡ []
put_not text name more n e = ap (λ b. cond b [] more) (sym (has_section_is text name) ∙ ap is_some e)

pub put_so : (text name more : List ℕ) → section_of text name ≡ None → cond (has_section text name) [] more ≡ more
put_so text name more e = ap (λ b. cond b [] more) (sym (has_section_is text name) ∙ ap is_some e)

-- the bytes of a line and of its end are those from its begin on
pub slices_join : (text : List ℕ) (from to next : ℕ) → from ≤ to → to ≤ next → to ≤ length text → slice_range text from to ++ slice_range text to next ≡ slice_range text from next
slices_join text from to next ft tn tl =
    let size : length (slice_range text from to) ≡ to - from = length-take-le (to - from) (drop from text) (simp length-drop (omega arith)) in
    let sum : next - from ≡ length (slice_range text from to) + (next - to) = omega (arith, size) in
    sym (ap (λ n. take n (drop from text)) sum
    ∙ ap (λ xs. take (length (slice_range text from to) + (next - to)) xs) (drop_split text from to ft)
    ∙ take-append-add (slice_range text from to) (drop to text) (next - to))

has_some : {A : Type 0} (xs : List A) → 0 < length xs → (length xs == 0) ≡ false
has_some xs h = grind (arith, nat_tests)

-- a line that has an end keeps it, whatever follows
end_kept : (newline body ending : List ℕ) (followed : Bool) → (length ending == 0) ≡ false → whole_line newline body ending followed ≡ body ++ ending
end_kept newline body ending true some = ap (λ b. body ++ cond b (cond (slice_index body (length body - 1) == 13) (13 ∷ 10 ∷ []) newline) ending) some
end_kept newline body ending false some = refl

-- where no key is set, a line that has an end stands as it is
pub line_kept : (text newline : List ℕ) (changes : List Change) (line : Line) (later : List Line) → (length changes == 0) ≡ true → IsInside (length text) line → line.to < line.next
    → slice_range text line.from line.next ≡ piece_of text newline changes line later
line_kept text newline [] line later none inside ended =
    let size : length (slice_range text line.to line.next) ≡ line.next - line.to = length-take-le (line.next - line.to) (drop line.to text) (simp length-drop (omega (arith, inside.all))) in
    let some : (length (slice_range text line.to line.next) == 0) ≡ false = has_some (slice_range text line.to line.next) (omega (arith, size)) in
    sym (ap (λ b. whole_line newline (text_of text line) (slice_range text line.to line.next) ((b || not (length later == 0)) || is_extended text) ++ cond b [] []) (and-false (ends_entries line later))
    ∙ append-nil (whole_line newline (text_of text line) (slice_range text line.to line.next) ((false || not (length later == 0)) || is_extended text))
    ∙ end_kept newline (text_of text line) (slice_range text line.to line.next) ((false || not (length later == 0)) || is_extended text) some
    ∙ slices_join text line.from line.to line.next inside.bytes inside.ending (omega (arith, inside.ending, inside.all)))
line_kept text newline (change ∷ changes) line later none inside ended =
    let some : (length (change ∷ changes) == 0) ≡ false = has_some (change ∷ changes) (omega arith) in
    cc
