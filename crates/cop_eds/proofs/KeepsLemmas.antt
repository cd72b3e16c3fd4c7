-- What a text whose keys are set keeps of the old one.
use Rattle.std.specs.Prelude.{slice_index}
use Rattle.std.proofs.Common.{◌-◌, ◌≡◌, ℕ, ◌+◌, Bool, true, false, not, cond, ◌&&◌, ◌||◌, ◌==◌, List, [], ◌∷◌, ◌++◌, length, find, Option, Some, None, Ok, refl, sym, ap, ◌∙◌, codes}
use Rattle.std.specs.List.{list_any}
use Rattle.std.specs.Option.{option_map, option_and_then, option_or}
use Rattle.std.proofs.lemmas.List.Folds.{find-append, list_any-append}
use Rattle.cop_eds.specs.declared.line.Kind.TheVariants.{Other, Header, Pair}
use Rattle.cop_eds.specs.Text.{name_of, key_of, same_name}
use Rattle.cop_eds.specs.Names.{same_section, code_of, has_code}
use Rattle.cop_eds.specs.Lines.{lines_of, first_refusal}
use Rattle.cop_eds.specs.Sections.{section_of, coded_place, value_in}
use Rattle.cop_eds.specs.Reading.{reading}
use Rattle.cop_eds.proofs.LawLemmas.{lawful_lines}
use Rattle.cop_eds.specs.Rows.{Row, rows_of, has_name, has_number, has_key}
use Rattle.cop_eds.specs.Edits.{Change, header_row, newline_of, section_count, with_section, with_keys, ended, closed}
use Rattle.cop_eds.specs.Kept.{Keeps}
use Rattle.cop_eds.proofs.RowLemmas.{row_value, value_row, section_row, coded_row, is_lawful_kind, is_lawful, are_lawful, lawful_rows, rows_lawful}
use Rattle.cop_eds.proofs.EditLemmas.{hits, AreClean, AreApart, header_same, other_key_same}
use Rattle.cop_eds.proofs.LawfulLemmas.{with_keys_lawful, lawful_append, both, false_not}
use Rattle.cop_eds.specs.declared.line.Kind.{Kind}

-- ends of lines are of no account
closed_find : {B : Type 0} (q : Row → Bool) (f : Row → B) (newline : List ℕ) (rows : List Row) → ((row : Row) → q (ended newline row) ≡ q row) → ((row : Row) → f (ended newline row) ≡ f row)
    → option_map f (find q (closed newline rows)) ≡ option_map f (find q rows)
closed_find q f newline [] same value = refl
closed_find q f newline (row ∷ []) same value = refl
closed_find q f newline (row ∷ next ∷ rows) same value = rw (same row) (by_test (q row) (closed_find q f newline (next ∷ rows) same value))
  where
    by_test : (b : Bool) → option_map f (find q (closed newline (next ∷ rows))) ≡ option_map f (find q (next ∷ rows))
        → option_map f (cond b (Some (ended newline row)) (find q (closed newline (next ∷ rows)))) ≡ option_map f (cond b (Some row) (find q (next ∷ rows)))
    by_test true later = ap Some (value row)
    by_test false later = later

-- a test or a value that looks at no end
ended_same : {B : Type 0} (f : Row → B) (newline : List ℕ) → ((row : Row) (ending : List ℕ) → f (record row { ending = ending }) ≡ f row) → (row : Row) → f (ended newline row) ≡ f row
ended_same f newline blind row = by_test (length row.ending == 0)
  where
    by_test : (b : Bool) → f (cond b (record row { ending = cond (slice_index row.body (length row.body - 1) == 13) (13 ∷ 10 ∷ []) newline }) row) ≡ f row
    by_test true = blind row _
    by_test false = refl

-- the keys that no change sets have their rows
pub kept_key : (section : ℕ) (key : List ℕ) (cs : List Change) (newline : List ℕ) (rows : List Row) → AreClean cs → list_any (hits section key) cs ≡ false
    → option_map row_value (find (has_key section key) (closed newline (with_keys cs rows))) ≡ option_map row_value (find (has_key section key) rows)
kept_key section key cs newline rows clean none =
    closed_find (has_key section key) row_value newline (with_keys cs rows) (ended_same (has_key section key) newline (λ row ending. refl)) (ended_same row_value newline (λ row ending. refl))
    ∙ ap (option_map row_value) (other_key_same section key rows cs (newline_of rows) rows clean none)

pub kept_header : (q : Row → Bool) (cs : List Change) (newline : List ℕ) (rows : List Row) → AreClean cs → ((row : Row) → row.kind ≡ Pair → q row ≡ false)
    → ((row : Row) (ending : List ℕ) → q (record row { ending = ending }) ≡ q row)
    → option_map (λ row. row.section) (find q (closed newline (with_keys cs rows))) ≡ option_map (λ row. row.section) (find q rows)
kept_header q cs newline rows clean none blind =
    closed_find q (λ row. row.section) newline (with_keys cs rows) (ended_same q newline blind) (ended_same (λ row. row.section) newline (λ row ending. refl))
    ∙ ap (option_map (λ row. row.section)) (header_same q rows cs (newline_of rows) rows clean none)

-- what a test or a value that looks at no end sees
abbrev IsBlind : {B : Type 0} → (Row → B) → Type 0
IsBlind f = (row : Row) (ending : List ℕ) → f (record row { ending = ending }) ≡ f row

AreAlike : List Row → List Row → Type 0
AreAlike earlier now = (q : Row → Bool) → IsBlind q → list_any q now ≡ list_any q earlier

alike_more : (earlier now : List Row) (row row' : Row) → AreAlike earlier now → ((q : Row → Bool) → IsBlind q → q row' ≡ q row) → AreAlike (earlier ++ row ∷ []) (now ++ row' ∷ [])
unfolding AreAlike
alike_more earlier now row row' alike same q blind =
    list_any-append q now (row' ∷ []) ∙ ap (λ b. b || (q row' || false)) (alike q blind) ∙ ap (λ b. list_any q earlier || (b || false)) (same q blind) ∙ sym (list_any-append q earlier (row ∷ []))

alike_lawful : (earlier now : List Row) (row : Row) → AreAlike earlier now → is_lawful now row ≡ is_lawful earlier row
unfolding AreAlike
alike_lawful earlier now row alike = by_kind row.kind
  where
    by_kind : (kind : Kind) → is_lawful_kind kind now row ≡ is_lawful_kind kind earlier row
    by_kind Other = refl
    by_kind Header = ap not (alike (has_name (name_of row.body)) (λ r ending. refl))
    by_kind Pair = ap (λ b. not (row.section == 0) && not b) (alike (has_key row.section (key_of row.body)) (λ r ending. refl))

lawful_blind : (now : List Row) → IsBlind (is_lawful now)
lawful_blind now row ending = by_kind row.kind
  where
    by_kind : (kind : Kind) → is_lawful_kind kind now (record row { ending = ending }) ≡ is_lawful_kind kind now row
    by_kind Other = refl
    by_kind Header = refl
    by_kind Pair = refl

closed_lawful : (newline : List ℕ) (earlier now rows : List Row) → AreAlike earlier now → are_lawful now (closed newline rows) ≡ are_lawful earlier rows
closed_lawful newline earlier now [] alike = refl
closed_lawful newline earlier now (row ∷ []) alike = ap (λ b. b && true) (alike_lawful earlier now row alike)
closed_lawful newline earlier now (row ∷ next ∷ rows) alike =
    ap (λ b. b && are_lawful (now ++ ended newline row ∷ []) (closed newline (next ∷ rows))) (ended_same (is_lawful now) newline (lawful_blind now) row ∙ alike_lawful earlier now row alike)
    ∙ ap (λ b. is_lawful earlier row && b) (closed_lawful newline (earlier ++ row ∷ []) (now ++ ended newline row ∷ []) (next ∷ rows)
    (alike_more earlier now row (ended newline row) alike (λ q blind. ended_same q newline blind row)))

pub all_closed_lawful : (newline : List ℕ) (rows : List Row) → are_lawful [] rows ≡ true → are_lawful [] (closed newline rows) ≡ true
unfolding AreAlike
all_closed_lawful newline rows h = closed_lawful newline [] [] rows (λ q blind. refl) ∙ h

or_none : {A : Type 0} (o : Option A) → option_or o None ≡ o
or_none None = refl
or_none (Some x) = refl

-- what is no header of this name is found where it was when a section is put at the end
section_find : (q : Row → Bool) (name : List ℕ) (rows : List Row) → q (header_row (newline_of rows) (section_count rows + 1) name) ≡ false → find q (with_section name rows) ≡ find q rows
section_find q name rows other = by_test (list_any (has_name name) rows)
  where
    by_test : (b : Bool) → find q (cond b rows (rows ++ header_row (newline_of rows) (section_count rows + 1) name ∷ [])) ≡ find q rows
    by_test true = refl
    by_test false =
        find-append q rows (header_row (newline_of rows) (section_count rows + 1) name ∷ [])
        ∙ ap (λ b. option_or (find q rows) (cond b (Some (header_row (newline_of rows) (section_count rows + 1) name)) None)) other
        ∙ or_none (find q rows)

section_lawful : (name : List ℕ) (rows : List Row) → name_of (codes "[" ++ name ++ codes "]") ≡ name → are_lawful [] rows ≡ true → are_lawful [] (with_section name rows) ≡ true
section_lawful name rows own h = by_test (list_any (has_name name) rows) refl
  where
    by_test : (b : Bool) → list_any (has_name name) rows ≡ b → are_lawful [] (cond b rows (rows ++ header_row (newline_of rows) (section_count rows + 1) name ∷ [])) ≡ true
    by_test true is = h
    by_test false is =
        lawful_append [] rows (header_row (newline_of rows) (section_count rows + 1) name ∷ [])
        ∙ both _ _ h (both _ _ (false_not _ (ap (λ n. list_any (has_name n) rows) own ∙ is)) refl)

-- the sections that a DCF has beside those of its EDS text, and the keys that it sets
abbrev pub is_added : List ℕ → Bool
is_added name = same_section (codes "FileInfo") name || same_section (codes "DeviceComissioning") name

abbrev pub is_set : List ℕ → Bool
is_set key =
    same_name (codes "ParameterValue") key || same_name (codes "LastEDS") key || same_name (codes "NodeID") key
    || same_name (codes "NodeName") key || same_name (codes "Baudrate") key

-- the changes are of such keys
unfoldable pub AreOurs : List Change → Type 0
AreOurs [] = Unit {0}
AreOurs (c ∷ cs) = ((key : List ℕ) → is_set key ≡ false → same_name c.key key ≡ false) × AreOurs cs

none_ours : (section : ℕ) (key : List ℕ) (cs : List Change) → AreOurs cs → is_set key ≡ false → list_any (hits section key) cs ≡ false
unfolding AreOurs
none_ours section key [] ours none = refl
none_ours section key (c ∷ cs) ours none =
    let other : same_name c.key key ≡ false = ours.0 key none in
    rw other (by_section (c.section == section) (none_ours section key cs ours.1 none))
  where
    by_section : (b : Bool) → list_any (hits section key) cs ≡ false → ((b && false) || list_any (hits section key) cs) ≡ false
    by_section true h = h
    by_section false h = h

abbrev pub with_both : List Row → List Row
with_both rows = with_section (codes "DeviceComissioning") (with_section (codes "FileInfo") rows)

both_find : (q : Row → Bool) (rows : List Row) → ((newline : List ℕ) (section : ℕ) → q (header_row newline section (codes "FileInfo")) ≡ false)
    → ((newline : List ℕ) (section : ℕ) → q (header_row newline section (codes "DeviceComissioning")) ≡ false) → find q (with_both rows) ≡ find q rows
both_find q rows first second =
    section_find q (codes "DeviceComissioning") (with_section (codes "FileInfo") rows) (second _ _) ∙ section_find q (codes "FileInfo") rows (first _ _)

both_lawful : (rows : List Row) → are_lawful [] rows ≡ true → are_lawful [] (with_both rows) ≡ true
both_lawful rows h = section_lawful (codes "DeviceComissioning") (with_section (codes "FileInfo") rows) refl (section_lawful (codes "FileInfo") rows refl h)

-- The new text is the old one with both sections, with changes of the keys that a DCF sets; each line that others come
-- after has an end.
pub record IsEdit (old new : List ℕ) (changes : List Change) : Type 0 where
  pub newline : List ℕ
  pub rows : rows_of new ≡ closed newline (with_keys changes (with_both (rows_of old)))
  pub clean : AreClean changes
  pub apart : AreApart changes
  pub ours : AreOurs changes

and_then_by : (o p : Option Row) → option_map row_value o ≡ option_map row_value p → option_and_then row_value o ≡ option_and_then row_value p
and_then_by None None e = refl
and_then_by None (Some y) e = cc
and_then_by (Some x) None e = cc
and_then_by (Some x) (Some y) e = let same : row_value x ≡ row_value y = cc in same

or_false_left : (a b : Bool) → a || b ≡ false → a ≡ false
or_false_left true b e = cc
or_false_left false b e = refl

or_false_right : (a b : Bool) → a || b ≡ false → b ≡ false
or_false_right true b e = cc
or_false_right false b e = e

no_pair_name : (name : List ℕ) (row : Row) → row.kind ≡ Pair → has_name name row ≡ false
no_pair_name name row kind = rw kind refl

no_pair_number : (code : ℕ) (row : Row) → row.kind ≡ Pair → has_number code row ≡ false
no_pair_number code row kind = rw kind refl

-- an edit keeps all that the rules look at
pub edit_keeps : (old new : List ℕ) (cs : List Change) → IsEdit old new cs → Keeps is_added is_set old new
edit_keeps old new cs edit = record { sections = sections; coded = coded; values = values }
  where
    sections : (name : List ℕ) → is_added name ≡ false → section_of new name ≡ section_of old name
    sections name none =
        section_row new name
        ∙ ap (λ rows. option_map (λ row. row.section) (find (has_name name) rows)) edit.rows
        ∙ kept_header (has_name name) cs edit.newline (with_both (rows_of old)) edit.clean (no_pair_name name) (λ row ending. refl)
        ∙ ap (option_map (λ row. row.section)) (both_find (has_name name) (rows_of old) (λ newline section. or_false_left _ _ none) (λ newline section. or_false_right (same_section (codes "FileInfo") name) _ none))
        ∙ sym (section_row old name)

    coded : (code : ℕ) → option_map (λ place. place.section) (coded_place new code) ≡ option_map (λ place. place.section) (coded_place old code)
    coded code =
        coded_row new code
        ∙ ap (λ rows. option_map (λ row. row.section) (find (has_number code) rows)) edit.rows
        ∙ kept_header (has_number code) cs edit.newline (with_both (rows_of old)) edit.clean (no_pair_number code) (λ row ending. refl)
        ∙ ap (option_map (λ row. row.section)) (both_find (has_number code) (rows_of old) (λ newline section. no_code) (λ newline section. no_code_either))
        ∙ sym (coded_row old code)
      where
        no_code : has_code (code_of (codes "FileInfo")) code ≡ false
        no_code = refl

        no_code_either : has_code (code_of (codes "DeviceComissioning")) code ≡ false
        no_code_either = refl

    values : (section : ℕ) (key : List ℕ) → is_set key ≡ false → value_in new section key ≡ value_in old section key
    values section key none =
        value_row new section key
        ∙ ap (λ rows. option_and_then row_value (find (has_key section key) rows)) edit.rows
        ∙ and_then_by _ _ (kept_key section key cs edit.newline (with_both (rows_of old)) edit.clean (none_ours section key cs edit.ours none))
        ∙ ap (option_and_then row_value) (both_find (has_key section key) (rows_of old) (λ newline section. refl) (λ newline section. refl))
        ∙ sym (value_row old section key)

-- and its lines are lawful
pub edit_lawful : (old new : List ℕ) (cs : List Change) → IsEdit old new cs → reading old ≡ Ok old → first_refusal new [] (lines_of new) ≡ None
edit_lawful old new cs edit e =
    lawful_rows new [] (lines_of new)
    (ap (are_lawful []) edit.rows
    ∙ all_closed_lawful edit.newline (with_keys cs (with_both (rows_of old)))
    (with_keys_lawful (with_both (rows_of old)) cs edit.clean edit.apart
    (both_lawful (rows_of old) (rows_lawful old [] (lines_of old) (lawful_lines old e)))))
