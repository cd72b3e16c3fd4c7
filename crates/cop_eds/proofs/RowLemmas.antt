-- What a text says, by its rows.
use Rattle.std.proofs.Common.{◌≡◌, ℕ, ◌+◌, Bool, true, false, not, cond, ◌&&◌, ◌||◌, ◌==◌, List, [], ◌∷◌, ◌++◌, map, length, find, Option, Some, None, refl, ap, ◌∙◌}
use Rattle.std.specs.List.{list_any}
use Rattle.std.specs.Option.{option_map, option_and_then, option_or}
use Rattle.std.proofs.lemmas.List.{map-append}
use Rattle.cop_eds.specs.declared.line.Kind.{Kind}
use Rattle.cop_eds.specs.declared.line.Kind.TheVariants.{Other, Header, Pair}
use Rattle.cop_eds.specs.declared.line.Line.{Line}
use Rattle.cop_eds.specs.declared.fault.Rule.{Rule}
use Rattle.cop_eds.specs.Text.{name_of, key_of, value_of, is_comment}
use Rattle.cop_eds.specs.Lines.{lines_of, text_of, is_named, is_keyed, broken, broken_by_kind, refused_at, first_refusal, first_from}
use Rattle.cop_eds.specs.Sections.{place_at, section_of, is_coded, coded_place, some_value, value_in}
use Rattle.cop_eds.specs.Rows.{Row, row_of, rows_of, has_name, has_number, has_key}

-- the value of a row, where it is not empty
abbrev pub row_value : Row → Option (List ℕ)
row_value row = cond (length (value_of row.body) == 0) None (Some (value_of row.body))

found_row : (text : List ℕ) (p : Line → Bool) (q : Row → Bool) (n : ℕ) (lines : List Line) → ((line : Line) → p line ≡ q (row_of text line))
    → option_map (λ found. row_of text found.1) (first_from n p lines) ≡ find q (map (row_of text) lines)
found_row text p q n [] same = refl
found_row text p q n (line ∷ lines) same = by_test (q (row_of text line)) (same line) (found_row text p q (n + 1) lines same)
  where
    by_test : (b : Bool) → p line ≡ b → option_map (λ found. row_of text found.1) (first_from (n + 1) p lines) ≡ find q (map (row_of text) lines)
        → option_map (λ found. row_of text found.1) (cond (p line) (Some (n, line)) (first_from (n + 1) p lines)) ≡ cond b (Some (row_of text line)) (find q (map (row_of text) lines))
    by_test true e later = rw e refl
    by_test false e later = rw e later

-- the value of a key is that of its row
pub value_row : (text : List ℕ) (section : ℕ) (key : List ℕ) → value_in text section key ≡ option_and_then row_value (find (has_key section key) (rows_of text))
value_row text section key =
    by_found (first_from 1 (is_keyed text section key) (lines_of text))
    ∙ ap (option_and_then row_value) (found_row text (is_keyed text section key) (has_key section key) 1 (lines_of text) (λ line. refl))
  where
    by_value : (n : ℕ) (line : Line) (b : Bool) → option_map (λ (entry : ℕ × List ℕ). entry.1) (cond b None (Some (n, value_of (text_of text line)))) ≡ cond b None (Some (value_of (text_of text line)))
    by_value n line true = refl
    by_value n line false = refl

    by_found : (o : Option (ℕ × Line)) → option_map (λ entry. entry.1) (option_and_then (some_value text) o) ≡ option_and_then row_value (option_map (λ found. row_of text found.1) o)
    by_found None = refl
    by_found (Some found) = by_value found.0 found.1 (length (value_of (text_of text found.1)) == 0)

-- the number of a section is that of its header's row
pub section_row : (text name : List ℕ) → section_of text name ≡ option_map (λ row. row.section) (find (has_name name) (rows_of text))
section_row text name =
    by_found (first_from 1 (is_named text name) (lines_of text))
    ∙ ap (option_map (λ row. row.section)) (found_row text (is_named text name) (has_name name) 1 (lines_of text) (λ line. refl))
  where
    by_found : (o : Option (ℕ × Line)) → option_map (λ place. place.section) (option_map place_at o) ≡ option_map (λ row. row.section) (option_map (λ found. row_of text found.1) o)
    by_found None = refl
    by_found (Some found) = refl

pub coded_row : (text : List ℕ) (code : ℕ) → option_map (λ place. place.section) (coded_place text code) ≡ option_map (λ row. row.section) (find (has_number code) (rows_of text))
coded_row text code =
    by_found (first_from 1 (is_coded text code) (lines_of text))
    ∙ ap (option_map (λ row. row.section)) (found_row text (is_coded text code) (has_number code) 1 (lines_of text) (λ line. refl))
  where
    by_found : (o : Option (ℕ × Line)) → option_map (λ place. place.section) (option_map place_at o) ≡ option_map (λ row. row.section) (option_map (λ found. row_of text found.1) o)
    by_found None = refl
    by_found (Some found) = refl

-- a row keeps the rules of lines after earlier ones
abbrev pub is_lawful_kind : Kind → List Row → Row → Bool
is_lawful_kind Other earlier row = is_comment row.body
is_lawful_kind Header earlier row = not (list_any (has_name (name_of row.body)) earlier)
is_lawful_kind Pair earlier row = not (row.section == 0) && not (list_any (has_key row.section (key_of row.body)) earlier)

abbrev pub is_lawful : List Row → Row → Bool
is_lawful earlier row = is_lawful_kind row.kind earlier row

abbrev pub are_lawful : List Row → List Row → Bool
are_lawful earlier [] = true
are_lawful earlier (row ∷ rows) = is_lawful earlier row && are_lawful (earlier ++ row ∷ []) rows

any_row : (text : List ℕ) (p : Line → Bool) (q : Row → Bool) (lines : List Line) → ((line : Line) → p line ≡ q (row_of text line))
    → list_any p lines ≡ list_any q (map (row_of text) lines)
any_row text p q [] same = refl
any_row text p q (line ∷ lines) same = rw (same line) (ap (λ b. q (row_of text line) || b) (any_row text p q lines same))

abbrev is_none_rule : Option Rule → Bool
is_none_rule None = true
is_none_rule (Some rule) = false

-- a line breaks no rule exactly where its row is lawful
not_broken : (text : List ℕ) (earlier : List Line) (line : Line) → is_none_rule (broken text earlier line) ≡ is_lawful (map (row_of text) earlier) (row_of text line)
not_broken text earlier line = by_kind line.kind
  where
    by_test : (b : Bool) (rule : Rule) → is_none_rule (cond b (Some rule) None) ≡ not b
    by_test true rule = refl
    by_test false rule = refl

    by_comment : (b : Bool) (rule : Rule) → is_none_rule (cond b None (Some rule)) ≡ b
    by_comment true rule = refl
    by_comment false rule = refl

    by_tests : (a b : Bool) (rule other : Rule) → is_none_rule (cond a (Some rule) (cond b (Some other) None)) ≡ (not a && not b)
    by_tests true b rule other = refl
    by_tests false b rule other = by_test b other

    by_kind : (kind : Kind) → is_none_rule (broken_by_kind kind text earlier line) ≡ is_lawful_kind kind (map (row_of text) earlier) (row_of text line)
    by_kind Other = by_comment _ _
    by_kind Header = by_test _ _ ∙ ap not (any_row text (is_named text (name_of (text_of text line))) (has_name (name_of (text_of text line))) earlier (λ l. refl))
    by_kind Pair =
        by_tests _ _ _ _
        ∙ ap (λ b. not (line.section == 0) && not b) (any_row text (is_keyed text line.section (key_of (text_of text line))) (has_key line.section (key_of (text_of text line))) earlier (λ l. refl))

-- no line breaks a rule where the rows are lawful, and then alone
pub lawful_rows : (text : List ℕ) (earlier lines : List Line) → are_lawful (map (row_of text) earlier) (map (row_of text) lines) ≡ true → first_refusal text earlier lines ≡ None
lawful_rows text earlier [] h = refl
lawful_rows text earlier (line ∷ lines) h =
    by_rule (broken text earlier line) (not_broken text earlier line) h
    (λ k. lawful_rows text (earlier ++ line ∷ []) lines (rw (map-append (row_of text) earlier (line ∷ [])) k))
  where
    by_rule : (o : Option Rule) → is_none_rule o ≡ is_lawful (map (row_of text) earlier) (row_of text line)
        → is_lawful (map (row_of text) earlier) (row_of text line) && are_lawful (map (row_of text) earlier ++ row_of text line ∷ []) (map (row_of text) lines) ≡ true
        → (are_lawful (map (row_of text) earlier ++ row_of text line ∷ []) (map (row_of text) lines) ≡ true → first_refusal text (earlier ++ line ∷ []) lines ≡ None)
        → option_or (refused_at (length earlier + 1) o) (first_refusal text (earlier ++ line ∷ []) lines) ≡ None
    by_rule None e h later = later (rw (← e) at h)
    by_rule (Some rule) e h later = let no : false ≡ true = rw (← e) at h in cc

pub rows_lawful : (text : List ℕ) (earlier lines : List Line) → first_refusal text earlier lines ≡ None → are_lawful (map (row_of text) earlier) (map (row_of text) lines) ≡ true
rows_lawful text earlier [] h = refl
rows_lawful text earlier (line ∷ lines) h =
    by_rule (broken text earlier line) (not_broken text earlier line) h
    (λ k. rw (map-append (row_of text) earlier (line ∷ [])) at (rows_lawful text (earlier ++ line ∷ []) lines k))
  where
    by_rule : (o : Option Rule) → is_none_rule o ≡ is_lawful (map (row_of text) earlier) (row_of text line)
        → option_or (refused_at (length earlier + 1) o) (first_refusal text (earlier ++ line ∷ []) lines) ≡ None
        → (first_refusal text (earlier ++ line ∷ []) lines ≡ None → are_lawful (map (row_of text) earlier ++ row_of text line ∷ []) (map (row_of text) lines) ≡ true)
        → is_lawful (map (row_of text) earlier) (row_of text line) && are_lawful (map (row_of text) earlier ++ row_of text line ∷ []) (map (row_of text) lines) ≡ true
    by_rule None e h later = rw (← e) (later h)
    by_rule (Some rule) e h later = cc
