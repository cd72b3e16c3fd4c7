-- The pieces of a DCF are its text.
use Rattle.std.proofs.Common.{◌≡◌, ◌≢◌, ◌<◌, ◌≤◌, ℕ, ◌+◌, ◌-◌, Bool, true, false, not, cond, ◌&&◌, ◌||◌, ◌==◌, List, [], ◌∷◌, ◌++◌, codes, map, length, take, get_or, filter, find, Option, Some, None, is_some, refl, sym, ap, ◌∙◌, arith, append_assoc, append-nil}
use Rattle.std.specs.Prelude.{slice_index}
use Rattle.std.specs.List.{list_any}
use Rattle.std.specs.Option.{option_map, option_map_or}
use Rattle.std.proofs.Math.Bool.{or-false}
use Rattle.std.proofs.lemmas.Bool.{ne_eqb}
use Rattle.std.proofs.lemmas.Bool.Decides.{nat_tests}
use Rattle.std.proofs.lemmas.List.Folds.{list_any-append}
use Rattle.cop_eds.specs.declared.line.Kind.{Kind}
use Rattle.cop_eds.specs.declared.line.Kind.TheVariants.{Other, Header, Pair}
use Rattle.cop_eds.specs.declared.line.Line.{Line}
use Rattle.cop_eds.specs.Text.{mark_len}
use Rattle.cop_eds.specs.Lines.{is_kind, header_count, is_keyed, first_from, lines_of}
use Rattle.cop_eds.specs.Sections as sections
use Rattle.cop_eds.specs.Rows.{Row, row_of, rows_of, has_name, has_key}
use Rattle.cop_eds.specs.Edits.{Change, pair_of, change_of, changed, is_entry, is_last, is_new, new_row, new_rows, rewritten, with_keys, newline_of, header_row, section_count, with_section, ended, closed, bytes_of_rows, text_with}
use Rattle.cop_eds.proofs.EditLemmas.{and_left, and_right, sections_equal}
use Rattle.cop_dcf.specs.Changes.{AreBySection, is_in}
use Rattle.cop_dcf.specs.Dcf.{with_sections, file_number, device_number}
use Rattle.cop_dcf.specs.Pieces.{pair_follows, ends_entries, is_wanting, new_lines, whole_line, has_section, is_extended, adds_keys, piece_of, pieces_of, section_of}
use Rattle.cop_dcf.proofs.PieceLemmas.{has_section_is}
use Rattle.cop_dcf.proofs.SectionLemmas.{AreLaid, lines_laid, count_least, no_device, count_put, file_put, device_first, device_second}

-- a row, and those behind it
abbrev pub is_some_row : List Row → Bool
is_some_row [] = false
is_some_row (row ∷ rows) = true

ended_bytes : (newline : List ℕ) (row : Row) → (ended newline row).body ++ (ended newline row).ending ≡ whole_line newline row.body row.ending true
ended_bytes newline row = by_test (length row.ending == 0)
  where
    by_test : (b : Bool)
        → (cond b (record row { ending = cond (slice_index row.body (length row.body - 1) == 13) (13 ∷ 10 ∷ []) newline }) row).body
        ++ (cond b (record row { ending = cond (slice_index row.body (length row.body - 1) == 13) (13 ∷ 10 ∷ []) newline }) row).ending
        ≡ row.body ++ cond b (cond (slice_index row.body (length row.body - 1) == 13) (13 ∷ 10 ∷ []) newline) row.ending
    by_test true = refl
    by_test false = refl

closed_first : (newline : List ℕ) (row : Row) (rows : List Row) → bytes_of_rows (closed newline (row ∷ rows)) ≡ whole_line newline row.body row.ending (is_some_row rows) ++ bytes_of_rows (closed newline rows)
closed_first newline row [] = refl
closed_first newline row (next ∷ rows) = ap (λ xs. xs ++ bytes_of_rows (closed newline (next ∷ rows))) (ended_bytes newline row)

-- a line that has an end keeps it
own_end : (newline body : List ℕ) (b : Bool) → (length newline == 0) ≡ false → whole_line newline body newline b ≡ body ++ newline
own_end newline body false some = refl
own_end newline body true some = ap (λ t. body ++ cond t (cond (slice_index body (length body - 1) == 13) (13 ∷ 10 ∷ []) newline) newline) some

-- new rows that are written
news_closed : (newline : List ℕ) (p : Change → Bool) (text : List ℕ) (keys : List Change) (rest : List Row) → (length newline == 0) ≡ false → ((c : Change) → p c ≡ is_wanting text c)
    → bytes_of_rows (closed newline (map (new_row newline) (filter p keys) ++ rest)) ≡ new_lines text newline keys ++ bytes_of_rows (closed newline rest)
news_closed newline p text [] rest some same = refl
news_closed newline p text (c ∷ cs) rest some same = rw (← same c) (by_test (p c) (news_closed newline p text cs rest some same))
  where
    by_test : (b : Bool) → bytes_of_rows (closed newline (map (new_row newline) (filter p cs) ++ rest)) ≡ new_lines text newline cs ++ bytes_of_rows (closed newline rest)
        → bytes_of_rows (closed newline (map (new_row newline) (cond b (c ∷ filter p cs) (filter p cs)) ++ rest)) ≡ (cond b (pair_of c ++ newline) [] ++ new_lines text newline cs) ++ bytes_of_rows (closed newline rest)
    by_test false later = later
    by_test true later =
        closed_first newline (new_row newline c) (map (new_row newline) (filter p cs) ++ rest)
        ∙ ap (λ xs. xs ++ bytes_of_rows (closed newline (map (new_row newline) (filter p cs) ++ rest))) (own_end newline (pair_of c) (is_some_row (map (new_row newline) (filter p cs) ++ rest)) some)
        ∙ ap (λ xs. (pair_of c ++ newline) ++ xs) later
        ∙ sym (append_assoc (pair_of c ++ newline) (new_lines text newline cs) (bytes_of_rows (closed newline rest)))

some_news : (newline : List ℕ) (p : Change → Bool) (keys : List Change) (rest : List Row) → is_some_row (map (new_row newline) (filter p keys) ++ rest) ≡ list_any p keys || is_some_row rest
some_news newline p [] rest = refl
some_news newline p (c ∷ cs) rest = by_test (p c) (some_news newline p cs rest)
  where
    by_test : (b : Bool) → is_some_row (map (new_row newline) (filter p cs) ++ rest) ≡ list_any p cs || is_some_row rest
        → is_some_row (map (new_row newline) (cond b (c ∷ filter p cs) (filter p cs)) ++ rest) ≡ (b || list_any p cs) || is_some_row rest
    by_test true later = refl
    by_test false later = later

-- the keys of one section are all that its rows look at
find_in : (p : Change → Bool) (section : ℕ) (cs : List Change) → ((c : Change) → p c ≡ true → c.section ≡ section) → find p (filter (is_in section) cs) ≡ find p cs
find_in p section [] only = refl
find_in p section (c ∷ cs) only = by_test (p c) (is_in section c) refl refl (find_in p section cs only)
  where
    by_test : (a b : Bool) → p c ≡ a → is_in section c ≡ b → find p (filter (is_in section) cs) ≡ find p cs → find p (cond b (c ∷ filter (is_in section) cs) (filter (is_in section) cs)) ≡ cond a (Some c) (find p cs)
    by_test a true e i later = rw e (ap (cond a (Some c)) later)
    by_test false false e i later = later
    by_test true false e i later =
        let own : c.section ≡ section = only c e in
        let here : (c.section == section) ≡ true = grind (arith, nat_tests) in
        cc

filter_in : (p q : Change → Bool) (section : ℕ) (cs : List Change) → ((c : Change) → p c ≡ is_in section c && q c) → filter p cs ≡ filter q (filter (is_in section) cs)
filter_in p q section [] same = refl
filter_in p q section (c ∷ cs) same = rw (same c) (by_test (is_in section c) (q c) refl (filter_in p q section cs same))
  where
    by_test : (a b : Bool) → q c ≡ b → filter p cs ≡ filter q (filter (is_in section) cs) → cond (a && b) (c ∷ filter p cs) (filter p cs) ≡ filter q (cond a (c ∷ filter (is_in section) cs) (filter (is_in section) cs))
    by_test true true e later = rw e (ap (λ xs. c ∷ xs) later)
    by_test true false e later = rw e later
    by_test false b e later = later

changed_in : (cs : List Change) (row : Row) → changed (filter (is_in row.section) cs) row ≡ changed cs row
changed_in cs row = ap (λ o. option_map_or (λ change. record row { body = pair_of change }) o row) (find_in (λ change. has_key change.section change.key row) row.section cs only)
  where
    only : (c : Change) → has_key c.section c.key row ≡ true → c.section ≡ row.section
    only c e = sym (sections_equal row.section c.section (and_right (is_kind row.kind Pair) (row.section == c.section) (and_left _ _ e)))

changed_ending : (cs : List Change) (row : Row) → (changed cs row).ending ≡ row.ending
changed_ending cs row = by_change (change_of cs row)
  where
    by_change : (o : Option Change) → (option_map_or (λ change. record row { body = pair_of change }) o row).ending ≡ row.ending
    by_change None = refl
    by_change (Some c) = refl

header_changed : (cs : List Change) (newline : List ℕ) (section : ℕ) (name : List ℕ) → changed cs (header_row newline section name) ≡ header_row newline section name
header_changed [] newline section name = refl
header_changed (c ∷ cs) newline section name = header_changed cs newline section name

-- no row of a section before those that begin
none_before : (text : List ℕ) (section before : ℕ) (lines : List Line) → section < before → AreLaid before lines → list_any (is_entry section) (map (row_of text) lines) ≡ false
unfolding AreLaid
none_before text section before [] less laid = refl
none_before text section before (line ∷ lines) less laid =
    let up : line.section ≡ before + header_count line.kind = laid.0 in
    let other : line.section ≢ section = λ e. omega arith in
    let no : (line.section == section) ≡ false = ne_eqb line.section section other in
    rw no (by_kind (not (is_kind line.kind Other)) (none_before text section line.section lines (omega arith) laid.1))
  where
    by_kind : (b : Bool) → list_any (is_entry section) (map (row_of text) lines) ≡ false → (b && false) || list_any (is_entry section) (map (row_of text) lines) ≡ false
    by_kind true e = e
    by_kind false e = e

-- a later row of the section is a pair before the next header
later_entry : (text : List ℕ) (before : ℕ) (lines : List Line) → AreLaid before lines → list_any (is_entry before) (map (row_of text) lines) ≡ pair_follows lines
unfolding AreLaid
later_entry text before [] laid = refl
later_entry text before (line ∷ lines) laid =
    by_kind line.kind laid.0 (λ e. ap (λ n. list_any (is_entry n) (map (row_of text) lines)) (sym e) ∙ later_entry text line.section lines laid.1)
    (λ less. none_before text before line.section lines less laid.1)
  where
    by_kind : (kind : Kind) → line.section ≡ before + header_count kind → (line.section ≡ before → list_any (is_entry before) (map (row_of text) lines) ≡ pair_follows lines)
        → (before < line.section → list_any (is_entry before) (map (row_of text) lines) ≡ false)
        → (not (is_kind kind Other) && (line.section == before)) || list_any (is_entry before) (map (row_of text) lines) ≡ cond (is_kind kind Other) (pair_follows lines) (is_kind kind Pair)
    by_kind Other up same next = same (omega arith)
    by_kind Pair up same next =
        let here : (line.section == before) ≡ true = grind (arith, nat_tests) in
        rw here refl
    by_kind Header up same next =
        let other : line.section ≢ before = λ e. omega arith in
        let no : (line.section == before) ≡ false = ne_eqb line.section before other in
        rw no (next (omega arith))

-- what the appended rows are to those of the text
pub record IsBehind (text : List ℕ) (rows : List Row) (cs : List Change) (table : List (List Change)) (newline : List ℕ) (count : ℕ) (appended : List Row) : Type 0 where
  pub some : (length newline == 0) ≡ false
  pub by_section : AreBySection table cs
  pub keys : (section : ℕ) (key : List ℕ) → not (list_any (has_key section key) rows) ≡ is_wanting text (record { section = section; key = key; value = [] })
  pub high : (section : ℕ) → section ≤ count → list_any (is_entry section) appended ≡ false

new_in : (text : List ℕ) (rows : List Row) (cs : List Change) (table : List (List Change)) (newline : List ℕ) (count : ℕ) (appended : List Row) (section : ℕ)
    → IsBehind text rows cs table newline count appended → filter (is_new rows section) cs ≡ filter (is_wanting text) (get_or table section [])
new_in text rows cs table newline count appended section h =
    filter_in (is_new rows section) (is_wanting text) section cs (λ c. ap (λ b. (c.section == section) && b) (h.keys c.section c.key))
    ∙ ap (filter (is_wanting text)) (sym (h.by_section section))

no_news : (text newline : List ℕ) (keys : List Change) → list_any (is_wanting text) keys ≡ false → new_lines text newline keys ≡ []
no_news text newline [] none = refl
no_news text newline (c ∷ cs) none = by_test (is_wanting text c) none (no_news text newline cs)
  where
    by_test : (b : Bool) → b || list_any (is_wanting text) cs ≡ false → (list_any (is_wanting text) cs ≡ false → new_lines text newline cs ≡ []) → cond b (pair_of c ++ newline) [] ++ new_lines text newline cs ≡ []
    by_test true h later = cc
    by_test false h later = later h

some_rewritten : (rows : List Row) (cs : List Change) (newline : List ℕ) (later : List Row) → is_some_row (rewritten rows cs newline later) ≡ is_some_row later
some_rewritten rows cs newline [] = refl
some_rewritten rows cs newline (row ∷ later) = refl

some_lines : (text : List ℕ) (lines : List Line) (appended : List Row) → is_some_row (map (row_of text) lines ++ appended) ≡ not (length lines == 0) || is_some_row appended
some_lines text [] appended = refl
some_lines text (line ∷ lines) appended =
    let some : (length (line ∷ lines) == 0) ≡ false = ne_eqb (length (line ∷ lines)) 0 (λ e. omega arith) in
    rw some refl

-- rows behind a row: new ones, and what the later ones become
behind_is : (text : List ℕ) (rows : List Row) (cs : List Change) (table : List (List Change)) (newline : List ℕ) (count : ℕ) (appended : List Row) (section : ℕ) (ends : Bool) (rest : List Row)
    → IsBehind text rows cs table newline count appended
    → (is_some_row (cond ends (new_rows rows cs newline section) [] ++ rest) ≡ (ends && list_any (is_wanting text) (get_or table section [])) || is_some_row rest)
    × (bytes_of_rows (closed newline (cond ends (new_rows rows cs newline section) [] ++ rest))
    ≡ cond (ends && list_any (is_wanting text) (get_or table section [])) (new_lines text newline (get_or table section [])) [] ++ bytes_of_rows (closed newline rest))
behind_is text rows cs table newline count appended section false rest h = (refl, refl)
behind_is text rows cs table newline count appended section true rest h =
    let mine = get_or table section [] in
    let same : new_rows rows cs newline section ≡ map (new_row newline) (filter (is_wanting text) mine) = ap (map (new_row newline)) (new_in text rows cs table newline count appended section h) in (
      ap (λ ns. is_some_row (ns ++ rest)) same ∙ some_news newline (is_wanting text) mine rest,
      ap (λ ns. bytes_of_rows (closed newline (ns ++ rest))) same ∙ news_closed newline (is_wanting text) text mine rest h.some (λ c. refl)
          ∙ ap (λ xs. xs ++ bytes_of_rows (closed newline rest)) (by_any (list_any (is_wanting text) mine) refl),
    )
  where
    by_any : (b : Bool) → list_any (is_wanting text) (get_or table section []) ≡ b → new_lines text newline (get_or table section []) ≡ cond b (new_lines text newline (get_or table section [])) []
    by_any true e = refl
    by_any false e = no_news text newline (get_or table section []) e

or_assoc : (a b c : Bool) → a || (b || c) ≡ (a || b) || c
or_assoc true b c = refl
or_assoc false b c = refl

-- a line's piece, and what follows
line_piece : (text : List ℕ) (rows : List Row) (cs : List Change) (table : List (List Change)) (newline : List ℕ) (count : ℕ) (appended : List Row) (extended : Bool) (line : Line) (later : List Line)
    → IsBehind text rows cs table newline count appended → line.section ≤ count → AreLaid line.section later → is_some_row appended ≡ extended
    → bytes_of_rows (closed newline (rewritten rows cs newline (row_of text line ∷ (map (row_of text) later ++ appended))))
    ≡ (whole_line newline (changed (get_or table line.section []) (row_of text line)).body (row_of text line).ending
    ((adds_keys text (get_or table line.section []) line later || not (length later == 0)) || extended)
    ++ cond (adds_keys text (get_or table line.section []) line later) (new_lines text newline (get_or table line.section [])) [])
    ++ bytes_of_rows (closed newline (rewritten rows cs newline (map (row_of text) later ++ appended)))
line_piece text rows cs table newline count appended extended line later h low laid own =
    let row = row_of text line in
    let all = map (row_of text) later ++ appended in
    let rest = rewritten rows cs newline (map (row_of text) later ++ appended) in
    let ends : is_last (row_of text line) (map (row_of text) later ++ appended) ≡ ends_entries line later = last_is in
    let behind = behind_is text rows cs table newline count appended line.section (ends_entries line later) rest h in
    let adds = adds_keys text (get_or table line.section []) line later in
    let body : (changed cs (row_of text line)).body ≡ (changed (get_or table line.section []) (row_of text line)).body =
    ap (λ (r : Row). r.body) (sym (ap (λ keys. changed keys (row_of text line)) (h.by_section line.section) ∙ changed_in cs (row_of text line))) in
    let tail : is_some_row rest ≡ not (length later == 0) || extended = some_rewritten rows cs newline all ∙ some_lines text later appended ∙ ap (λ b. not (length later == 0) || b) own in
    let more : is_some_row (cond (ends_entries line later) (new_rows rows cs newline line.section) [] ++ rest) ≡ (adds || not (length later == 0)) || extended =
    behind.0 ∙ ap (λ b. adds || b) tail ∙ or_assoc adds (not (length later == 0)) extended in
    ap (λ b. bytes_of_rows (closed newline (changed cs row ∷ (cond b (new_rows rows cs newline line.section) [] ++ rest)))) ends
    ∙ closed_first newline (changed cs row) (cond (ends_entries line later) (new_rows rows cs newline line.section) [] ++ rest)
    ∙ ap (λ b. whole_line newline (changed cs row).body (changed cs row).ending b ++ bytes_of_rows (closed newline (cond (ends_entries line later) (new_rows rows cs newline line.section) [] ++ rest))) more
    ∙ ap (λ xs. whole_line newline (changed cs row).body (changed cs row).ending ((adds || not (length later == 0)) || extended) ++ xs) behind.1
    ∙ sym (append_assoc (whole_line newline (changed cs row).body (changed cs row).ending ((adds || not (length later == 0)) || extended)) (cond adds (new_lines text newline (get_or table line.section [])) []) (bytes_of_rows (closed newline rest)))
    ∙ ap (λ bs. (whole_line newline bs (changed cs row).ending ((adds || not (length later == 0)) || extended) ++ cond adds (new_lines text newline (get_or table line.section [])) []) ++ bytes_of_rows (closed newline rest)) body
    ∙ ap (λ es. (whole_line newline (changed (get_or table line.section []) row).body es ((adds || not (length later == 0)) || extended) ++ cond adds (new_lines text newline (get_or table line.section [])) []) ++ bytes_of_rows (closed newline rest)) (changed_ending cs row)
  where
    none_or : (a b : Bool) → b ≡ false → a || b ≡ a
    none_or true b e = refl
    none_or false b e = e

    and_one : (a b c : Bool) → b ≡ true → (a && b) && c ≡ a && c
    and_one true b c e = ap (λ x. x && c) e
    and_one false b c e = refl

    last_is : is_last (row_of text line) (map (row_of text) later ++ appended) ≡ ends_entries line later
    last_is =
        let here : (line.section == line.section) ≡ true = grind (arith, nat_tests) in
        ap (λ b. (not (is_kind line.kind Other) && (line.section == line.section)) && not b)
        (list_any-append (is_entry line.section) (map (row_of text) later) appended
        ∙ none_or (list_any (is_entry line.section) (map (row_of text) later)) (list_any (is_entry line.section) appended) (h.high line.section low)
        ∙ later_entry text line.section later laid)
        ∙ and_one (not (is_kind line.kind Other)) (line.section == line.section) (not (pair_follows later)) here

-- the pieces of lines, and what follows them
pub lines_pieces : (text : List ℕ) (rows : List Row) (cs : List Change) (table : List (List Change)) (newline : List ℕ) (count : ℕ) (appended : List Row) (before : ℕ) (lines : List Line)
    → IsBehind text rows cs table newline count appended → is_some_row appended ≡ is_extended text → AreLaid before lines → section_count (map (row_of text) lines) ≤ count
    → bytes_of_rows (closed newline (rewritten rows cs newline (map (row_of text) lines ++ appended)))
    ≡ pieces_of text newline table lines ++ bytes_of_rows (closed newline (rewritten rows cs newline appended))
unfolding AreLaid
lines_pieces text rows cs table newline count appended before [] h own laid small = refl
lines_pieces text rows cs table newline count appended before (line ∷ []) h own laid small =
    line_piece text rows cs table newline count appended (is_extended text) line [] h small laid.1 own
    ∙ ap (λ xs. xs ++ bytes_of_rows (closed newline (rewritten rows cs newline appended))) (sym (append-nil (piece_of text newline (get_or table line.section []) line [])))
lines_pieces text rows cs table newline count appended before (line ∷ next ∷ lines) h own laid small =
    let least : line.section ≤ section_count (map (row_of text) (line ∷ next ∷ lines)) = count_least text before line (next ∷ lines) laid in
    line_piece text rows cs table newline count appended (is_extended text) line (next ∷ lines) h (omega arith) laid.1 own
    ∙ ap (λ xs. piece_of text newline (get_or table line.section []) line (next ∷ lines) ++ xs) (lines_pieces text rows cs table newline count appended line.section (next ∷ lines) h own laid.1 small)
    ∙ sym (append_assoc (piece_of text newline (get_or table line.section []) line (next ∷ lines)) (pieces_of text newline table (next ∷ lines)) (bytes_of_rows (closed newline (rewritten rows cs newline appended))))

-- a section that is appended, and what follows
header_piece : (text : List ℕ) (rows : List Row) (cs : List Change) (table : List (List Change)) (newline : List ℕ) (count : ℕ) (appended : List Row) (section : ℕ) (name : List ℕ) (rest : List Row)
    → IsBehind text rows cs table newline count appended → list_any (is_entry section) rest ≡ false
    → bytes_of_rows (closed newline (rewritten rows cs newline (header_row newline section name ∷ rest)))
    ≡ section_of text newline (get_or table section []) name ++ bytes_of_rows (closed newline (rewritten rows cs newline rest))
header_piece text rows cs table newline count appended section name rest h none =
    let header = header_row newline section name in
    let keys = get_or table section [] in
    let later = rewritten rows cs newline rest in
    let here : (section == section) ≡ true = grind (arith, nat_tests) in
    let ends : is_last header rest ≡ true = ap (λ b. (section == section) && not b) none ∙ ap (λ b. b && true) here in
    let news : new_rows rows cs newline section ≡ map (new_row newline) (filter (is_wanting text) keys) = ap (map (new_row newline)) (new_in text rows cs table newline count appended section h) in
    ap (λ b. bytes_of_rows (closed newline (changed cs header ∷ (cond b (new_rows rows cs newline section) [] ++ later)))) ends
    ∙ ap (λ r. bytes_of_rows (closed newline (r ∷ (new_rows rows cs newline section ++ later)))) (header_changed cs newline section name)
    ∙ ap (λ ns. bytes_of_rows (closed newline (header ∷ (ns ++ later)))) news
    ∙ closed_first newline header (map (new_row newline) (filter (is_wanting text) keys) ++ later)
    ∙ ap (λ xs. xs ++ bytes_of_rows (closed newline (map (new_row newline) (filter (is_wanting text) keys) ++ later)))
    (own_end newline header.body (is_some_row (map (new_row newline) (filter (is_wanting text) keys) ++ later)) h.some)
    ∙ ap (λ xs. (header.body ++ newline) ++ xs) (news_closed newline (is_wanting text) text keys later h.some (λ c. refl))
    ∙ sym (append_assoc (header.body ++ newline) (new_lines text newline keys) (bytes_of_rows (closed newline later)))

-- the sections that a text has not
abbrev pub appended_by : Bool → Bool → List ℕ → ℕ → List Row
appended_by file device newline count =
    cond file [] (header_row newline (count + 1) (codes "FileInfo") ∷ [])
    ++ cond device [] (header_row newline (cond file count (count + 1) + 1) (codes "DeviceComissioning") ∷ [])

newline_put : (rows : List Row) (section : ℕ) (name : List ℕ) → newline_of (rows ++ header_row (newline_of rows) section name ∷ []) ≡ newline_of rows
newline_put [] section name = refl
newline_put (row ∷ rows) section name = refl

pub rows_appended : (rows : List Row)
    → with_sections rows ≡ rows ++ appended_by (list_any (has_name (codes "FileInfo")) rows) (list_any (has_name (codes "DeviceComissioning")) rows) (newline_of rows) (section_count rows)
rows_appended rows = by_file (list_any (has_name (codes "FileInfo")) rows)
  where
    there : (b : Bool) → cond b rows (rows ++ header_row (newline_of rows) (section_count rows + 1) (codes "DeviceComissioning") ∷ [])
        ≡ rows ++ cond b [] (header_row (newline_of rows) (section_count rows + 1) (codes "DeviceComissioning") ∷ [])
    there true = sym (append-nil rows)
    there false = refl

    none_or : (a b : Bool) → b ≡ false → a || (b || false) ≡ a
    none_or true b e = refl
    none_or false b e = ap (λ x. x || false) e

    both : (b : Bool) → cond b (rows ++ header_row (newline_of rows) (section_count rows + 1) (codes "FileInfo") ∷ [])
        ((rows ++ header_row (newline_of rows) (section_count rows + 1) (codes "FileInfo") ∷ []) ++ header_row (newline_of rows) (section_count rows + 1 + 1) (codes "DeviceComissioning") ∷ [])
        ≡ rows ++ (header_row (newline_of rows) (section_count rows + 1) (codes "FileInfo") ∷ cond b [] (header_row (newline_of rows) (section_count rows + 1 + 1) (codes "DeviceComissioning") ∷ []))
    both true = refl
    both false = append_assoc rows (header_row (newline_of rows) (section_count rows + 1) (codes "FileInfo") ∷ []) (header_row (newline_of rows) (section_count rows + 1 + 1) (codes "DeviceComissioning") ∷ [])

    by_file : (b : Bool)
        → with_section (codes "DeviceComissioning") (cond b rows (rows ++ header_row (newline_of rows) (section_count rows + 1) (codes "FileInfo") ∷ []))
        ≡ rows ++ (cond b [] (header_row (newline_of rows) (section_count rows + 1) (codes "FileInfo") ∷ [])
        ++ cond (list_any (has_name (codes "DeviceComissioning")) rows) [] (header_row (newline_of rows) (cond b (section_count rows) (section_count rows + 1) + 1) (codes "DeviceComissioning") ∷ []))
    by_file true = there (list_any (has_name (codes "DeviceComissioning")) rows)
    by_file false =
        let header = header_row (newline_of rows) (section_count rows + 1) (codes "FileInfo") in
        let all = rows ++ header_row (newline_of rows) (section_count rows + 1) (codes "FileInfo") ∷ [] in
        let test : list_any (has_name (codes "DeviceComissioning")) all ≡ list_any (has_name (codes "DeviceComissioning")) rows =
        list_any-append (has_name (codes "DeviceComissioning")) rows (header ∷ [])
        ∙ none_or (list_any (has_name (codes "DeviceComissioning")) rows) (has_name (codes "DeviceComissioning") header) (no_device (newline_of rows) (section_count rows + 1)) in
        ap (λ b. cond b all (all ++ header_row (newline_of all) (section_count all + 1) (codes "DeviceComissioning") ∷ [])) test
        ∙ ap (λ n. cond (list_any (has_name (codes "DeviceComissioning")) rows) all (all ++ header_row n (section_count all + 1) (codes "DeviceComissioning") ∷ [])) (newline_put rows (section_count rows + 1) (codes "FileInfo"))
        ∙ ap (λ n. cond (list_any (has_name (codes "DeviceComissioning")) rows) all (all ++ header_row (newline_of rows) (n + 1) (codes "DeviceComissioning") ∷ [])) (count_put rows header)
        ∙ both (list_any (has_name (codes "DeviceComissioning")) rows)

some_appended : (file device : Bool) (newline : List ℕ) (count : ℕ) → is_some_row (appended_by file device newline count) ≡ not (file && device)
some_appended true true newline count = refl
some_appended true false newline count = refl
some_appended false device newline count = refl

high_appended : (file device : Bool) (newline : List ℕ) (count section : ℕ) → section ≤ count → list_any (is_entry section) (appended_by file device newline count) ≡ false
high_appended file device newline count section le =
    let one : (count + 1 == section) ≡ false = ne_eqb (count + 1) section (λ e. omega arith) in
    let two : (count + 1 + 1 == section) ≡ false = ne_eqb (count + 1 + 1) section (λ e. omega arith) in
    by_both file device one two
  where
    by_both : (f d : Bool) → (count + 1 == section) ≡ false → (count + 1 + 1 == section) ≡ false → list_any (is_entry section) (appended_by f d newline count) ≡ false
    by_both true true one two = refl
    by_both true false one two = rw one refl
    by_both false true one two = rw one refl
    by_both false false one two = rw (one, two) refl

keys_appended : (file device : Bool) (newline : List ℕ) (count section : ℕ) (key : List ℕ) → list_any (has_key section key) (appended_by file device newline count) ≡ false
keys_appended true true newline count section key = refl
keys_appended true false newline count section key = refl
keys_appended false true newline count section key = refl
keys_appended false false newline count section key = refl

key_found : (text : List ℕ) (section : ℕ) (key : List ℕ) (n : ℕ) (lines : List Line)
    → is_some (option_map (λ found. found.0) (first_from n (is_keyed text section key) lines)) ≡ list_any (has_key section key) (map (row_of text) lines)
key_found text section key n [] = refl
key_found text section key n (line ∷ lines) = by_test (has_key section key (row_of text line)) (key_found text section key (n + 1) lines)
  where
    by_test : (b : Bool) → is_some (option_map (λ found. found.0) (first_from (n + 1) (is_keyed text section key) lines)) ≡ list_any (has_key section key) (map (row_of text) lines)
        → is_some (option_map (λ (found : ℕ × Line). found.0) (cond b (Some (n, line)) (first_from (n + 1) (is_keyed text section key) lines))) ≡ (b || list_any (has_key section key) (map (row_of text) lines))
    by_test true later = refl
    by_test false later = later

newline_some : (rows : List Row) → (length (newline_of rows) == 0) ≡ false
newline_some [] = refl
newline_some (row ∷ rows) = by_test (length row.ending == 0) refl
  where
    by_test : (b : Bool) → (length row.ending == 0) ≡ b → (length (cond b (10 ∷ []) row.ending) == 0) ≡ false
    by_test true e = refl
    by_test false e = e

newline_set : (cs : List Change) (rows : List Row) → newline_of (with_keys cs rows) ≡ newline_of rows
newline_set cs [] = refl
newline_set cs (row ∷ rows) = ap (λ e. cond (length e == 0) (10 ∷ []) e) (changed_ending cs row)

newline_appended : (rows : List Row) (file device : Bool) (count : ℕ) → newline_of (rows ++ appended_by file device (newline_of rows) count) ≡ newline_of rows
newline_appended (row ∷ rows) file device count = refl
newline_appended [] true true count = refl
newline_appended [] true false count = refl
newline_appended [] false device count = refl

-- the sections that are appended
appended_pieces : (text : List ℕ) (cs : List Change) (table : List (List Change)) (rows : List Row) (newline : List ℕ) (count : ℕ) (file device : Bool)
    → IsBehind text rows cs table newline count (appended_by file device newline count)
    → bytes_of_rows (closed newline (rewritten rows cs newline (appended_by file device newline count)))
    ≡ cond file [] (section_of text newline (get_or table (count + 1) []) (codes "FileInfo"))
    ++ cond device [] (section_of text newline (get_or table (cond file count (count + 1) + 1) []) (codes "DeviceComissioning"))
appended_pieces text cs table rows newline count true true h = refl
appended_pieces text cs table rows newline count true false h =
    header_piece text rows cs table newline count (appended_by true false newline count) (count + 1) (codes "DeviceComissioning") [] h refl
    ∙ append-nil (section_of text newline (get_or table (count + 1) []) (codes "DeviceComissioning"))
appended_pieces text cs table rows newline count false true h =
    header_piece text rows cs table newline count (appended_by false true newline count) (count + 1) (codes "FileInfo") [] h refl
appended_pieces text cs table rows newline count false false h =
    let other : (count + 1 + 1 == count + 1) ≡ false = ne_eqb (count + 1 + 1) (count + 1) (λ e. omega arith) in
    let none : list_any (is_entry (count + 1)) (header_row newline (count + 1 + 1) (codes "DeviceComissioning") ∷ []) ≡ false = ap (λ b. b || false) other in
    header_piece text rows cs table newline count (appended_by false false newline count) (count + 1) (codes "FileInfo") (header_row newline (count + 1 + 1) (codes "DeviceComissioning") ∷ []) h none
    ∙ ap (λ xs. section_of text newline (get_or table (count + 1) []) (codes "FileInfo") ++ xs)
    (header_piece text rows cs table newline count (appended_by false false newline count) (count + 1 + 1) (codes "DeviceComissioning") [] h refl
    ∙ append-nil (section_of text newline (get_or table (count + 1 + 1) []) (codes "DeviceComissioning")))

-- each stands at its number
numbers_by : (file device : Bool) (first second : ℕ → List ℕ) (count n m : ℕ) → (file ≡ false → count + 1 ≡ n) → (device ≡ false → cond file count (count + 1) + 1 ≡ m)
    → cond file [] (first (count + 1)) ++ cond device [] (second (cond file count (count + 1) + 1)) ≡ cond file [] (first n) ++ cond device [] (second m)
numbers_by true true first second count n m f d = refl
numbers_by true false first second count n m f d = ap second (d refl)
numbers_by false true first second count n m f d = ap (λ k. first k ++ []) (f refl)
numbers_by false false first second count n m f d = ap (λ k. first k ++ second (count + 1 + 1)) (f refl) ∙ ap (λ k. first n ++ second k) (d refl)

none_by : (o : Option ℕ) → is_some o ≡ false → o ≡ None
none_by None e = refl
none_by (Some n) e = cc

absent_is : (text name : List ℕ) → has_section text name ≡ false → sections.section_of text name ≡ None
absent_is text name e = none_by (sections.section_of text name) (has_section_is text name ∙ e)

file_is : (text : List ℕ) → has_section text (codes "FileInfo") ≡ false → section_count (rows_of text) + 1 ≡ file_number (rows_of text)
file_is text e = sym (file_put text (absent_is text (codes "FileInfo") e))

device_is : (text : List ℕ) → has_section text (codes "DeviceComissioning") ≡ false
    → cond (has_section text (codes "FileInfo")) (section_count (rows_of text)) (section_count (rows_of text) + 1) + 1 ≡ device_number (rows_of text)
device_is text e = by_file (sections.section_of text (codes "FileInfo")) refl
  where
    by_file : (f : Option ℕ) → sections.section_of text (codes "FileInfo") ≡ f
        → cond (has_section text (codes "FileInfo")) (section_count (rows_of text)) (section_count (rows_of text) + 1) + 1 ≡ device_number (rows_of text)
    by_file (Some m) s =
        ap (λ b. cond b (section_count (rows_of text)) (section_count (rows_of text) + 1) + 1) (sym (has_section_is text (codes "FileInfo")) ∙ ap is_some s)
        ∙ sym (device_first text m s (absent_is text (codes "DeviceComissioning") e))
    by_file None s =
        let two : section_count (rows_of text) + 1 + 1 ≡ device_number (rows_of text) = omega (arith, device_second text s (absent_is text (codes "DeviceComissioning") e)) in
        ap (λ b. cond b (section_count (rows_of text)) (section_count (rows_of text) + 1) + 1) (sym (has_section_is text (codes "FileInfo")) ∙ ap is_some s)
        ∙ two

-- the pieces together are the DCF
pub pieces_are_dcf : (text : List ℕ) (cs : List Change) (table : List (List Change)) → AreBySection table cs
    → text_with text (with_keys cs (with_sections (rows_of text)))
    ≡ take (mark_len text) text ++ (pieces_of text (newline_of (rows_of text)) table (lines_of text)
    ++ (cond (has_section text (codes "FileInfo")) [] (section_of text (newline_of (rows_of text)) (get_or table (file_number (rows_of text)) []) (codes "FileInfo"))
    ++ cond (has_section text (codes "DeviceComissioning")) [] (section_of text (newline_of (rows_of text)) (get_or table (device_number (rows_of text)) []) (codes "DeviceComissioning"))))
pieces_are_dcf text cs table are =
    let rows = rows_of text in
    let newline = newline_of (rows_of text) in
    let count = section_count (rows_of text) in
    let file = has_section text (codes "FileInfo") in
    let device = has_section text (codes "DeviceComissioning") in
    let all = with_sections (rows_of text) in
    let appended = appended_by file device newline count in
    let whole : with_sections (rows_of text) ≡ rows ++ appended = rows_appended rows in
    let own : newline_of (with_sections (rows_of text)) ≡ newline = ap newline_of whole ∙ newline_appended rows file device count in
    let line : newline_of (with_keys cs (with_sections (rows_of text))) ≡ newline = newline_set cs all ∙ own in
    let keys : (section : ℕ) (key : List ℕ) → not (list_any (has_key section key) (with_sections (rows_of text))) ≡ is_wanting text (record { section = section; key = key; value = [] }) = λ section key.
    ap not (ap (list_any (has_key section key)) whole ∙ list_any-append (has_key section key) rows appended
    ∙ ap (λ b. list_any (has_key section key) rows || b) (keys_appended file device newline count section key)
    ∙ or-false (list_any (has_key section key) rows) ∙ sym (key_found text section key 1 (lines_of text))) in
    let behind : IsBehind text all cs table newline count appended = record { some = newline_some rows; by_section = are; keys = keys; high = λ section le. high_appended file device newline count section le } in
    ap (λ n. take (mark_len text) text ++ bytes_of_rows (closed n (with_keys cs all))) line
    ∙ ap (λ n. take (mark_len text) text ++ bytes_of_rows (closed newline (rewritten all cs n all))) own
    ∙ ap (λ rs. take (mark_len text) text ++ bytes_of_rows (closed newline (rewritten all cs newline rs))) whole
    ∙ ap (λ xs. take (mark_len text) text ++ xs)
    (lines_pieces text all cs table newline count appended 0 (lines_of text) behind (some_appended file device newline count) (lines_laid text) (omega arith)
    ∙ ap (λ xs. pieces_of text newline table (lines_of text) ++ xs) (appended_pieces text cs table all newline count file device behind
    ∙ numbers_by file device (λ n. section_of text newline (get_or table n []) (codes "FileInfo")) (λ n. section_of text newline (get_or table n []) (codes "DeviceComissioning")) count (file_number (rows_of text)) (device_number (rows_of text))
    (file_is text) (device_is text)))

-- what is put one after the other is the DCF
pub all_put : (text : List ℕ) (cs : List Change) (table seen second third : List (List Change)) (keys others : List Change) (file device : ℕ) (mark start lines first last : List ℕ)
    → AreBySection table cs → start ≡ mark → mark ≡ take (mark_len text) text → lines ≡ start ++ pieces_of text (newline_of (rows_of text)) seen (lines_of text) → seen ≡ table
    → first ≡ lines ++ cond (has_section text (codes "FileInfo")) [] (section_of text (newline_of (rows_of text)) keys (codes "FileInfo"))
    → keys ≡ get_or second file [] → second ≡ table → file ≡ file_number (rows_of text)
    → last ≡ first ++ cond (has_section text (codes "DeviceComissioning")) [] (section_of text (newline_of (rows_of text)) others (codes "DeviceComissioning"))
    → others ≡ get_or third device [] → third ≡ table → device ≡ device_number (rows_of text)
    → last ≡ text_with text (with_keys cs (with_sections (rows_of text)))
all_put text cs table seen second third keys others file device mark start lines first last are a b c d e f g h i j k l =
    let newline = newline_of (rows_of text) in
    let one = λ (ks : List Change). cond (has_section text (codes "FileInfo")) [] (section_of text (newline_of (rows_of text)) ks (codes "FileInfo")) in
    let two = λ (ks : List Change). cond (has_section text (codes "DeviceComissioning")) [] (section_of text (newline_of (rows_of text)) ks (codes "DeviceComissioning")) in
    let own : keys ≡ get_or table (file_number (rows_of text)) [] = f ∙ ap (λ t. get_or t file []) g ∙ ap (λ n. get_or table n []) h in
    let other : others ≡ get_or table (device_number (rows_of text)) [] = j ∙ ap (λ t. get_or t device []) k ∙ ap (λ n. get_or table n []) l in
    let text_part : lines ≡ take (mark_len text) text ++ pieces_of text (newline_of (rows_of text)) table (lines_of text) =
    c ∙ ap (λ xs. xs ++ pieces_of text newline seen (lines_of text)) (a ∙ b) ∙ ap (λ t. take (mark_len text) text ++ pieces_of text newline t (lines_of text)) d in
    i ∙ ap (λ xs. xs ++ two others) (e ∙ ap (λ xs. xs ++ one keys) text_part ∙ ap (λ ks. (take (mark_len text) text ++ pieces_of text newline table (lines_of text)) ++ one ks) own)
    ∙ ap (λ ks. ((take (mark_len text) text ++ pieces_of text newline table (lines_of text)) ++ one (get_or table (file_number (rows_of text)) [])) ++ two ks) other
    ∙ append_assoc (take (mark_len text) text ++ pieces_of text newline table (lines_of text)) (one (get_or table (file_number (rows_of text)) [])) (two (get_or table (device_number (rows_of text)) []))
    ∙ append_assoc (take (mark_len text) text) (pieces_of text newline table (lines_of text)) (one (get_or table (file_number (rows_of text)) []) ++ two (get_or table (device_number (rows_of text)) []))
    ∙ sym (pieces_are_dcf text cs table are)
