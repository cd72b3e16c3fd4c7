-- Rows with keys set and ends added can be written.
use Rattle.std.proofs.Common.{◌≡◌, ◌⊎◌, inl, inr, ◌<◌, ℕ, ◌-◌, Bool, true, false, cond, ◌==◌, List, [], ◌∷◌, ◌++◌, map, length, filter, find, Some, refl, sym, ap, ◌∙◌, arith, subst}
use Rattle.std.specs.Prelude.{slice_index}
use Rattle.std.specs.List.{list_any}
use Rattle.cop_eds.specs.declared.line.Kind.TheVariants.{Pair}
use Rattle.cop_eds.specs.Lines.{kind_of}
use Rattle.cop_eds.specs.Rows.{Row, has_key}
use Rattle.cop_eds.specs.Edits.{Change, pair_of, changed, is_last, is_new, new_row, new_rows, rewritten, ended, closed}
use Rattle.cop_eds.proofs.EditLemmas.{AreClean, changed_by, has_pair, behind, and_left, sections_equal}
use Rattle.cop_eds.proofs.RawLemmas.{IsRow, IsEnding, AreWritten, ends_in_return}

-- a row with an end, or without one
abbrev pub IsSpelled : Row → Type 0
IsSpelled row = IsEnding row.body row.ending ⊎ ((row.ending ≡ []) × (0 < length row.body))

unfoldable pub AreSpelled : ℕ → List Row → Type 0
AreSpelled before [] = Unit {0}
AreSpelled before (row ∷ rows) = IsRow before row × IsSpelled row × AreSpelled row.section rows

pub written_spelled : (before : ℕ) (rows : List Row) → AreWritten before rows → AreSpelled before rows
unfolding AreWritten AreSpelled
written_spelled before [] h = tt
written_spelled before (row ∷ []) h = (h.0, h.1, tt)
written_spelled before (row ∷ next ∷ rows) h = (h.0, inl h.1, written_spelled row.section (next ∷ rows) h.2)

-- LF or CR LF
abbrev pub IsNewline : List ℕ → Type 0
IsNewline newline = (newline ≡ 10 ∷ []) ⊎ (newline ≡ 13 ∷ 10 ∷ [])

-- ends added where they are wanting
ended_spelled : (newline : List ℕ) (before : ℕ) (row : Row) → IsNewline newline → IsRow before row → IsSpelled row → IsRow before (ended newline row) × IsEnding (ended newline row).body (ended newline row).ending
ended_spelled newline before row line here spelled = elim spelled
    [ inl ends ↦ with_end ends | inr bare ↦ without bare.0 ]
  where
    P : Row → Type 0
    P r = IsRow before r × IsEnding r.body r.ending

    again : (ending : List ℕ) → IsRow before (record row { ending = ending })
    again ending = record { kind = here.kind; section = here.section; flat = here.flat }

    long : IsEnding row.body row.ending → (length row.ending == 0) ≡ false
    long (inl h) = rw h.0 refl
    long (inr h) = rw h refl

    with_end : IsEnding row.body row.ending → IsRow before (ended newline row) × IsEnding (ended newline row).body (ended newline row).ending
    with_end ends =
        let no : (length row.ending == 0) ≡ false = long ends in
        rw no (here, ends)

    by_return : (b : Bool) → ends_in_return row.body ≡ b → IsEnding row.body (cond b (13 ∷ 10 ∷ []) newline)
    by_return true is = inr refl
    by_return false is = elim line [ inl lf ↦ inl (lf, is) | inr crlf ↦ inr crlf ]

    without : row.ending ≡ [] → IsRow before (ended newline row) × IsEnding (ended newline row).body (ended newline row).ending
    without none =
        let yes : (length row.ending == 0) ≡ true = ap (λ e. length e == 0) none in
        rw yes (again _, by_return (ends_in_return row.body) refl)

ended_section : (newline : List ℕ) (row : Row) → (ended newline row).section ≡ row.section
ended_section newline row = by_test (length row.ending == 0)
  where
    by_test : (b : Bool) → (cond b (record row { ending = cond (slice_index row.body (length row.body - 1) == 13) (13 ∷ 10 ∷ []) newline }) row).section ≡ row.section
    by_test true = refl
    by_test false = refl

written_cons : (before : ℕ) (r : Row) (rs : List Row) → IsRow before r → IsEnding r.body r.ending → AreWritten r.section rs → AreWritten before (r ∷ rs)
unfolding AreWritten
written_cons before r [] h e more = (h, inl e)
written_cons before r (s ∷ rs) h e more = (h, e, more)

alone_written : (before : ℕ) (r : Row) → IsRow before r → IsSpelled r → AreWritten before (r ∷ [])
unfolding AreWritten
alone_written before r h e = (h, e)

none_written : (before : ℕ) → AreWritten before []
unfolding AreWritten
none_written before = tt

-- rows whose ends are added where they are wanting can be written
pub closed_written : (newline : List ℕ) (before : ℕ) (rows : List Row) → IsNewline newline → AreSpelled before rows → AreWritten before (closed newline rows)
unfolding AreSpelled
closed_written newline before [] line h = none_written before
closed_written newline before (row ∷ []) line h = alone_written before row h.0 h.1
closed_written newline before (row ∷ next ∷ rows) line h =
    let one = ended_spelled newline before row line h.0 h.1 in
    let P : ℕ → Type 0 = λ n. AreWritten n (closed newline (next ∷ rows)) in
    written_cons before (ended newline row) (closed newline (next ∷ rows)) one.0 one.1
    (subst P (sym (ended_section newline row)) (closed_written newline row.section (next ∷ rows) line h.2))

-- the line of a change is a pair, and holds no end of a line
pub record IsLine (change : Change) : Type 0 where
  pub pair : kind_of (pair_of change) ≡ Pair
  pub flat : list_any (λ b. b == 10) (pair_of change) ≡ false
  pub last : ends_in_return (pair_of change) ≡ false
  pub some : 0 < length (pair_of change)

line_spelled : (newline : List ℕ) (change : Change) → IsNewline newline → IsLine change → IsSpelled (new_row newline change)
line_spelled newline change line h = elim line [ inl lf ↦ inl (inl (lf, h.last)) | inr crlf ↦ inl (inr crlf) ]

unfoldable pub AreLines : List Change → Type 0
AreLines [] = Unit {0}
AreLines (c ∷ cs) = IsLine c × AreLines cs

found_line : (p : Change → Bool) (cs : List Change) (c : Change) → AreLines cs → find p cs ≡ Some c → IsLine c
unfolding AreLines
found_line p [] c lines e = cc
found_line p (x ∷ xs) c lines e = by_test (p x) e (found_line p xs c lines.1)
  where
    by_test : (b : Bool) → cond b (Some x) (find p xs) ≡ Some c → (find p xs ≡ Some c → IsLine c) → IsLine c
    by_test true h later = let same : x ≡ c = cc in subst IsLine same lines.0
    by_test false h later = later h

changed_spelled : (before : ℕ) (cs : List Change) (row : Row) → AreClean cs → AreLines cs → IsRow before row → IsSpelled row
    → IsRow before (changed cs row) × IsSpelled (changed cs row) × ((changed cs row).section ≡ row.section)
changed_spelled before cs row clean lines here spelled =
    changed_by (λ r. IsRow before r × IsSpelled r × (r.section ≡ row.section)) cs row clean (λ e. (here, spelled, refl))
    (λ c e own at. written c (found_line (λ change. has_key change.section change.key row) cs c lines e) (has_pair c.section c.key row at))
  where
    end_of : (c : Change) → IsLine c → IsSpelled (record row { body = pair_of c })
    end_of c line = elim spelled
        [ inl ends ↦ elim ends [ inl lf ↦ inl (inl (lf.0, line.last)) | inr crlf ↦ inl (inr crlf) ] | inr bare ↦ inr (bare.0, line.some) ]

    written : (c : Change) → IsLine c → row.kind ≡ Pair → IsRow before (record row { body = pair_of c }) × IsSpelled (record row { body = pair_of c }) × ((record row { body = pair_of c }).section ≡ row.section)
    written c line kind = (record { kind = line.pair ∙ sym kind; section = here.section; flat = line.flat }, end_of c line, refl)

news_spelled : (rows : List Row) (newline : List ℕ) (before : ℕ) (cs : List Change) (rest : List Row) → IsNewline newline → AreLines cs → AreSpelled before rest
    → AreSpelled before (map (new_row newline) (filter (is_new rows before) cs) ++ rest)
unfolding AreLines AreSpelled
news_spelled rows newline before [] rest line lines h = h
news_spelled rows newline before (x ∷ xs) rest line lines h = by_test (is_new rows before x) refl (news_spelled rows newline before xs rest line lines.1 h)
  where
    by_test : (b : Bool) → is_new rows before x ≡ b → AreSpelled before (map (new_row newline) (filter (is_new rows before) xs) ++ rest)
        → AreSpelled before (map (new_row newline) (cond b (x ∷ filter (is_new rows before) xs) (filter (is_new rows before) xs)) ++ rest)
    by_test false is later = later
    by_test true is later =
        let home : x.section ≡ before = sections_equal x.section before (and_left _ _ is) in
        let P : ℕ → Type 0 = λ n. AreSpelled n (map (new_row newline) (filter (is_new rows before) xs) ++ rest) in
        (record { kind = lines.0.pair; section = omega arith; flat = lines.0.flat }, line_spelled newline x line lines.0, subst P (sym home) later)

-- rows with keys set are spelled
pub rewritten_spelled : (rows : List Row) (cs : List Change) (newline : List ℕ) (before : ℕ) (later : List Row) → IsNewline newline → AreClean cs → AreLines cs
    → AreSpelled before later → AreSpelled before (rewritten rows cs newline later)
unfolding AreSpelled
rewritten_spelled rows cs newline before [] line clean lines h = h
rewritten_spelled rows cs newline before (row ∷ later) line clean lines h =
    let own = changed_spelled before cs row clean lines h.0 h.1 in
    let more = rewritten_spelled rows cs newline row.section later line clean lines h.2 in
    let P : ℕ → Type 0 = λ n. AreSpelled n (behind rows cs newline row later ++ rewritten rows cs newline later) in
    (own.0, own.1, subst P (sym own.2) (by_last (is_last row later) more))
  where
    by_last : (b : Bool) → AreSpelled row.section (rewritten rows cs newline later) → AreSpelled row.section (cond b (new_rows rows cs newline row.section) [] ++ rewritten rows cs newline later)
    by_last true more = news_spelled rows newline row.section cs (rewritten rows cs newline later) line lines more
    by_last false more = more
