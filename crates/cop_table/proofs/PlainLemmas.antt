-- A text without a quote is its lines, cut at commas.
use Rattle.std.proofs.Common.{◌≡◌, ℕ, zero, suc, ◌≤◌, Bool, true, false, cond, ◌==◌, ◌||◌, List, [], ◌∷◌, ◌++◌, length, All, refl, sym, subst, ap, ◌∙◌, arith, true≢false, add-one, append_assoc, append-nil}
use Rattle.std.proofs.lemmas.Bool.Decides.{nat_tests}
use Rattle.std.proofs.lemmas.List.Elements.{All-head, All-tail}
use Rattle.csv.specs.Machine.{next_record, step, in_field, start_record, after_end, ends_at_end}
use Rattle.csv.specs.Reading.{records_from, records_next, default_config, strip_bom, is_bom}
use Rattle.csv.specs.declared.parser.State.{State}
use Rattle.csv.specs.declared.parser.State.TheVariants as st
use Rattle.csv.specs.declared.parser.Terminator.TheVariants as term
use Rattle.csv.specs.declared.parser.Action.TheVariants as act
use Rattle.cop_table.specs.Records.{records_of}
use Rattle.cop_table.specs.Plain.{is_comma, is_quote, is_line_end, with_first, pieces, cut_lines, plain_records}

-- what stands before it joins the first piece
abbrev glued : List ℕ → List (List ℕ) → List (List ℕ)
glued before [] = []
glued before (piece ∷ pieces) = (before ++ piece) ∷ pieces

-- the records of some lines, the first of which began with these fields and these bytes
abbrev begun : List (List ℕ) → List ℕ → List (List ℕ) → List (List (List ℕ))
begun fields field [] = []
begun fields field (line ∷ lines) = (fields ++ glued field (pieces is_comma line)) ∷ cut_lines lines

-- the records that a reader with room for n more gives from here
abbrev read_from : ℕ → State → List (List ℕ) → List ℕ → List ℕ → List (List (List ℕ))
read_from n s fields field text = records_next (records_from default_config n) (next_record default_config s fields field text)

-- the states at a field that is no quoted one
abbrev is_at_field : State → Bool
is_at_field st.StartRecord = false
is_at_field st.StartField = true
is_at_field st.InField = true
is_at_field st.InQuoted = false
is_at_field st.AfterQuote = false
is_at_field st.InEscape = false
is_at_field st.InComment = false
is_at_field st.AfterCr = false

-- what the records of a text are, from within a record and from between two
record AreLines (text : List ℕ) : Type 0 where
  within : (n : ℕ) (s : State) (fields : List (List ℕ)) (field : List ℕ) → is_at_field s ≡ true → length text ≤ n
      → read_from n s fields field text ≡ begun fields field (pieces is_line_end text)
  between : (n : ℕ) (s : State) → ends_at_end s ≡ false → length text ≤ n → read_from n s [] [] text ≡ cut_lines (pieces is_line_end text)

-- some piece comes first
first_piece : (cuts : ℕ → Bool) (text : List ℕ) → (piece : List ℕ) × (more : List (List ℕ)) × (pieces cuts text ≡ piece ∷ more)
first_piece cuts [] = ([], [], refl)
first_piece cuts (c ∷ text) = cut (cuts c) (pieces cuts text)
  where
    cut : (t : Bool) (ps : List (List ℕ)) → (piece : List ℕ) × (more : List (List ℕ)) × (cond t ([] ∷ ps) (with_first c ps) ≡ piece ∷ more)
    cut true ps = ([], ps, refl)
    cut false [] = (c ∷ [], [], refl)
    cut false (p ∷ ps) = (c ∷ p, ps, refl)

-- a byte within a field
in_field_step : (s : State) (c : ℕ) → is_at_field s ≡ true → is_quote c ≡ false → step default_config s c ≡ in_field default_config c
in_field_step st.StartField c at plain = rw plain refl
in_field_step st.InField c at plain = refl
in_field_step st.StartRecord c at plain = absurd (true≢false (sym at))
in_field_step st.InQuoted c at plain = absurd (true≢false (sym at))
in_field_step st.AfterQuote c at plain = absurd (true≢false (sym at))
in_field_step st.InEscape c at plain = absurd (true≢false (sym at))
in_field_step st.InComment c at plain = absurd (true≢false (sym at))
in_field_step st.AfterCr c at plain = absurd (true≢false (sym at))

-- a comma ends a field
at_comma : (n : ℕ) (s : State) (fields : List (List ℕ)) (field : List ℕ) (c : ℕ) (text : List ℕ) → AreLines text → is_at_field s ≡ true → is_quote c ≡ false
    → is_comma c ≡ true → is_line_end c ≡ false → length (c ∷ text) ≤ n
    → read_from n s fields field (c ∷ text) ≡ begun fields field (pieces is_line_end (c ∷ text))
unfolding next_record
at_comma n s fields field c text lines at plain comma same room =
    let line = first_piece is_line_end text in
    let cut = first_piece is_comma line.0 in
    let rest = lines.within n st.StartField (fields ++ (field ∷ [])) [] refl (omega (arith, room)) in
    rw (in_field_step s c at plain, comma, same, line.2) (rest ∙ rw (line.2, comma, cut.2, append-nil field) (ap (λ r. r ∷ cut_lines line.1) (append_assoc fields (field ∷ []) (cut.0 ∷ cut.1))))

-- after a line's end a reader stands between two records
after_line : (c : ℕ) → ends_at_end (after_end term.CRLF c) ≡ false
after_line c = either (c == 13)
  where
    either : (t : Bool) → ends_at_end (cond t st.AfterCr st.StartRecord) ≡ false
    either true = refl
    either false = refl

-- a line's end ends a record
at_end : (n : ℕ) (s : State) (fields : List (List ℕ)) (field : List ℕ) (c : ℕ) (text : List ℕ) → AreLines text → is_at_field s ≡ true → is_quote c ≡ false
    → is_comma c ≡ false → is_line_end c ≡ true → length (c ∷ text) ≤ n
    → read_from n s fields field (c ∷ text) ≡ begun fields field (pieces is_line_end (c ∷ text))
unfolding next_record records_from
at_end zero s fields field c text lines at plain comma same room = absurd (omega (arith, room))
at_end (suc n) s fields field c text lines at plain comma same room =
    rw (in_field_step s c at plain, comma, same, append-nil field) (ap (λ rs. (fields ++ (field ∷ [])) ∷ rs) (lines.between n (after_end term.CRLF c) (after_line c) (omega (arith, room))))

-- any other byte joins the field
at_byte : (n : ℕ) (s : State) (fields : List (List ℕ)) (field : List ℕ) (c : ℕ) (text : List ℕ) → AreLines text → is_at_field s ≡ true → is_quote c ≡ false
    → is_comma c ≡ false → is_line_end c ≡ false → length (c ∷ text) ≤ n
    → read_from n s fields field (c ∷ text) ≡ begun fields field (pieces is_line_end (c ∷ text))
unfolding next_record
at_byte n s fields field c text lines at plain comma same room =
    let line = first_piece is_line_end text in
    let cut = first_piece is_comma line.0 in
    let rest = lines.within n st.InField fields (field ++ (c ∷ [])) refl (omega (arith, room)) in
    rw (in_field_step s c at plain, comma, same, line.2) (rest ∙ rw (line.2, comma, cut.2) (ap (λ r. (fields ++ (r ∷ cut.1)) ∷ cut_lines line.1) (append_assoc field (c ∷ []) cut.0)))

-- a comma ends no line
two_in_one : (c : ℕ) → is_comma c ≡ true → is_line_end c ≡ true → ⊥
two_in_one c a b = let is : c ≡ 44 = grind (arith, nat_tests) in subst (λ x. is_line_end x ≡ true → ⊥) (sym is) (λ h. true≢false (sym h)) b

-- a byte in a field, whichever it is
at_any : (n : ℕ) (s : State) (fields : List (List ℕ)) (field : List ℕ) (c : ℕ) (text : List ℕ) → AreLines text → is_at_field s ≡ true → is_quote c ≡ false
    → length (c ∷ text) ≤ n → read_from n s fields field (c ∷ text) ≡ begun fields field (pieces is_line_end (c ∷ text))
at_any n s fields field c text lines at plain room = either (is_comma c) (is_line_end c) refl refl
  where
    either : (comma line : Bool) → is_comma c ≡ comma → is_line_end c ≡ line → read_from n s fields field (c ∷ text) ≡ begun fields field (pieces is_line_end (c ∷ text))
    either true true a b = absurd (two_in_one c a b)
    either true false a b = at_comma n s fields field c text lines at plain a b room
    either false true a b = at_end n s fields field c text lines at plain a b room
    either false false a b = at_byte n s fields field c text lines at plain a b room

-- what ends no line is neither a carriage return nor a line feed
neither : (a b : Bool) → (a || b) ≡ false → (a ≡ false) × (b ≡ false)
neither true b h = absurd (true≢false h)
neither false b h = (refl, h)

-- a record begins as a field does, but at a line's end
begins_a_field : (s : State) (c : ℕ) → ends_at_end s ≡ false → is_line_end c ≡ false → step default_config s c ≡ step default_config st.StartField c
begins_a_field st.StartRecord c between same = rw same refl
begins_a_field st.AfterCr c between same = let no = neither (c == 13) (c == 10) same in rw (no.0, no.1) refl
begins_a_field st.StartField c between same = absurd (true≢false between)
begins_a_field st.InField c between same = absurd (true≢false between)
begins_a_field st.InQuoted c between same = absurd (true≢false between)
begins_a_field st.AfterQuote c between same = absurd (true≢false between)
begins_a_field st.InEscape c between same = absurd (true≢false between)
begins_a_field st.InComment c between same = absurd (true≢false between)

-- a blank line is passed over
passed : (s : State) (c : ℕ) → ends_at_end s ≡ false → is_line_end c ≡ true → step default_config s c ≡ (st.StartRecord, act.Skip)
passed st.StartRecord c between same = rw same refl
passed st.AfterCr c between same = either (c == 10)
  where
    either : (t : Bool) → cond t (st.StartRecord, act.Skip) (start_record default_config c) ≡ (st.StartRecord, act.Skip)
    either true = refl
    either false = rw same refl
passed st.StartField c between same = absurd (true≢false between)
passed st.InField c between same = absurd (true≢false between)
passed st.InQuoted c between same = absurd (true≢false between)
passed st.AfterQuote c between same = absurd (true≢false between)
passed st.InEscape c between same = absurd (true≢false between)
passed st.InComment c between same = absurd (true≢false between)

-- a blank line is no record
at_blank : (n : ℕ) (s : State) (c : ℕ) (text : List ℕ) → AreLines text → ends_at_end s ≡ false → is_line_end c ≡ true
    → length (c ∷ text) ≤ n → read_from n s [] [] (c ∷ text) ≡ cut_lines (pieces is_line_end (c ∷ text))
unfolding next_record
at_blank n s c text lines between same room = rw (passed s c between same, same) (lines.between n st.StartRecord refl (omega (arith, room)))

-- the first byte of a record
at_first : (n : ℕ) (s : State) (c : ℕ) (text : List ℕ) → AreLines text → ends_at_end s ≡ false → is_quote c ≡ false → is_line_end c ≡ false
    → length (c ∷ text) ≤ n → read_from n s [] [] (c ∷ text) ≡ cut_lines (pieces is_line_end (c ∷ text))
unfolding next_record
at_first n s c text lines between plain same room =
    let line = first_piece is_line_end text in
    let cut = first_piece is_comma (c ∷ line.0) in
    let field = at_any n st.StartField [] [] c text lines refl plain room in
    rw (begins_a_field s c between same) (field ∙ rw (same, line.2, cut.2) refl)

-- nothing is left of no text
none_left : (n : ℕ) → records_from default_config n st.StartRecord [] ≡ []
unfolding records_from next_record
none_left zero = refl
none_left (suc n) = refl

-- the text ends in a field
at_its_end : (n : ℕ) (s : State) (fields : List (List ℕ)) (field : List ℕ) → is_at_field s ≡ true → length {A = ℕ} [] ≤ n
    → read_from n s fields field [] ≡ begun fields field (pieces is_line_end [])
unfolding next_record
at_its_end n st.StartField fields field at room = rw (append-nil field, none_left n) refl
at_its_end n st.InField fields field at room = rw (append-nil field, none_left n) refl
at_its_end n st.StartRecord fields field at room = absurd (true≢false (sym at))
at_its_end n st.InQuoted fields field at room = absurd (true≢false (sym at))
at_its_end n st.AfterQuote fields field at room = absurd (true≢false (sym at))
at_its_end n st.InEscape fields field at room = absurd (true≢false (sym at))
at_its_end n st.InComment fields field at room = absurd (true≢false (sym at))
at_its_end n st.AfterCr fields field at room = absurd (true≢false (sym at))

-- a text without its byte order mark has no quote either
no_quote_after_mark : (text : List ℕ) → All (λ c. is_quote c ≡ false) text → All (λ c. is_quote c ≡ false) (strip_bom text)
unfolding strip_bom
no_quote_after_mark [] plain = plain
no_quote_after_mark (a ∷ []) plain = plain
no_quote_after_mark (a ∷ b ∷ []) plain = plain
no_quote_after_mark (a ∷ b ∷ c ∷ text) plain = either (is_bom a b c)
  where
    either : (t : Bool) → All (λ c. is_quote c ≡ false) (cond t text (a ∷ b ∷ c ∷ text))
    either true = All-tail (λ c. is_quote c ≡ false) c text (All-tail (λ c. is_quote c ≡ false) b (c ∷ text) (All-tail (λ c. is_quote c ≡ false) a (b ∷ c ∷ text) plain))
    either false = plain

-- the records of a text of no quote from any state of a reader that stands in no quotes
are_lines : (text : List ℕ) → All (λ c. is_quote c ≡ false) text → AreLines text
unfolding next_record
are_lines [] plain = record { within = at_its_end; between = λ n s between room. rw between refl }
are_lines (c ∷ text) plain =
    let lines = are_lines text (All-tail (λ c. is_quote c ≡ false) c text plain) in
    let first = All-head (λ c. is_quote c ≡ false) c text plain in
    record {
      within = λ n s fields field at room. at_any n s fields field c text lines at first room;
      between = λ n s between room. either n s (is_line_end c) between refl room lines;
    }
  where
    either : (n : ℕ) (s : State) (t : Bool) → ends_at_end s ≡ false → is_line_end c ≡ t → length (c ∷ text) ≤ n → AreLines text → read_from n s [] [] (c ∷ text) ≡ cut_lines (pieces is_line_end (c ∷ text))
    either n s true between same room lines = at_blank n s c text lines between same room
    either n s false between same room lines = at_first n s c text lines between (All-head (λ c. is_quote c ≡ false) c text plain) same room

pub plain_lines : (text : List ℕ) → All (λ c. is_quote c ≡ false) text → records_of text ≡ plain_records text
unfolding records_from
plain_lines text plain = rw (add-one (length (strip_bom text))) ((are_lines (strip_bom text) (no_quote_after_mark text plain)).between (length (strip_bom text)) st.StartRecord refl (omega arith))
