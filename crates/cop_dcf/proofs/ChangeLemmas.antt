-- What a DCF sets is set once, in sections that there are, by lines that are read as they are meant.
use Rattle.std.specs.Prelude.{slice_index}
use Rattle.std.proofs.Common.{◌≡◌, ◌≤◌, ◌<◌, ◌+◌, ◌-◌, ◌^◌, ℕ, zero, suc, Bool, true, false, cond, ◌&&◌, ◌||◌, ◌==◌, nat_lt, List, [], ◌∷◌, ◌++◌, length, find, Option, Some, None, refl, ap, ◌∙◌, codes, decimal, arith}
use Rattle.std.specs.List.{list_all, list_any, cons_option}
use Rattle.std.specs.Option.{option_map, option_map_or}
use Rattle.std.specs.Str.Parse.{IsNumeral, AllDigits}
use Rattle.std.proofs.lemmas.Bool.{or_parts}
use Rattle.std.proofs.lemmas.Bool.Decides.{nat_tests}
use Rattle.std.proofs.lemmas.Fmt.{decimal_is_IsNumeral}
use Rattle.std.proofs.lemmas.Str.Parse.{digit_from_value}
use Rattle.std.proofs.lemmas.List.Folds.{list_any-append}
use Rattle.cop_frame.specs.declared.rates.Rate.{Rate}
use Rattle.cop_frame.specs.declared.rates.Rate.TheVariants.{Kbit10, Kbit20, Kbit50, Kbit125, Kbit250, Kbit500, Kbit800, Kbit1000}
use Rattle.cop_frame.specs.Rate.{kbits_of}
use Rattle.cop_eds.specs.declared.line.Kind.TheVariants.{Pair}
use Rattle.cop_eds.specs.Text.{trim_start, is_comment, is_header, is_pair, same_name}
use Rattle.cop_eds.specs.Names.{same_section}
use Rattle.cop_eds.specs.Lines.{kind_of}
use Rattle.cop_eds.specs.Rows.{Row, rows_of, has_name}
use Rattle.cop_eds.specs.Edits.{Change, pair_of, header_row, newline_of, section_count, with_section}
use Rattle.cop_eds.proofs.EditLemmas.{hits, AreClean, AreApart, and_left, found_test}
use Rattle.cop_eds.proofs.KeepsLemmas.{is_set, AreOurs, with_both}
use Rattle.cop_eds.proofs.SpelledLemmas.{AreSpelled, IsLine, AreLines}
use Rattle.cop_setup.specs.declared.setting.Setting.{Setting}
use Rattle.cop_dcf.specs.Dcf.{hexadecimal, value_set, values_from, origin_set, device_set, number_of, file_number, device_number}
use Rattle.cop_setup.specs.Settings.{bytes_of}
use Rattle.cop_dcf.proofs.HomeLemmas.{spelled_rows, header_past, kind_is_header}
use Rattle.cop_dcf.proofs.WrittenLemmas.{both_spelled}

-- ---- bytes that end no line

abbrev pub is_plain : ℕ → Bool
is_plain c = nat_lt 31 c

plain_flat : (xs : List ℕ) → list_all is_plain xs ≡ true → list_any (λ b. b == 10) xs ≡ false
plain_flat [] h = refl
plain_flat (x ∷ xs) h = by_test (nat_lt 31 x) refl h (plain_flat xs)
  where
    by_test : (b : Bool) → nat_lt 31 x ≡ b → b && list_all is_plain xs ≡ true → (list_all is_plain xs ≡ true → list_any (λ b. b == 10) xs ≡ false)
        → ((x == 10) || list_any (λ b. b == 10) xs) ≡ false
    by_test false is k later = cc
    by_test true is k later =
        let other : (x == 10) ≡ false = grind (arith, nat_tests) in
        rw other (later k)

plain_at : (xs : List ℕ) (i : ℕ) → list_all is_plain xs ≡ true → (slice_index xs i == 13) ≡ false
plain_at [] i h = refl
plain_at (x ∷ xs) zero h = let here : nat_lt 31 x ≡ true = and_left _ _ h in grind (arith, nat_tests)
plain_at (x ∷ xs) (suc i) h = plain_at xs i (and_more (nat_lt 31 x) _ h)
  where
    and_more : (a b : Bool) → a && b ≡ true → b ≡ true
    and_more true b e = e
    and_more false b e = cc

-- a line of plain bytes that is a pair
line_is : (c : Change) → kind_of (pair_of c) ≡ Pair → list_all is_plain (pair_of c) ≡ true → 0 < length (pair_of c) → IsLine c
line_is c kind plain some = record { pair = kind; flat = plain_flat (pair_of c) plain; last = plain_at (pair_of c) (length (pair_of c) - 1) plain; some = some }

-- the kind of a line whose first byte is no blank, no semicolon and no bracket
kind_is : (b : ℕ) (bs : List ℕ) → trim_start (b ∷ bs) ≡ b ∷ bs → (b == 59) ≡ false → (b == 91) ≡ false → is_pair (b ∷ bs) ≡ true → kind_of (b ∷ bs) ≡ Pair
kind_is b bs whole semicolon bracket pair =
    let long : (length (b ∷ bs) == 0) ≡ false = grind (arith, nat_tests) in
    let no : is_comment (b ∷ bs) ≡ false = ap (λ rest. (length rest == 0) || (slice_index rest 0 == 59)) whole ∙ (rw (long, semicolon) refl) in
    let head : is_header (b ∷ bs) ≡ false = rw bracket refl in
    rw (no, head, pair) refl

-- ---- the keys that are set

value_line : (section : ℕ) (value : List ℕ) → list_all is_plain value ≡ true → IsLine (record { section = section; key = codes "ParameterValue"; value = value })
value_line section value plain = line_is _ (kind_is 80 (codes "arameterValue" ++ 61 ∷ value) refl refl refl refl) plain (omega arith)

origin_line : (section : ℕ) (value : List ℕ) → list_all is_plain value ≡ true → IsLine (record { section = section; key = codes "LastEDS"; value = value })
origin_line section value plain = line_is _ (kind_is 76 (codes "astEDS" ++ 61 ∷ value) refl refl refl refl) plain (omega arith)

node_line : (section : ℕ) (value : List ℕ) → list_all is_plain value ≡ true → IsLine (record { section = section; key = codes "NodeID"; value = value })
node_line section value plain = line_is _ (kind_is 78 (codes "odeID" ++ 61 ∷ value) refl refl refl refl) plain (omega arith)

name_line : (section : ℕ) (value : List ℕ) → list_all is_plain value ≡ true → IsLine (record { section = section; key = codes "NodeName"; value = value })
name_line section value plain = line_is _ (kind_is 78 (codes "odeName" ++ 61 ∷ value) refl refl refl refl) plain (omega arith)

rate_line : (section : ℕ) (value : List ℕ) → list_all is_plain value ≡ true → IsLine (record { section = section; key = codes "Baudrate"; value = value })
rate_line section value plain = line_is _ (kind_is 66 (codes "audrate" ++ 61 ∷ value) refl refl refl refl) plain (omega arith)

digits_plain : (ds : List ℕ) → IsNumeral 10 ds → list_all is_plain ds ≡ true
digits_plain [] h = refl
digits_plain (d ∷ ds) h = all (d ∷ ds) h.1
  where
    all : (xs : List ℕ) → AllDigits 10 xs → list_all is_plain xs ≡ true
    all [] k = refl
    all (x ∷ xs) k =
        let range = digit_from_value x k.0 in
        let low : 48 ≤ x = range.0 in
        let here : nat_lt 31 x ≡ true = grind (arith, nat_tests) in
        rw here (all xs k.1)

decimal_plain : (n : ℕ) → n < 2 ^ 64 → list_all is_plain (decimal n) ≡ true
decimal_plain n small = digits_plain (decimal n) (decimal_is_IsNumeral n small).0

rate_small : (rate : Rate) → kbits_of rate < 2 ^ 64
rate_small Kbit10 = omega arith
rate_small Kbit20 = omega arith
rate_small Kbit50 = omega arith
rate_small Kbit125 = omega arith
rate_small Kbit250 = omega arith
rate_small Kbit500 = omega arith
rate_small Kbit800 = omega arith
rate_small Kbit1000 = omega arith

rate_plain : (rate : Rate) → list_all is_plain (decimal (kbits_of rate)) ≡ true
rate_plain rate = decimal_plain (kbits_of rate) (rate_small rate)

positive : (n : ℕ) → 0 < n → (n == 0) ≡ false
positive n h = grind (arith, nat_tests)

-- no change of these has this key
unfoldable pub AreOther : List ℕ → List Change → Type 0
AreOther key [] = Unit {0}
AreOther key (c ∷ cs) = (same_name c.key key ≡ false) × AreOther key cs

and_false : (a b : Bool) → b ≡ false → a && b ≡ false
and_false true b e = e
and_false false b e = refl

pub other_none : (section : ℕ) (key : List ℕ) (cs : List Change) → AreOther key cs → list_any (hits section key) cs ≡ false
unfolding AreOther
other_none section key [] h = refl
other_none section key (c ∷ cs) h = let no : hits section key c ≡ false = and_false (c.section == section) (same_name c.key key) h.0 in rw no (other_none section key cs h.1)

-- what is set beside the values
abbrev pub places_set : ℕ → List ℕ → ℕ → ℕ → List ℕ → Rate → List Change
places_set file eds_name device node name rate = origin_set file eds_name ++ device_set device node name rate

module _ (file device node : ℕ) (eds_name name : List ℕ) (rate : Rate) where
  pub places_other : AreOther (codes "ParameterValue") (places_set file eds_name device node name rate)
  unfolding AreOther
  places_other = (refl, (refl, (refl, (refl, tt))))

  places_clean : 0 < file → 0 < device → AreClean (places_set file eds_name device node name rate)
  unfolding AreClean
  places_clean f d = (
    record { key = refl; inside = positive file f },
    (
      record { key = refl; inside = positive device d },
      (
        record { key = refl; inside = positive device d },
        (record { key = refl; inside = positive device d }, tt),
      ),
    ),
  )

  places_apart : AreApart (places_set file eds_name device node name rate)
  unfolding AreApart AreOther
  places_apart = (
    other_none file (codes "LastEDS") (device_set device node name rate) (refl, (refl, (refl, tt))),
    (
      other_none device (codes "NodeID") (name_set ∷ rate_set ∷ []) (refl, (refl, tt)),
      (other_none device (codes "NodeName") (rate_set ∷ []) (refl, tt), (refl, tt)),
    ),
  )
    where
      name_set : Change
      name_set = record { section = device; key = codes "NodeName"; value = name }

      rate_set : Change
      rate_set = record { section = device; key = codes "Baudrate"; value = decimal (kbits_of rate) }

  places_lines : list_all is_plain eds_name ≡ true → list_all is_plain name ≡ true → node < 2 ^ 64 → AreLines (places_set file eds_name device node name rate)
  unfolding AreLines
  places_lines e n small = (
    origin_line file eds_name e,
    (node_line device (decimal node) (decimal_plain node small), (name_line device name n, (rate_line device (decimal (kbits_of rate)) (rate_plain rate), tt))),
  )

module _ (key : List ℕ) (none : is_set key ≡ false) where
  four : ((same_name (codes "ParameterValue") key || same_name (codes "LastEDS") key) || same_name (codes "NodeID") key) || same_name (codes "NodeName") key ≡ false
  four = (or_parts _ _ none).0

  three : (same_name (codes "ParameterValue") key || same_name (codes "LastEDS") key) || same_name (codes "NodeID") key ≡ false
  three = (or_parts _ _ four).0

  two : same_name (codes "ParameterValue") key || same_name (codes "LastEDS") key ≡ false
  two = (or_parts _ _ three).0

  pub no_value : same_name (codes "ParameterValue") key ≡ false
  no_value = (or_parts _ _ two).0

  no_origin : same_name (codes "LastEDS") key ≡ false
  no_origin = (or_parts _ _ two).1

  no_node : same_name (codes "NodeID") key ≡ false
  no_node = (or_parts _ _ three).1

  no_name : same_name (codes "NodeName") key ≡ false
  no_name = (or_parts _ _ four).1

  no_rate : same_name (codes "Baudrate") key ≡ false
  no_rate = (or_parts _ _ none).1

places_ours : (file device node : ℕ) (eds_name name : List ℕ) (rate : Rate) → AreOurs (places_set file eds_name device node name rate)
unfolding AreOurs
places_ours file device node eds_name name rate = (no_origin, (no_node, (no_name, (no_rate, tt))))

-- ---- the values

module _ (f : ℕ → Option Setting) where
  values_clean : (first count : ℕ) → 0 < first → AreClean (values_from f first count)
  unfolding values_from AreClean
  values_clean first zero past = tt
  values_clean first (suc count) past = by_value (f first) (values_clean (first + 1) count (omega arith))
    where
      by_value : (o : Option Setting) → AreClean (values_from f (first + 1) count) → AreClean (cons_option (option_map (value_set first) o) (values_from f (first + 1) count))
      by_value None later = later
      by_value (Some s) later = (record { key = refl; inside = positive first past }, later)

  pub values_past : (section : ℕ) (key : List ℕ) (first count : ℕ) → section < first → list_any (hits section key) (values_from f first count) ≡ false
  unfolding values_from
  values_past section key first zero past = refl
  values_past section key first (suc count) past = by_value (f first) (values_past section key (first + 1) count (omega arith))
    where
      by_value : (o : Option Setting) → list_any (hits section key) (values_from f (first + 1) count) ≡ false
          → list_any (hits section key) (cons_option (option_map (value_set first) o) (values_from f (first + 1) count)) ≡ false
      by_value None later = later
      by_value (Some s) later =
          let no : (first == section) ≡ false = grind (arith, nat_tests) in
          rw no later

  values_ours : (first count : ℕ) → AreOurs (values_from f first count)
  unfolding values_from AreOurs
  values_ours first zero = tt
  values_ours first (suc count) = by_value (f first) (values_ours (first + 1) count)
    where
      by_value : (o : Option Setting) → AreOurs (values_from f (first + 1) count) → AreOurs (cons_option (option_map (value_set first) o) (values_from f (first + 1) count))
      by_value None later = later
      by_value (Some s) later = (no_value, later)

  values_lines : (first count : ℕ) → ((s : Setting) → list_all is_plain (hexadecimal (bytes_of s)) ≡ true) → AreLines (values_from f first count)
  unfolding values_from AreLines
  values_lines first zero plain = tt
  values_lines first (suc count) plain = by_value (f first) (values_lines (first + 1) count plain)
    where
      by_value : (o : Option Setting) → AreLines (values_from f (first + 1) count) → AreLines (cons_option (option_map (value_set first) o) (values_from f (first + 1) count))
      by_value None later = later
      by_value (Some s) later = (value_line first (hexadecimal (bytes_of s)) (plain s), later)

  -- values before changes of other keys
  values_apart : (ys : List Change) (first count : ℕ) → AreOther (codes "ParameterValue") ys → AreApart ys → AreApart (values_from f first count ++ ys)
  unfolding values_from AreApart
  values_apart ys first zero other apart = apart
  values_apart ys first (suc count) other apart = by_value (f first) (values_apart ys (first + 1) count other apart)
    where
      none : list_any (hits first (codes "ParameterValue")) (values_from f (first + 1) count ++ ys) ≡ false
      none =
          list_any-append (hits first (codes "ParameterValue")) (values_from f (first + 1) count) ys
          ∙ (rw (values_past first (codes "ParameterValue") (first + 1) count (omega arith), other_none first (codes "ParameterValue") ys other) refl)

      by_value : (o : Option Setting) → AreApart (values_from f (first + 1) count ++ ys) → AreApart (cons_option (option_map (value_set first) o) (values_from f (first + 1) count) ++ ys)
      by_value None later = later
      by_value (Some s) later = (none, later)

clean_append : (xs ys : List Change) → AreClean xs → AreClean ys → AreClean (xs ++ ys)
unfolding AreClean
clean_append [] ys h k = k
clean_append (x ∷ xs) ys h k = (h.0, clean_append xs ys h.1 k)

ours_append : (xs ys : List Change) → AreOurs xs → AreOurs ys → AreOurs (xs ++ ys)
unfolding AreOurs
ours_append [] ys h k = k
ours_append (x ∷ xs) ys h k = (h.0, ours_append xs ys h.1 k)

lines_append : (xs ys : List Change) → AreLines xs → AreLines ys → AreLines (xs ++ ys)
unfolding AreLines
lines_append [] ys h k = k
lines_append (x ∷ xs) ys h k = (h.0, lines_append xs ys h.1 k)

-- ---- sections that a name has

pub has_own : (name : List ℕ) (rows : List Row) → ((newline : List ℕ) (section : ℕ) → has_name name (header_row newline section name) ≡ true) → list_any (has_name name) (with_section name rows) ≡ true
has_own name rows own = by_test (list_any (has_name name) rows) refl
  where
    or_true : (b : Bool) → b || (true || false) ≡ true
    or_true true = refl
    or_true false = refl

    by_test : (b : Bool) → list_any (has_name name) rows ≡ b → list_any (has_name name) (cond b rows (rows ++ header_row (newline_of rows) (section_count rows + 1) name ∷ [])) ≡ true
    by_test true is = is
    by_test false is =
        list_any-append (has_name name) rows (header_row (newline_of rows) (section_count rows + 1) name ∷ [])
        ∙ (rw (own (newline_of rows) (section_count rows + 1)) (or_true (list_any (has_name name) rows)))

pub has_still : (q : Row → Bool) (name : List ℕ) (rows : List Row) → list_any q rows ≡ true → list_any q (with_section name rows) ≡ true
has_still q name rows h = by_test (list_any (has_name name) rows)
  where
    by_test : (b : Bool) → list_any q (cond b rows (rows ++ header_row (newline_of rows) (section_count rows + 1) name ∷ [])) ≡ true
    by_test true = h
    by_test false = list_any-append q rows (header_row (newline_of rows) (section_count rows + 1) name ∷ []) ∙ (rw h refl)

number_past : (name : List ℕ) (rows : List Row) → AreSpelled 0 rows → list_any (has_name name) rows ≡ true → 0 < number_of name rows
number_past name rows spelled h = by_found (find (has_name name) rows) refl
  where
    missed : (q : Row → Bool) (xs : List Row) → find q xs ≡ None → list_any q xs ≡ true → ⊥
    missed q [] e k = cc
    missed q (x ∷ xs) e k = by_test (q x) e k (missed q xs)
      where
        by_test : (b : Bool) → cond b (Some x) (find q xs) ≡ None → b || list_any q xs ≡ true → (find q xs ≡ None → list_any q xs ≡ true → ⊥) → ⊥
        by_test true e k later = cc
        by_test false e k later = later e k

    by_found : (o : Option Row) → find (has_name name) rows ≡ o → 0 < option_map_or (λ row. row.section) o 0
    by_found None is = absurd (missed (has_name name) rows is h)
    by_found (Some row) is = header_past 0 (has_name name) rows row spelled is (kind_is_header row.kind (and_left _ _ (found_test (has_name name) rows row is)))

pub own_file : (newline : List ℕ) (section : ℕ) → has_name (codes "FileInfo") (header_row newline section (codes "FileInfo")) ≡ true
unfolding same_section
own_file newline section = refl

pub own_device : (newline : List ℕ) (section : ℕ) → has_name (codes "DeviceComissioning") (header_row newline section (codes "DeviceComissioning")) ≡ true
unfolding same_section
own_device newline section = refl

pub file_past : (text : List ℕ) → 0 < file_number (rows_of text)
file_past text =
    number_past (codes "FileInfo") (with_both (rows_of text)) (both_spelled (rows_of text) (spelled_rows text))
    (has_still (has_name (codes "FileInfo")) (codes "DeviceComissioning") (with_section (codes "FileInfo") (rows_of text)) (has_own (codes "FileInfo") (rows_of text) own_file))

pub device_past : (text : List ℕ) → 0 < device_number (rows_of text)
device_past text =
    number_past (codes "DeviceComissioning") (with_both (rows_of text)) (both_spelled (rows_of text) (spelled_rows text))
    (has_own (codes "DeviceComissioning") (with_section (codes "FileInfo") (rows_of text)) own_device)

-- ---- all that is set

pub record AreGood (cs : List Change) : Type 0 where
  pub clean : AreClean cs
  pub apart : AreApart cs
  pub ours : AreOurs cs
  pub lines : AreLines cs

-- no section 0, and texts of plain bytes
pub all_good : (f : ℕ → Option Setting) (count file device node : ℕ) (eds_name name : List ℕ) (rate : Rate) → f 0 ≡ None → 0 < file → 0 < device
    → ((s : Setting) → list_all is_plain (hexadecimal (bytes_of s)) ≡ true) → list_all is_plain eds_name ≡ true → list_all is_plain name ≡ true → node < 2 ^ 64
    → AreGood (values_from f 0 (suc count) ++ places_set file eds_name device node name rate)
unfolding values_from
all_good f count file device node eds_name name rate none fp dp plain e n small =
    rw none
    (record {
      clean = clean_append (values_from f 1 count) places (values_clean f 1 count (omega arith)) (places_clean file device node eds_name name rate fp dp);
      apart = values_apart f places 1 count (places_other file device node eds_name name rate) (places_apart file device node eds_name name rate);
      ours = ours_append (values_from f 1 count) places (values_ours f 1 count) (places_ours file device node eds_name name rate);
      lines = lines_append (values_from f 1 count) places (values_lines f 1 count plain) (places_lines file device node eds_name name rate e n small);
    })
  where
    places : List Change
    places = places_set file eds_name device node name rate
