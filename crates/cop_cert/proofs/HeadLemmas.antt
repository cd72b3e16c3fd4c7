-- Lines of one head: what stands before their numbers is as it is written.
use Rattle.std.proofs.Common.{◌≡◌, ℕ, ◌<◌, ◌≤◌, ◌^◌, Bool, true, false, not, ◌||◌, List, [], ◌∷◌, ◌++◌, Ok, Some, decimal, refl, ap, ◌∙◌, arith, append_assoc, append-nil}
use Rattle.std.specs.List.{list_all}
use Rattle.std.specs.Char.{is_digit}
use Rattle.std.proofs.lemmas.Bool.Decides.{nat_tests}
use Rattle.std.proofs.lemmas.Bool.{le-leb}
use Rattle.std.proofs.lemmas.Fmt.{decimal_is_IsNumeral}
use Rattle.csv.specs.Machine.{line_feed}
use Rattle.csv.specs.Writing.{comma}
use Rattle.cop_table.specs.Plain.{is_comma, is_line_end, is_blank, pieces, cut_lines}
use Rattle.cop_table.specs.Numbers.{number_of}
use Rattle.cop_frame.specs.declared.rates.Rate.{Rate}
use Rattle.cop_frame.specs.Rate.{kbits_of}
use Rattle.cop_cert.specs.Entries.{least_number, entry_in}
use Rattle.cop_cert.specs.Plain.{rows_of_text, head_text, list_word, IsBefore}
use Rattle.cop_cert.specs.declared.entries.Entry.{Entry}
use Rattle.cop_cert.specs.declared.entries.Version.{Version}
use Rattle.cop_cert.specs.declared.entries.Listed.{Listed}
use Rattle.cop_cert.specs.declared.entries.Listed.TheVariants as lists
use Rattle.cop_cert.specs.declared.entries.Word.TheVariants as words
use Rattle.cop_cert.proofs.RowLemmas.{all_digits, number_decimal, rate_known, rate_small}
use Rattle.cop_cert.proofs.RoundTrip.{list_known}
use Rattle.cop_cert.proofs.PlainLemmas.{digit_head}

-- ---- fields

-- a byte that ends no field and no line
abbrev is_inner : ℕ → Bool
is_inner c = not (is_comma c || is_line_end c)

record IsInner (c : ℕ) : Type 0 where
  comma_no : is_comma c ≡ false
  end_no : is_line_end c ≡ false

inner_by : (a b : Bool) (c : ℕ) → is_comma c ≡ a → is_line_end c ≡ b → not (a || b) ≡ true → IsInner c
inner_by false false c e f h = record { comma_no = e; end_no = f }
inner_by false true c e f h = absurd (cc)
inner_by true b c e f h = absurd (cc)

inner_head : (c : ℕ) (field : List ℕ) → list_all is_inner (c ∷ field) ≡ true → IsInner c × (list_all is_inner field ≡ true)
inner_head c field h = go (is_inner c) refl h
  where
    go : (t : Bool) → is_inner c ≡ t → list_all is_inner (c ∷ field) ≡ true → IsInner c × (list_all is_inner field ≡ true)
    go true e k = (inner_by (is_comma c) (is_line_end c) c refl refl e, (rw e at k))
    go false e k = absurd (let no = rw e at k in cc)

cut_field : (field rest : List ℕ) → list_all is_inner field ≡ true → pieces is_comma (field ++ comma ∷ rest) ≡ field ∷ pieces is_comma rest
cut_field [] rest h = refl
cut_field (c ∷ field) rest h = let i = inner_head c field h in rw (i.0.comma_no, cut_field field rest i.1) refl

cut_last : (field : List ℕ) → list_all is_inner field ≡ true → pieces is_comma field ≡ field ∷ []
cut_last [] h = refl
cut_last (c ∷ field) h = let i = inner_head c field h in rw (i.0.comma_no, cut_last field i.1) refl

-- a field longer at its start, the first line is longer
line_on : (field rest line : List ℕ) (more : List (List ℕ)) → list_all is_inner field ≡ true → pieces is_line_end rest ≡ line ∷ more → pieces is_line_end (field ++ rest) ≡ (field ++ line) ∷ more
line_on [] rest line more h e = e
line_on (c ∷ field) rest line more h e = let i = inner_head c field h in rw (i.0.end_no, line_on field rest line more i.1 e) refl

digit_inner : (c : ℕ) → is_digit c 10 ≡ true → is_inner c ≡ true
digit_inner c h = grind (arith, nat_tests)

digits_inner : (ds : List ℕ) → list_all (λ c. is_digit c 10) ds ≡ true → list_all is_inner ds ≡ true
digits_inner [] h = refl
digits_inner (c ∷ ds) h = let first = digit_head c ds h in rw (digit_inner c first.0) (digits_inner ds first.1)

number_inner : (n : ℕ) → n < 2 ^ 64 → list_all is_inner (decimal n) ≡ true
number_inner n h = digits_inner (decimal n) (all_digits (decimal n) (decimal_is_IsNumeral n h).0.1)

word_inner : (list : Listed) → list_all is_inner (list_word list) ≡ true
word_inner lists.Busy = refl
word_inner lists.Queue = refl

-- ---- a line of four fields

not_blank : (a rest : List ℕ) → is_blank (a ++ comma ∷ rest) ≡ false
not_blank [] rest = refl
not_blank (c ∷ a) rest = refl

four : List ℕ → List ℕ → List ℕ → List ℕ → List ℕ
four a b c d = a ++ comma ∷ (b ++ comma ∷ (c ++ comma ∷ d))

four_first : (a b c d left : List ℕ) → list_all is_inner a ≡ true → list_all is_inner b ≡ true → list_all is_inner c ≡ true → list_all is_inner d ≡ true
    → pieces is_line_end (four a b c (d ++ line_feed ∷ left)) ≡ four a b c d ∷ pieces is_line_end left
unfolding four
four_first a b c d left h k l m =
    let last : pieces is_line_end (d ++ line_feed ∷ left) ≡ d ∷ pieces is_line_end left = line_on d (line_feed ∷ left) [] (pieces is_line_end left) m refl ∙ ap (λ xs. xs ∷ pieces is_line_end left) (append-nil d) in
    let third = line_on c (comma ∷ (d ++ line_feed ∷ left)) (comma ∷ d) (pieces is_line_end left) l (rw last refl) in
    let second = line_on b (comma ∷ (c ++ comma ∷ (d ++ line_feed ∷ left))) (comma ∷ (c ++ comma ∷ d)) (pieces is_line_end left) k (rw third refl) in
    line_on a (comma ∷ (b ++ comma ∷ (c ++ comma ∷ (d ++ line_feed ∷ left)))) (comma ∷ (b ++ comma ∷ (c ++ comma ∷ d))) (pieces is_line_end left) h (rw second refl)

four_cut : (a b c d : List ℕ) → list_all is_inner a ≡ true → list_all is_inner b ≡ true → list_all is_inner c ≡ true → list_all is_inner d ≡ true → pieces is_comma (four a b c d) ≡ a ∷ b ∷ c ∷ d ∷ []
unfolding four
four_cut a b c d h k l m = rw (cut_field a (b ++ comma ∷ (c ++ comma ∷ d)) h, cut_field b (c ++ comma ∷ d) k, cut_field c d l, cut_last d m) refl

four_some : (a b c d : List ℕ) → is_blank (four a b c d) ≡ false
unfolding four
four_some a b c d = not_blank a (b ++ comma ∷ (c ++ comma ∷ d))

cut_some : (line : List ℕ) (more : List (List ℕ)) → is_blank line ≡ false → cut_lines (line ∷ more) ≡ pieces is_comma line ∷ cut_lines more
cut_some line more h = rw h refl

four_row : (a b c d left : List ℕ) → list_all is_inner a ≡ true → list_all is_inner b ≡ true → list_all is_inner c ≡ true → list_all is_inner d ≡ true
    → rows_of_text (four a b c (d ++ line_feed ∷ left)) ≡ (a ∷ b ∷ c ∷ d ∷ []) ∷ rows_of_text left
four_row a b c d left h k l m =
    ap cut_lines (four_first a b c d left h k l m)
    ∙ (cut_some (four a b c d) (pieces is_line_end left) (four_some a b c d) ∙ ap (λ row. row ∷ rows_of_text left) (four_cut a b c d h k l m))

joined : (a b c rest : List ℕ) → (((((a ++ comma ∷ []) ++ b) ++ comma ∷ []) ++ c) ++ comma ∷ []) ++ rest ≡ four a b c rest
unfolding four
joined a b c rest = simp append_assoc refl

-- ---- its entry

says_number : (v : Version) (rate : Rate) (number value : ℕ) (list : Listed) (digits : List ℕ) → least_number v ≤ number → number ≤ 512 → number_of 20 digits ≡ Some value
    → entry_in v (decimal (kbits_of rate) ∷ decimal number ∷ list_word list ∷ digits ∷ []) ≡ Ok (record { rate = rate; number = number; word = words.Number list; value = value })
unfolding entry_in
says_number v rate number value list digits low high is =
    rw (number_decimal (kbits_of rate) (rate_small rate), rate_known rate, number_decimal number (omega (arith, high)), le-leb (least_number v) number low, le-leb number 512 high, is, list_known v list) refl

pub head_is_before : (v : Version) (entry : Entry) (list : Listed) (head : List ℕ) → entry.word ≡ words.Number list → least_number v ≤ entry.number → entry.number ≤ 512
    → head ≡ head_text entry.rate entry.number (list_word list) → IsBefore v head entry
head_is_before v entry list head word low high e = record {
  says = λ text number left h. record {
    row = decimal (kbits_of entry.rate) ∷ decimal entry.number ∷ list_word list ∷ h.ends.digits ∷ [];
    rows = rw (← h.divided, ← h.ends.divided, e, joined (decimal (kbits_of entry.rate)) (decimal entry.number) (list_word list) (h.ends.digits ++ line_feed ∷ left))
        (four_row (decimal (kbits_of entry.rate)) (decimal entry.number) (list_word list) h.ends.digits left (number_inner (kbits_of entry.rate) (rate_small entry.rate)) (number_inner entry.number (omega (arith, high))) (word_inner list) (digits_inner h.ends.digits h.ends.all));
    entry = rw word (says_number v entry.rate entry.number number list h.ends.digits low high h.ends.is);
  };
}
