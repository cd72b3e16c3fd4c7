-- Records whose fields need no quotes, as lines.
use Rattle.std.proofs.Common.{◌≡◌, ℕ, ◌<◌, ◌≤◌, length, ◌^◌, ◌/◌, ◌%◌, ◌||◌, true, false, List, [], ◌∷◌, ◌++◌, refl, sym, ◌∙◌, ap, arith, append_assoc, append-nil, slice_index, codes, decimal, inl, inr}
use Rattle.std.proofs.lemmas.Bool.{cases_lt, false_from_ne_true}
use Rattle.std.proofs.lemmas.Fmt.{length-decimal-le}
use Rattle.std.proofs.Math.ListN.{get_or-eq_default}
use Rattle.std.proofs.lemmas.List.Folds.{list_any_at}
use Rattle.csv.specs.Writing.{needs_byte, needs_quotes, default_writer, escaped, fields_text, is_blank, comma}
use Rattle.cop_table.proofs.QuoteLemmas.{IsPlain, both_no, decimal_is_plain}
use Rattle.csv.specs.Machine.{line_feed}
use Rattle.hex.specs.Hex.{upper_digits, encode_with, encode_upper}
use Rattle.cop_bus.specs.Format.{header, line, bytes_of, short, queue_fields}
use Rattle.cop_bus.specs.declared.steps.Content.{Content}

-- ---- hexadecimal digits

digit_is_one : (k : ℕ) → k < 16 → needs_byte default_writer (slice_index upper_digits k) ≡ false
digit_is_one k h =
    false_from_ne_true (needs_byte default_writer (slice_index upper_digits k)) (λ e. (let all : false ≡ true = list_any_at (needs_byte default_writer) upper_digits k 0 h e in absurd (cc all)))

hexadecimal_is_plain : (k : ℕ) → needs_byte default_writer (slice_index upper_digits k) ≡ false
hexadecimal_is_plain k = elim (cases_lt k 16) [
  | inl h ↦ digit_is_one k h
  | inr h ↦ ap (needs_byte default_writer) (get_or-eq_default upper_digits 0 h)
]

bytes_are_plain : (bytes : List ℕ) → IsPlain (encode_upper bytes)
unfolding encode_with
bytes_are_plain [] = refl
bytes_are_plain (b ∷ bytes) =
    both_no (needs_byte default_writer (slice_index upper_digits (b / 16))) (needs_byte default_writer (slice_index upper_digits (b % 16)) || needs_quotes default_writer (encode_upper bytes)) (hexadecimal_is_plain (b / 16))
    (both_no (needs_byte default_writer (slice_index upper_digits (b % 16))) (needs_quotes default_writer (encode_upper bytes)) (hexadecimal_is_plain (b % 16)) (bytes_are_plain bytes))

-- ---- lines

plain_number : (n : ℕ) → n < 2 ^ 64 → IsPlain (decimal n)
plain_number n h = decimal_is_plain n (omega (arith, h))

pub short_is_line : (kind : List ℕ) (at id : ℕ) → at < 2 ^ 64 → id < 2 ^ 64 → IsPlain kind
    → ((kind ++ comma ∷ decimal at) ++ comma ∷ decimal id) ++ codes ",,,\n" ≡ line (short kind at id)
unfolding line fields_text is_blank
short_is_line kind at id h k plain =
    rw (plain, plain_number at h, plain_number id k) (simp append_assoc refl)

-- a part more behind a comma
behind : (before part rest : List ℕ) → (before ++ comma ∷ part) ++ rest ≡ before ++ comma ∷ (part ++ rest)
behind before part rest = append_assoc before (comma ∷ part) rest

joined : (kind at id event bits bytes : List ℕ)
    → ((((((kind ++ comma ∷ at) ++ comma ∷ id) ++ comma ∷ event) ++ comma ∷ bits) ++ comma ∷ []) ++ bytes) ++ line_feed ∷ [] ≡ (kind ++ comma ∷ (at ++ comma ∷ (id ++ comma ∷ (event ++ comma ∷ (bits ++ comma ∷ (bytes ++ [])))))) ++ line_feed ∷ []
joined kind at id event bits bytes =
    ap (λ text. text ++ line_feed ∷ [])
    (behind ((((kind ++ comma ∷ at) ++ comma ∷ id) ++ comma ∷ event) ++ comma ∷ bits) [] bytes
    ∙ behind (((kind ++ comma ∷ at) ++ comma ∷ id) ++ comma ∷ event) bits (comma ∷ bytes)
    ∙ behind ((kind ++ comma ∷ at) ++ comma ∷ id) event (comma ∷ (bits ++ comma ∷ bytes))
    ∙ behind (kind ++ comma ∷ at) id (comma ∷ (event ++ comma ∷ (bits ++ comma ∷ bytes)))
    ∙ behind kind at (comma ∷ (id ++ comma ∷ (event ++ comma ∷ (bits ++ comma ∷ bytes))))
    ∙ ap (λ last. kind ++ comma ∷ (at ++ comma ∷ (id ++ comma ∷ (event ++ comma ∷ (bits ++ comma ∷ last))))) (sym (append-nil bytes)))

pub queue_is_line : (at id event : ℕ) (frame : Content) → at < 2 ^ 64 → id < 2 ^ 64 → event < 2 ^ 64 → frame.bits < 2 ^ 64
    → ((((((codes "queue" ++ comma ∷ decimal at) ++ comma ∷ decimal id) ++ comma ∷ decimal event) ++ comma ∷ decimal frame.bits) ++ comma ∷ []) ++ encode_upper (bytes_of frame)) ++ line_feed ∷ [] ≡ line (queue_fields at id event frame)
unfolding line fields_text is_blank
queue_is_line at id event frame h k m n =
    rw (plain_number at h, plain_number id k, plain_number event m, plain_number frame.bits n, bytes_are_plain (bytes_of frame)) (joined (codes "queue") (decimal at) (decimal id) (decimal event) (decimal frame.bits) (encode_upper (bytes_of frame)))

-- ---- the same, made from the last part to the first

pub short_made : (kind : List ℕ) (at id : ℕ) (rest : List ℕ) → at < 2 ^ 64 → id < 2 ^ 64 → IsPlain kind → rest ≡ []
    → kind ++ ((comma ∷ decimal at) ++ ((comma ∷ decimal id) ++ (codes ",,,\n" ++ rest))) ≡ line (short kind at id)
short_made kind at id rest h k plain none =
    ap (λ text. kind ++ ((comma ∷ decimal at) ++ ((comma ∷ decimal id) ++ (codes ",,,\n" ++ text)))) none
    ∙ four kind (comma ∷ decimal at) (comma ∷ decimal id) (codes ",,,\n")
    ∙ short_is_line kind at id h k plain
  where
    four : (a b c d : List ℕ) → a ++ (b ++ (c ++ (d ++ []))) ≡ ((a ++ b) ++ c) ++ d
    four a b c d = simp (append_assoc, append-nil) refl

pub queue_made : (at id event : ℕ) (frame : Content) (rest : List ℕ) → at < 2 ^ 64 → id < 2 ^ 64 → event < 2 ^ 64 → frame.bits < 2 ^ 64 → rest ≡ []
    → codes "queue" ++ ((comma ∷ decimal at) ++ ((comma ∷ decimal id) ++ ((comma ∷ decimal event) ++ ((comma ∷ decimal frame.bits) ++ ((comma ∷ []) ++ (encode_upper (bytes_of frame) ++ (line_feed ∷ [] ++ rest))))))) ≡ line (queue_fields at id event frame)
queue_made at id event frame rest h k m n none =
    ap (λ text. codes "queue" ++ ((comma ∷ decimal at) ++ ((comma ∷ decimal id) ++ ((comma ∷ decimal event) ++ ((comma ∷ decimal frame.bits) ++ ((comma ∷ []) ++ (encode_upper (bytes_of frame) ++ (line_feed ∷ [] ++ text)))))))) none
    ∙ eight (codes "queue") (comma ∷ decimal at) (comma ∷ decimal id) (comma ∷ decimal event) (comma ∷ decimal frame.bits) (comma ∷ []) (encode_upper (bytes_of frame)) (line_feed ∷ [])
    ∙ queue_is_line at id event frame h k m n
  where
    eight : (a b c d e f g h : List ℕ) → a ++ (b ++ (c ++ (d ++ (e ++ (f ++ (g ++ (h ++ []))))))) ≡ ((((((a ++ b) ++ c) ++ d) ++ e) ++ f) ++ g) ++ h
    eight a b c d e f g h = simp (append_assoc, append-nil) refl

pub digits_are_few : (n : ℕ) → n < 2 ^ 64 → length (decimal n) ≤ 20
digits_are_few n h = length-decimal-le 20 n (omega arith) (omega arith) (omega (arith, h))

-- the names of the fields
pub header_is_line : codes "kind,moment,id,event,bits,data\n" ≡ line header
unfolding line fields_text is_blank escaped
header_is_line = refl
