-- What is written is read again.
use Rattle.std.proofs.Common.{◌≡◌, ℕ, ◌+◌, ◌-◌, ◌<◌, ◌^◌, Bool, true, false, ◌&&◌, ◌==◌, subst, List, [], ◌∷◌, ◌++◌, length, All, map, replicate, Ok, Err, Some, codes, decimal, refl, sym, ap, ◌∙◌, arith, append-nil, append_assoc, nat_lt, nat_le, cond, zero, suc, lit<}
use Rattle.std.specs.Char.{is_digit, digit_value}
use Rattle.std.specs.List.{list_all}
use Rattle.std.specs.Str.Parse.{digits_value, AllDigits}
use Rattle.std.proofs.lemmas.Bool.{le-leb, lt-ltb, ne_eqb}
use Rattle.std.proofs.lemmas.Fmt.{decimal_is_IsNumeral, length-decimal-le}
use Rattle.std.proofs.lemmas.List.Elements.{All-head, All-tail, All-take}
use Rattle.std.proofs.lemmas.List.{length-take-le, take-append-drop}
use Rattle.hex.specs.Hex.{IsBytes, encode_upper, upper_digits, decode_of}
use Rattle.hex.proofs.HexLemmas.{decode_of-encode_upper, length-encode_with}
use Rattle.cop_table.specs.Numbers.{number_of, is_hexadecimal}
use Rattle.cop_bus.specs.Format.{fields_of, bytes_of, short, queue_fields, text_of}
use Rattle.cop_bus.specs.Entries.{entry_in, id_number, content_in, content_of, with_bytes}
use Rattle.cop_bus.specs.declared.entries.EntryFault.TheVariants.{Malformed}
use Rattle.cop_bus.specs.Reading.{IsWritable, IsWritableFrame, AreWritable, trace_from, trace_of}
use Rattle.cop_bus.specs.declared.steps.Step.{Step}
use Rattle.cop_bus.specs.declared.steps.Content.{Content}
use Rattle.cop_bus.specs.declared.steps.Step.TheVariants.{Queue, Start, End}
use Rattle.cop_bus.specs.declared.entries.Entry.TheVariants.{Taken, Until}
use Rattle.cop_bus.proofs.CsvLemmas.{text_read}

all_digits : (ds : List ℕ) → AllDigits 10 ds → list_all (λ c. is_digit c 10) ds ≡ true
all_digits [] h = refl
all_digits (d ∷ ds) h = let one : is_digit d 10 ≡ true = lt-ltb (digit_value d) 10 h.0 in rw (one, all_digits ds h.1) refl

and_no : (a b : Bool) → b ≡ false → (a && b) ≡ false
and_no true b e = e
and_no false b e = refl

number_decimal : (n : ℕ) → n < 2 ^ 64 → number_of 20 (decimal n) ≡ Some n
number_decimal n h =
    let d = decimal_is_IsNumeral n h in
    let value : digits_value 10 (decimal n) ≡ n = d.1 in
    let short : nat_le (length (decimal n)) 20 ≡ true = le-leb (length (decimal n)) 20 (length-decimal-le 20 n (omega arith) (omega arith) h) in
    let some : nat_lt 0 (length (decimal n)) ≡ true = lt-ltb 0 (length (decimal n)) d.0.0 in
    let fits : nat_lt (digits_value 10 (decimal n)) (2 ^ 64) ≡ true = lt-ltb (digits_value 10 (decimal n)) (2 ^ 64) (rw value h) in
    rw (short, some, all_digits (decimal n) d.0.1, fits, value) refl

-- decimal digits do not begin with 0x
not_hexadecimal : (ds : List ℕ) → AllDigits 10 ds → is_hexadecimal ds ≡ false
not_hexadecimal [] h = refl
not_hexadecimal (a ∷ []) h = ap (λ v. v) (and_no (a == 48) false refl)
not_hexadecimal (a ∷ b ∷ ds) h = and_no (a == 48) (b == 120) (ne_eqb b 120 (λ e. (let f : digit_value 120 < 10 = subst (λ x. digit_value x < 10) e h.1.0 in absurd (omega (arith, f)))))

id_decimal : (n : ℕ) → n < 2 ^ 64 → id_number (decimal n) ≡ Ok n
id_decimal n h =
    let d = decimal_is_IsNumeral n h in
    rw (not_hexadecimal (decimal n) d.0.1, number_decimal n h) refl

are_bytes : (xs : List ℕ) → All (λ b. b < 256) xs → IsBytes xs
are_bytes [] h i = lit< tt
are_bytes (x ∷ xs) h zero = All-head (λ b. b < 256) x xs h
are_bytes (x ∷ xs) h (suc i) = are_bytes xs (All-tail (λ b. b < 256) x xs h) i

-- a frame's data
frame_read : (frame : Content) → IsWritableFrame frame → content_in frame.bits (encode_upper (bytes_of frame)) ≡ Ok frame
frame_read frame h =
    let count : length (bytes_of frame) ≡ frame.len = length-take-le frame.len frame.body (omega (arith, h.len, h.all)) in
    let twice = length-encode_with upper_digits (bytes_of frame) in
    let short : nat_le (length (encode_upper (bytes_of frame))) 16 ≡ true = le-leb (length (encode_upper (bytes_of frame))) 16 (omega (arith, count, twice, h.len)) in
    let bytes = decode_of-encode_upper (bytes_of frame) (are_bytes (bytes_of frame) (All-take (λ b. b < 256) frame.len frame.body h.bytes)) in
    let body : bytes_of frame ++ replicate (8 - length (bytes_of frame)) 0 ≡ frame.body =
    ap (λ n. bytes_of frame ++ replicate (8 - n) 0) count ∙ ap (λ r. bytes_of frame ++ r) (sym h.rest) ∙ take-append-drop frame.len frame.body in
    let same : content_of frame.bits (bytes_of frame) ≡ frame = ap (λ b. record { bits = frame.bits; body = b; len = length (bytes_of frame) }) body ∙ ap (λ n. record { bits = frame.bits; body = frame.body; len = n }) count in
    ap (λ b. cond b (with_bytes frame.bits (decode_of (encode_upper (bytes_of frame)))) (Err Malformed)) short ∙ ap (with_bytes frame.bits) bytes ∙ ap Ok same

-- a record of each kind
start_read : (at id : ℕ) → at < 2 ^ 64 → id < 2 ^ 16 → entry_in (short (codes "start") at id) ≡ Ok (Taken (Start id at))
unfolding entry_in
start_read at id h k =
    let small : nat_lt id (2 ^ 16) ≡ true = lt-ltb id (2 ^ 16) k in
    rw (number_decimal at h, id_decimal id (omega arith), small) refl

end_read : (at id : ℕ) → at < 2 ^ 64 → id < 2 ^ 16 → entry_in (short (codes "end") at id) ≡ Ok (Taken (End id at))
unfolding entry_in
end_read at id h k =
    let small : nat_lt id (2 ^ 16) ≡ true = lt-ltb id (2 ^ 16) k in
    rw (number_decimal at h, id_decimal id (omega arith), small) refl

until_read : (until : ℕ) → until < 2 ^ 64 → entry_in (short (codes "until") until 0) ≡ Ok (Until until)
unfolding entry_in
until_read until h = rw (number_decimal until h, id_decimal 0 (omega arith)) refl

queue_read : (at id event : ℕ) (frame : Content) → at < 2 ^ 64 → id < 2 ^ 16 → event < 2 ^ 64 → IsWritableFrame frame → entry_in (queue_fields at id event frame) ≡ Ok (Taken (Queue id at event frame))
unfolding entry_in
queue_read at id event frame h k m w =
    let small : nat_lt id (2 ^ 16) ≡ true = lt-ltb id (2 ^ 16) k in
    let bits : nat_lt frame.bits (2 ^ 32) ≡ true = lt-ltb frame.bits (2 ^ 32) w.bits in
    rw (number_decimal at h, id_decimal id (omega arith), small, number_decimal event m, number_decimal frame.bits (omega (arith, w.bits)), bits, frame_read frame w) refl

step_read : (step : Step) → IsWritable step → entry_in (fields_of step) ≡ Ok (Taken step)
step_read (Queue id at event frame) h = queue_read at id event frame h.0 h.1 h.2 h.3
step_read (Start id at) h = start_read at id h.0 h.1
step_read (End id at) h = end_read at id h.0 h.1

steps_read : (until place : ℕ) (before steps : List Step) → until < 2 ^ 64 → All IsWritable steps →
    trace_from place before (map fields_of steps ++ (short (codes "until") until 0 ∷ [])) ≡ Ok (record { until = until; steps = before ++ steps })
unfolding trace_from
steps_read until place before [] h k = rw (until_read until h, append-nil before) refl
steps_read until place before (step ∷ steps) h k =
    rw (step_read step (All-head IsWritable step steps k)) (rw append_assoc at (steps_read until (place + 1) (before ++ step ∷ []) steps h (All-tail IsWritable step steps k)))

-- the text of a trace reads as this
pub written_is_read : (until : ℕ) (steps : List Step) → AreWritable until steps → trace_of (text_of until steps) ≡ Ok (record { until = until; steps = steps })
unfolding trace_of
written_is_read until steps h = rw (text_read until steps) (steps_read until 0 [] steps h.end h.each)
