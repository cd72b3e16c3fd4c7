-- A line that was written is read again.
use Rattle.std.proofs.Common.{◌≡◌, ℕ, ◌+◌, ◌-◌, ◌*◌, ◌/◌, ◌%◌, ◌<◌, ◌≤◌, List, [], ◌∷◌, ◌++◌, length, take, drop, slice_index, true, false, refl, sym, ◌∙◌, ap, arith, append_assoc, length-append, length-drop, zero, suc, append-nil, Option, Some, None}
use Rattle.std.specs.Prelude.{nat_lt, nat_eq, option_to_list, replicate}
use Rattle.std.proofs.lemmas.Bool.{ne_eqb}
use Rattle.std.proofs.lemmas.List.{length-take-le, take_all, drop_all, length-replicate, get_or-replicate, get_or-drop, ext_get_or, take-append-drop}
use Rattle.hex.specs.Hex.{encode_with, encode_upper, upper_digits, hex_digit_value, IsBytes}
use Rattle.hex.proofs.HexLemmas.{length-encode_with, IsDigits-upper_digits, decode_of-encode_upper}
use Rattle.cop_frame.specs.declared.frames.Frame.{Frame}
use Rattle.cop_frame.specs.Frame.{data_of}
use Rattle.cop_sdo.specs.Message.{message_of}
use Rattle.cop_slcan.specs.Lines.{digit, head_of, text_of, line_of}
use Rattle.cop_slcan.specs.Meaning.{Told, Heard, meaning, id_in, len_in, framed}
use Rattle.cop_slcan.specs.Reading.{taken, said_from, said}

-- a byte that ends no line
abbrev pub IsPlain : ℕ → Type 0
IsPlain b = (nat_eq b 13 ≡ false) × (nat_eq b 7 ≡ false) × (nat_eq b 10 ≡ false)

abbrev pub ArePlain : List ℕ → Type 0
ArePlain [] = Unit {0}
ArePlain (b ∷ rest) = IsPlain b × ArePlain rest

pub taken_plain : (pending : List ℕ) (b : ℕ) → IsPlain b → length pending < 32 → taken pending b ≡ (pending ++ b ∷ [], None)
taken_plain pending b plain room =
    let more : nat_lt (length pending) 32 ≡ true = grind (arith) in
    rw (plain.0, plain.1, plain.2, more) refl

pub plain_said : (pending text rest : List ℕ) → ArePlain text → length pending + length text ≤ 32 → said_from pending (text ++ 13 ∷ rest) ≡ meaning (pending ++ text) ∷ said rest
plain_said pending [] rest plain room = ap (λ l. meaning l ∷ said rest) (sym (append-nil pending))
plain_said pending (b ∷ text) rest plain room =
    let t = taken_plain pending b plain.0 (omega (arith, room)) in
    let l = length-append pending (b ∷ []) in
    ap (λ (p : List ℕ × Option Told). option_to_list p.1 ++ said_from p.0 (text ++ 13 ∷ rest)) t
    ∙ plain_said (pending ++ b ∷ []) text rest plain.1 (omega (arith, l, room))
    ∙ ap (λ x. meaning x ∷ said rest) (append_assoc pending (b ∷ []) text)

-- a digit ends no line
pub digit_plain : (d : ℕ) → d < 16 → IsPlain (digit d)
digit_plain d low =
    let reads : hex_digit_value (digit d) ≡ Some d = IsDigits-upper_digits d low in
    (ne_eqb (digit d) 13 (λ e. let h : hex_digit_value 13 ≡ Some d = rw e at reads in cc h), ne_eqb (digit d) 7 (λ e. let h : hex_digit_value 7 ≡ Some d = rw e at reads in cc h), ne_eqb (digit d) 10 (λ e. let h : hex_digit_value 10 ≡ Some d = rw e at reads in cc h))

pub digits_plain : (bytes : List ℕ) → IsBytes bytes → ArePlain (encode_upper bytes)
unfolding encode_with
digits_plain [] h = tt
digits_plain (b ∷ rest) h =
    let fits : b < 256 = h 0 in
    (digit_plain (b / 16) (omega arith), (digit_plain (b % 16) (omega arith), digits_plain rest (λ k. h (suc k))))

not_below : (a b : ℕ) → b ≤ a → nat_lt a b ≡ false
not_below a b h = grind (arith)

-- the digits of an identifier
pub id_read : (id : ℕ) → id < 2048 → id_in (digit (id / 256)) (digit (id / 16 % 16)) (digit (id % 16)) ≡ Some id
id_read id low =
    let a : hex_digit_value (digit (id / 256)) ≡ Some (id / 256) = IsDigits-upper_digits (id / 256) (omega arith) in
    let b : hex_digit_value (digit (id / 16 % 16)) ≡ Some (id / 16 % 16) = IsDigits-upper_digits (id / 16 % 16) (omega arith) in
    let c : hex_digit_value (digit (id % 16)) ≡ Some (id % 16) = IsDigits-upper_digits (id % 16) (omega arith) in
    let small : nat_lt (id / 256) 8 ≡ true = (let q : id / 256 < 8 = omega arith in grind (arith)) in
    let whole : id / 256 * 256 + id / 16 % 16 * 16 + id % 16 ≡ id = omega arith in
    rw (a, b, c, small) (ap Some whole)

-- the digit of a length
pub len_read : (len : ℕ) → len ≤ 8 → len_in (digit len) ≡ Some len
len_read zero h = refl
len_read (suc zero) h = refl
len_read (suc (suc zero)) h = refl
len_read (suc (suc (suc zero))) h = refl
len_read (suc (suc (suc (suc zero)))) h = refl
len_read (suc (suc (suc (suc (suc zero))))) h = refl
len_read (suc (suc (suc (suc (suc (suc zero)))))) h = refl
len_read (suc (suc (suc (suc (suc (suc (suc zero))))))) h = refl
len_read (suc (suc (suc (suc (suc (suc (suc (suc zero)))))))) h = refl
len_read (suc (suc (suc (suc (suc (suc (suc (suc (suc n))))))))) h = absurd (omega arith)

-- what is behind the length of a body is zeros
pub body_read : (body : List ℕ) (len : ℕ) → length body ≡ 8 → len ≤ 8 → ((k : ℕ) → len ≤ k → slice_index body k ≡ 0) → take len body ++ replicate (8 - length (take len body)) 0 ≡ body
body_read body len eight small zeros =
    let count : length (take len body) ≡ len = length-take-le len body (omega (arith, eight, small)) in
    let behind : replicate (8 - len) 0 ≡ drop len body = ext_get_or 0 (replicate (8 - len) 0) (drop len body)
    (let l = length-drop len body in let nought : ℕ = 0 in let r : length (replicate (8 - len) nought) ≡ 8 - len = length-replicate (8 - len) nought in omega (arith, l, r, eight))
    (λ i low. get_or-replicate (8 - len) i 0 0 (let nought : ℕ = 0 in let r : length (replicate (8 - len) nought) ≡ 8 - len = length-replicate (8 - len) nought in omega (arith, r, low)) ∙ sym (get_or-drop len body i 0 ∙ zeros (len + i) (omega arith))) in
    ap (λ n. take len body ++ replicate (8 - n) 0) count ∙ ap (λ z. take len body ++ z) behind ∙ take-append-drop len body

pub framed_again : (frame : Frame) → length frame.body ≡ 8 → IsBytes (data_of frame) → framed frame.id frame.len (encode_upper (data_of frame)) ≡ Some (message_of frame)
framed_again frame eight bytes =
    let text = encode_upper (data_of frame) in
    let few : frame.len ≤ 8 = frame.len_in_range in
    let count : length (data_of frame) ≡ frame.len = length-take-le frame.len frame.body (omega (arith, eight, few)) in
    let l = length-encode_with upper_digits (data_of frame) in
    let twice : length (encode_upper (data_of frame)) ≡ frame.len * 2 = omega (arith, l, count) in
    let far : nat_lt (length (encode_upper (data_of frame))) (frame.len * 2) ≡ false = grind (arith) in
    let none : drop (frame.len * 2) (encode_upper (data_of frame)) ≡ [] = drop_all (frame.len * 2) (encode_upper (data_of frame)) (omega (arith, twice)) in
    let all : take (frame.len * 2) (encode_upper (data_of frame)) ≡ encode_upper (data_of frame) = take_all (frame.len * 2) (encode_upper (data_of frame)) (omega (arith, twice)) in
    let decoded = decode_of-encode_upper (data_of frame) bytes in
    rw (far, none, all, decoded) (ap (λ b. Some (record { id = frame.id; body = b; len = frame.len })) (body_read frame.body frame.len eight few frame.zero_past_len))

pub meant_again : (frame : Frame) → length frame.body ≡ 8 → IsBytes (data_of frame) → meaning (text_of (message_of frame)) ≡ Heard (message_of frame)
unfolding meaning
meant_again frame eight bytes =
    let a = id_read frame.id frame.id_in_range in
    let b = len_read frame.len frame.len_in_range in
    let c = framed_again frame eight bytes in
    let n : length (text_of (message_of frame)) ≡ 5 + length (encode_upper (data_of frame)) = length-append (head_of (message_of frame)) (encode_upper (data_of frame)) in
    let m : 5 ≤ length (text_of (message_of frame)) = omega (arith, n) in
    let long : nat_lt (length (text_of (message_of frame))) 5 ≡ false = not_below (length (text_of (message_of frame))) 5 m in
    rw (long, a, b, c) refl

pub read_again : (frame : Frame) → length frame.body ≡ 8 → IsBytes (data_of frame) → (rest : List ℕ) → said (line_of (message_of frame) ++ rest) ≡ Heard (message_of frame) ∷ said rest
read_again frame eight bytes rest =
    let few : frame.len ≤ 8 = frame.len_in_range in
    let low : frame.id < 2048 = frame.id_in_range in
    let count : length (data_of frame) ≡ frame.len = length-take-le frame.len frame.body (omega (arith, eight, few)) in
    let l = length-encode_with upper_digits (data_of frame) in
    let plain : ArePlain (text_of (message_of frame)) = ((refl, refl, refl), (digit_plain (frame.id / 256) (omega (arith, low)), (digit_plain (frame.id / 16 % 16) (omega arith), (digit_plain (frame.id % 16) (omega arith), (digit_plain frame.len (omega (arith, few)), digits_plain (data_of frame) bytes))))) in
    ap said (append_assoc (text_of (message_of frame)) (13 ∷ []) rest)
    ∙ plain_said [] (text_of (message_of frame)) rest plain (omega (arith, l, count, few))
    ∙ ap (λ t. t ∷ said rest) (meant_again frame eight bytes)
