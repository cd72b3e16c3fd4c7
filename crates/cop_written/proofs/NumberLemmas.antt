-- Numbers that are written are read.
use Rattle.std.proofs.Common.{◌≡◌, ℕ, ◌<◌, ◌≤◌, ◌^◌, true, List, [], ◌∷◌, length, Ok, Some, refl, arith, nat_lt, nat_le, decimal}
use Rattle.std.proofs.lemmas.Bool.{le-leb, lt-ltb}
use Rattle.std.specs.List.{list_all}
use Rattle.std.specs.Char.{is_digit, digit_value}
use Rattle.std.specs.Str.Parse.{digits_value, AllDigits}
use Rattle.std.proofs.lemmas.Fmt.{decimal_is_IsNumeral, length-decimal-le}
use Rattle.cop_table.specs.Numbers.{number_of}
use Rattle.cop_rows.specs.declared.refusals.Column.{Column}
use Rattle.cop_rows.specs.Fields.{number_within}

all_digits : (ds : List ℕ) → AllDigits 10 ds → list_all (λ c. is_digit c 10) ds ≡ true
all_digits [] h = refl
all_digits (d ∷ ds) h = let one : is_digit d 10 ≡ true = lt-ltb (digit_value d) 10 h.0 in rw (one, all_digits ds h.1) refl

number_decimal : (n : ℕ) → n ≤ 60000000 → number_of 10 (decimal n) ≡ Some n
number_decimal n h =
    let small : n < 2 ^ 64 = omega (arith, h) in
    let d = decimal_is_IsNumeral n small in
    let value : digits_value 10 (decimal n) ≡ n = d.1 in
    let short : nat_le (length (decimal n)) 10 ≡ true = le-leb (length (decimal n)) 10 (length-decimal-le 10 n (omega arith) (omega (arith, h)) small) in
    let some : nat_lt 0 (length (decimal n)) ≡ true = lt-ltb 0 (length (decimal n)) d.0.0 in
    let fits : nat_lt (digits_value 10 (decimal n)) (2 ^ 64) ≡ true = lt-ltb (digits_value 10 (decimal n)) (2 ^ 64) (rw value small) in
    rw (short, some, all_digits (decimal n) d.0.1, fits, value) refl

pub within_decimal : (column : Column) (least most n : ℕ) → least ≤ n → n ≤ most → most ≤ 60000000 → number_within column least most (decimal n) ≡ Ok n
within_decimal column least most n low high top = rw (number_decimal n (omega (arith, high, top)), le-leb least n low, le-leb n most high) refl
