-- A record of the format, read.
use Rattle.std.proofs.Common.{◌≡◌, ℕ, ◌<◌, ◌≤◌, ◌^◌, true, List, [], ◌∷◌, length, Ok, Some, refl, arith, lit<, nat_lt, nat_le, decimal}
use Rattle.std.proofs.lemmas.Bool.{le-leb, lt-ltb}
use Rattle.std.specs.List.{list_all}
use Rattle.std.specs.Char.{is_digit, digit_value}
use Rattle.std.specs.Str.Parse.{digits_value, AllDigits}
use Rattle.std.proofs.lemmas.Fmt.{decimal_is_IsNumeral, length-decimal-le}
use Rattle.cop_table.specs.Numbers.{number_of}
use Rattle.cop_frame.specs.declared.rates.Rate.{Rate}
use Rattle.cop_frame.specs.declared.rates.Rate.TheVariants.{Kbit10, Kbit20, Kbit50, Kbit125, Kbit250, Kbit500, Kbit800, Kbit1000}
use Rattle.cop_frame.specs.Rate.{kbits_of}
use Rattle.cop_cert.specs.Format.{fields_of}
use Rattle.cop_cert.specs.Entries.{rate_of, least_number, word_of, is_value_of, is_number_of, entry_in}
use Rattle.cop_cert.specs.declared.entries.Version.{Version}
use Rattle.cop_cert.specs.declared.entries.Version.TheVariants.{First, Second, Third}
use Rattle.cop_cert.specs.declared.entries.Word.{Word}

pub all_digits : (ds : List ℕ) → AllDigits 10 ds → list_all (λ c. is_digit c 10) ds ≡ true
all_digits [] h = refl
all_digits (d ∷ ds) h = let one : is_digit d 10 ≡ true = lt-ltb (digit_value d) 10 h.0 in rw (one, all_digits ds h.1) refl

pub number_decimal : (n : ℕ) → n < 2 ^ 64 → number_of 20 (decimal n) ≡ Some n
number_decimal n h =
    let d = decimal_is_IsNumeral n h in
    let value : digits_value 10 (decimal n) ≡ n = d.1 in
    let short : nat_le (length (decimal n)) 20 ≡ true = le-leb (length (decimal n)) 20 (length-decimal-le 20 n (omega arith) (omega arith) h) in
    let some : nat_lt 0 (length (decimal n)) ≡ true = lt-ltb 0 (length (decimal n)) d.0.0 in
    let fits : nat_lt (digits_value 10 (decimal n)) (2 ^ 64) ≡ true = lt-ltb (digits_value 10 (decimal n)) (2 ^ 64) (rw value h) in
    rw (short, some, all_digits (decimal n) d.0.1, fits, value) refl

pub rate_known : (rate : Rate) → rate_of (kbits_of rate) ≡ Some rate
rate_known Kbit10 = refl
rate_known Kbit20 = refl
rate_known Kbit50 = refl
rate_known Kbit125 = refl
rate_known Kbit250 = refl
rate_known Kbit500 = refl
rate_known Kbit800 = refl
rate_known Kbit1000 = refl

pub rate_small : (rate : Rate) → kbits_of rate < 2 ^ 64
rate_small Kbit10 = lit< tt
rate_small Kbit20 = lit< tt
rate_small Kbit50 = lit< tt
rate_small Kbit125 = lit< tt
rate_small Kbit250 = lit< tt
rate_small Kbit500 = lit< tt
rate_small Kbit800 = lit< tt
rate_small Kbit1000 = lit< tt

pub least_small : (v : Version) → least_number v ≤ 1
least_small First = omega arith
least_small Second = omega arith
least_small Third = omega arith

pub entry_is : (v : Version) (rate : Rate) (number value : ℕ) (what : List ℕ) (word : Word) → least_number v ≤ number → number ≤ 512 → value < 2 ^ 64 → word_of v what ≡ Some word
    → is_value_of word value ≡ true → is_number_of word number ≡ true
    → entry_in v (fields_of rate number what value) ≡ Ok (record { rate = rate; number = number; word = word; value = value })
unfolding entry_in
entry_is v rate number value what word low high fits known good placed =
    rw (
      number_decimal (kbits_of rate) (rate_small rate),
      rate_known rate,
      number_decimal number (omega arith),
      le-leb (least_number v) number low,
      le-leb number 512 high,
      number_decimal value fits,
      known,
      good,
      placed,
    ) refl
