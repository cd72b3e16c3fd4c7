-- Fields that a writer of records writes without quotes.
use Rattle.std.proofs.Common.{◌≡◌, ℕ, ◌<◌, ◌^◌, ◌==◌, ◌||◌, Bool, false, subst, List, [], ◌∷◌, refl, arith, decimal}
use Rattle.std.specs.Char.{digit_value}
use Rattle.std.specs.Str.Parse.{AllDigits}
use Rattle.std.proofs.lemmas.Bool.{ne_eqb}
use Rattle.std.proofs.lemmas.Fmt.{decimal_is_IsNumeral_wide}
use Rattle.csv.specs.Writing.{needs_byte, needs_quotes, default_writer}

abbrev pub IsPlain : List ℕ → Type 0
IsPlain field = needs_quotes default_writer field ≡ false

pub both_no : (a b : Bool) → a ≡ false → b ≡ false → (a || b) ≡ false
both_no a b h k = rw (h, k) refl

digit_is_plain : (d : ℕ) → digit_value d < 10 → needs_byte default_writer d ≡ false
digit_is_plain d h =
    let comma_no : (d == 44) ≡ false = ne_eqb d 44 (λ e. (let f : digit_value 44 < 10 = subst (λ x. digit_value x < 10) e h in absurd (omega (arith, f)))) in
    let quote_no : (d == 34) ≡ false = ne_eqb d 34 (λ e. (let f : digit_value 34 < 10 = subst (λ x. digit_value x < 10) e h in absurd (omega (arith, f)))) in
    let return_no : (d == 13) ≡ false = ne_eqb d 13 (λ e. (let f : digit_value 13 < 10 = subst (λ x. digit_value x < 10) e h in absurd (omega (arith, f)))) in
    let feed_no : (d == 10) ≡ false = ne_eqb d 10 (λ e. (let f : digit_value 10 < 10 = subst (λ x. digit_value x < 10) e h in absurd (omega (arith, f)))) in
    rw (comma_no, quote_no, return_no, feed_no) refl

digits_are_plain : (ds : List ℕ) → AllDigits 10 ds → IsPlain ds
digits_are_plain [] h = refl
digits_are_plain (d ∷ ds) h = both_no (needs_byte default_writer d) (needs_quotes default_writer ds) (digit_is_plain d h.0) (digits_are_plain ds h.1)

pub decimal_is_plain : (n : ℕ) → n < 10 ^ 64 → IsPlain (decimal n)
decimal_is_plain n h = digits_are_plain (decimal n) (decimal_is_IsNumeral_wide n h).0.1
