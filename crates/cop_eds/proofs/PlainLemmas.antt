-- A line that begins with a key and an equals sign.
use Rattle.std.proofs.Common.{◌≡◌, ℕ, suc, ◌+◌, ◌^◌, ◌<◌, ◌==◌, Bool, true, false, cond, not, ◌&&◌, ◌||◌, List, [], ◌∷◌, ◌++◌, length, take, drop, reverse, refl, sym, ap, subst, ◌∙◌, arith, decimal}
use Rattle.std.specs.List.{list_all, position_or_len}
use Rattle.std.specs.Char.{digit_value}
use Rattle.std.specs.Str.Parse.{AllDigits}
use mathlib.Core.List.{reverse-cons}
use Rattle.std.proofs.lemmas.List.{reverse-reverse}
use Rattle.std.proofs.lemmas.List.Folds.{list_all-append}
use Rattle.std.proofs.lemmas.Bool.{ne_eqb}
use Rattle.std.proofs.lemmas.Fmt.{decimal_is_IsNumeral}
use Rattle.cop_eds.specs.Text.{is_blank, trim_start, trim, key_of, value_of}
use Rattle.cop_eds.specs.Plain.{is_inner, is_plain}

both : (x y : Bool) → (x && y) ≡ true → (x ≡ true) × (y ≡ true)
both true true e = (refl, refl)
both true false e = cc
both false y e = cc

step : (x y rest : Bool) (n m : ℕ) → (not (x || y) && rest) ≡ true → (rest ≡ true → n ≡ m) → cond (not x) (1 + n) 0 ≡ 1 + m
step true y rest n m p later = cc
step false true rest n m p later = cc
step false false rest n m p later = ap (λ k. 1 + k) (later p)

place_is : (key rest : List ℕ) → is_plain key ≡ true → position_or_len (λ b. b == 61) (key ++ 61 ∷ rest) ≡ length key
place_is [] rest p = refl
place_is (b ∷ bs) rest p =
    let more : 1 + length bs ≡ length (b ∷ bs) = omega arith in
    step (b == 61) (is_blank b) (is_plain bs) (position_or_len (λ c. c == 61) (bs ++ 61 ∷ rest)) (length bs) p (place_is bs rest) ∙ more

-- without blanks nothing is trimmed

kept : (x y rest : Bool) (cs bs : List ℕ) → (not (x || y) && rest) ≡ true → cond y cs bs ≡ bs
kept true y rest cs bs p = cc
kept false true rest cs bs p = cc
kept false false rest cs bs p = refl

front : (xs : List ℕ) → is_plain xs ≡ true → trim_start xs ≡ xs
front [] p = refl
front (b ∷ bs) p = kept (b == 61) (is_blank b) (is_plain bs) (trim_start bs) (b ∷ bs) p

turned : (xs : List ℕ) → is_plain xs ≡ true → is_plain (reverse xs) ≡ true
turned [] p = refl
turned (b ∷ bs) p =
    let parts = both (is_inner b) (is_plain bs) p in
    ap is_plain (reverse-cons b bs) ∙ list_all-append is_inner (reverse bs) (b ∷ []) ∙ rw (turned bs parts.1, parts.0) refl

trim_plain : (xs : List ℕ) → is_plain xs ≡ true → trim xs ≡ xs
trim_plain xs p =
    ap (λ ys. reverse (trim_start (reverse ys))) (front xs p) ∙ ap reverse (front (reverse xs) (turned xs p)) ∙ reverse-reverse xs

-- the two sides of the sign

head : (key ys : List ℕ) → take (length key) (key ++ ys) ≡ key
head [] ys = refl
head (b ∷ bs) ys = ap (λ zs. b ∷ zs) (head bs ys)

past : (key rest : List ℕ) → drop (length key + 1) (key ++ 61 ∷ rest) ≡ rest
past [] rest = refl
past (b ∷ bs) rest =
    let more : length (b ∷ bs) + 1 ≡ suc (length bs + 1) = omega arith in
    ap (λ n. drop n (b ∷ (bs ++ 61 ∷ rest))) more ∙ past bs rest

pub both_sides : (line key rest : List ℕ) → is_plain key ≡ true → line ≡ key ++ 61 ∷ rest → (key_of line ≡ key) × (value_of line ≡ trim rest)
both_sides line key rest p is =
    let place : position_or_len (λ b. b == 61) line ≡ length key = ap (position_or_len (λ b. b == 61)) is ∙ place_is key rest p in (
      ap trim (ap (λ n. take n line) place ∙ ap (take (length key)) is ∙ head key (61 ∷ rest)) ∙ trim_plain key p,
      ap trim (ap (λ n. drop (n + 1) line) place ∙ ap (drop (length key + 1)) is ∙ past key rest),
    )

-- numbers are plain keys

digits_plain : (ds : List ℕ) → AllDigits 10 ds → is_plain ds ≡ true
digits_plain [] h = refl
digits_plain (d ∷ ds) h =
    let sign_no : (d == 61) ≡ false = ne_eqb d 61 (λ e. (let f : digit_value 61 < 10 = subst (λ x. digit_value x < 10) e h.0 in absurd (omega (arith, f)))) in
    let space_no : (d == 32) ≡ false = ne_eqb d 32 (λ e. (let f : digit_value 32 < 10 = subst (λ x. digit_value x < 10) e h.0 in absurd (omega (arith, f)))) in
    let tab_no : (d == 9) ≡ false = ne_eqb d 9 (λ e. (let f : digit_value 9 < 10 = subst (λ x. digit_value x < 10) e h.0 in absurd (omega (arith, f)))) in
    rw (sign_no, space_no, tab_no) (digits_plain ds h.1)

pub decimal_plain : (n : ℕ) → n < 2 ^ 64 → is_plain (decimal n) ≡ true
decimal_plain n h = digits_plain (decimal n) (decimal_is_IsNumeral n h).0.1
