-- Numbers as makers write them.
use Rattle.std.specs.Prelude.{ℕ, ◌-◌, Bool, true, false, not, ◌||◌, ◌&&◌, ◌==◌, is_some, List, length, take, drop, slice_index, filter, codes, if◌then◌else◌, Option, Some, None, Result, Ok, Err}
use Rattle.std.specs.List.{list_all, before_first, after_first}
use Rattle.std.specs.Str.{bytes_eq}
use Rattle.cop_eds.specs.declared.fault.Rule.{Rule}
use Rattle.cop_eds.specs.Text.{is_blank, trim, trim_start, same_name}
use Rattle.cop_eds.specs.Number.{is_hexadecimal, is_numeral, number_in, number_of}
use Rattle.cop_tidy_lines.specs.declared.choices.Digits.{Digits}
use Rattle.cop_tidy_lines.specs.declared.choices.Digits.TheVariants.{Octal, Decimal}
use Rattle.cop_tidy_lines.specs.declared.numerals.Unclear.{Unclear}
use Rattle.cop_tidy_lines.specs.declared.numerals.Unclear.TheVariants.{NoNumber, OctalOrDecimal}

-- a minus or a plus stands in front
abbrev pub is_signed : List ℕ → Bool
is_signed text = (slice_index text 0 == 45) || (slice_index text 0 == 43)

-- without a sign in front, and blanks behind it
abbrev pub without_sign : List ℕ → List ℕ
without_sign text = if is_signed text then trim_start (drop 1 text) else text

-- a minus stands in front
abbrev pub is_negative : List ℕ → Bool
is_negative text = slice_index (trim text) 0 == 45

-- the letter U or L, as programs write it behind a number
abbrev pub is_suffix : ℕ → Bool
is_suffix b = ((b == 117) || (b == 85)) || ((b == 108) || (b == 76))

-- without one such letter at the end
abbrev pub without_suffix : List ℕ → List ℕ
without_suffix text = if is_suffix (slice_index text (length text - 1)) then take (length text - 1) text else text

-- one zero or two
abbrev pub are_few_zeros : List ℕ → Bool
are_few_zeros text = ((length text == 1) || (length text == 2)) && list_all (λ b. b == 48) text

-- without a point and one or two zeros behind it; three of them may be thousands
abbrev pub without_zeros : List ℕ → List ℕ
without_zeros text = if are_few_zeros (after_first (λ b. b == 46) text) then before_first (λ b. b == 46) text else text

-- without a sign, up to three such letters, and a point and zeros
abbrev pub plain : List ℕ → List ℕ
plain text = trim (without_zeros (without_suffix (without_suffix (without_suffix (without_sign (trim text))))))

-- the digits of a hexadecimal number: behind 0x, where blanks and underlines may stand among them, behind $ or 16#, or before h
abbrev pub hexadecimal_digits : List ℕ → Option (List ℕ)
hexadecimal_digits text =
    if is_hexadecimal text then Some (filter (λ b. not (is_blank b || (b == 95))) (drop 2 text))
    else if slice_index text 0 == 36 then Some (drop 1 text)
    else if bytes_eq (before_first (λ b. b == 35) text) (codes "16") then Some (after_first (λ b. b == 35) text)
    else if (slice_index text (length text - 1) == 104) || (slice_index text (length text - 1) == 72) then Some (take (length text - 1) text)
    else None

-- a number, where the digits are one
abbrev pub readable : Option ℕ → Result ℕ Unclear
readable None = Err NoNumber
readable (Some n) = Ok n

-- the number of hexadecimal digits, where a text has them
abbrev pub hexadecimal_number : Option (List ℕ) → Result ℕ Unclear
hexadecimal_number None = Err NoNumber
hexadecimal_number (Some digits) = readable (number_in 16 digits)

-- a number that a mark says to be octal, binary or hexadecimal
unfoldable pub marked_number : List ℕ → Result ℕ Unclear
marked_number text =
    if bytes_eq (before_first (λ b. b == 35) text) (codes "8") then readable (number_in 8 (after_first (λ b. b == 35) text))
    else if bytes_eq (before_first (λ b. b == 35) text) (codes "2") then readable (number_in 2 (after_first (λ b. b == 35) text))
    else hexadecimal_number (hexadecimal_digits text)

-- decimal digits that read otherwise as octal
abbrev pub is_octal_too : List ℕ → Bool
is_octal_too digits = (slice_index digits 0 == 48) && is_some (number_in 8 digits)

-- the number on which both readings agree
abbrev pub agreed : Option ℕ → Option ℕ → Result ℕ Unclear
agreed None n = Err OctalOrDecimal
agreed (Some m) None = Err OctalOrDecimal
agreed (Some m) (Some n) = if m == n then Ok n else Err OctalOrDecimal

-- the number that digits are by a choice; without one, that on which both readings agree
abbrev pub chosen_number : Option Digits → List ℕ → Result ℕ Unclear
chosen_number None digits = agreed (number_in 8 digits) (number_in 10 digits)
chosen_number (Some Decimal) digits = readable (number_in 10 digits)
chosen_number (Some Octal) digits = readable (number_in 8 digits)

-- the number that decimal digits are; CiA 306 writes octal numbers with a leading 0, and people do not
abbrev pub decimal_number : Option Digits → List ℕ → Result ℕ Unclear
decimal_number choice digits = if is_octal_too digits then chosen_number choice digits else readable (number_in 10 digits)

-- the number that a text is without its sign
unfoldable pub magnitude : Option Digits → List ℕ → Result ℕ Unclear
magnitude choice text =
    if is_numeral 10 (plain text) then decimal_number choice (plain text) else marked_number (plain text)

-- a number that has no sign in CiA 306
abbrev pub unsigned_number : Option Digits → List ℕ → Result ℕ Unclear
unsigned_number choice text = if is_negative text then Err NoNumber else magnitude choice text

-- what is read as CiA 306 says, else another reading
abbrev pub strict_or : Result ℕ Rule → Result ℕ Unclear → Result ℕ Unclear
strict_or (Ok n) other = Ok n
strict_or (Err rule) other = other

-- the number that a text is by CiA 306, else in another spelling
unfoldable pub number_meant : Option Digits → List ℕ → Result ℕ Unclear
number_meant choice text = strict_or (number_of text) (unsigned_number choice text)

-- a word for true
abbrev pub is_yes : List ℕ → Bool
is_yes text = same_name text (codes "true") || (same_name text (codes "yes") || same_name text (codes "on"))

-- a word for false
abbrev pub is_no : List ℕ → Bool
is_no text = same_name text (codes "false") || (same_name text (codes "no") || same_name text (codes "off"))

-- a number that is not 0 says yes (CiA 306: 0 or 1)
abbrev pub is_set : Result ℕ Unclear → Result Bool Unclear
is_set (Ok n) = Ok (not (n == 0))
is_set (Err unclear) = Err unclear

-- whether a text says yes: by a word, or by a number that is not 0
unfoldable pub flag_meant : Option Digits → List ℕ → Result Bool Unclear
flag_meant choice text = if is_yes text then Ok true else if is_no text then Ok false else is_set (number_meant choice text)
