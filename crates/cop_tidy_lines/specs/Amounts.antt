-- Values and limits as makers write them: numbers with a sign, and sums with the node's number.
use Rattle.std.specs.Prelude.{ℕ, ◌+◌, ◌%◌, ◌^◌, Bool, true, false, not, ◌||◌, ◌&&◌, ◌==◌, nat_lt, List, [], ◌∷◌, length, filter, codes, if◌then◌else◌, Option, Result, Ok, Err}
use Rattle.std.specs.List.{list_any, slice_split}
use Rattle.cop_eds.specs.declared.fault.Rule.{Rule}
use Rattle.cop_eds.specs.declared.amount.Amount.{Amount}
use Rattle.cop_eds.specs.declared.amount.Amount.TheVariants as amounts
use Rattle.cop_eds.specs.Text.{trim, same_name}
use Rattle.cop_eds.specs.Number.{is_numeral}
use Rattle.cop_eds.specs.Amount.{amount_of}
use Rattle.cop_tidy_lines.specs.declared.choices.Digits.{Digits}
use Rattle.cop_tidy_lines.specs.declared.numerals.Unclear.{Unclear}
use Rattle.cop_tidy_lines.specs.declared.numerals.Unclear.TheVariants.{NoNumber, OctalOrDecimal}
use Rattle.cop_tidy_lines.specs.declared.amounts.Sum.{Sum}
use Rattle.cop_tidy_lines.specs.Numerals.{is_signed, is_negative, plain, magnitude}

-- digits that a mark says to be of another base than ten are a pattern
abbrev pub with_sign : Bool → Bool → ℕ → Amount
with_sign negative decimal n = if negative then amounts.Negative n else if decimal then amounts.Decimal n else amounts.Hexadecimal n

-- a number that was read, with its sign
abbrev pub signed_amount : Bool → Bool → Result ℕ Unclear → Result Amount Unclear
signed_amount negative decimal (Ok n) = Ok (with_sign negative decimal n)
signed_amount negative decimal (Err unclear) = Err unclear

-- a number, with or without a sign
abbrev pub signed_number : Option Digits → List ℕ → Result Amount Unclear
signed_number choice text = signed_amount (is_negative text) (is_numeral 10 (plain text)) (magnitude choice text)

-- ---- sums with the node's number

-- the node's number: $NODEID in CiA 306, and words that makers write in its place
abbrev pub is_node_word : List ℕ → Bool
is_node_word text =
    ((same_name text (codes "$NODEID") || same_name text (codes "$NODE_ID")) || (same_name text (codes "$NODE-ID") || same_name text (codes "NODEID")))
    || ((same_name text (codes "NODE_ID") || same_name text (codes "NODE-ID")) || (same_name text (codes "NODE") || same_name text (codes "%NODEID%")))

-- brackets may stand round a sum
abbrev pub is_bracket : ℕ → Bool
is_bracket b = ((b == 40) || (b == 41)) || ((b == 123) || (b == 125))

-- a text without brackets
unfoldable pub unbracketed : List ℕ → List ℕ
unbracketed text = filter (λ b. not (is_bracket b)) text

-- a plus or a bar stands between the terms of a sum
abbrev pub is_between : ℕ → Bool
is_between b = (b == 43) || (b == 124)

-- the terms of a sum
abbrev pub terms : List ℕ → List (List ℕ)
terms text = slice_split is_between text

-- a term that is a number
abbrev pub term_number : Option Digits → List ℕ → Result ℕ Unclear
term_number choice term = if is_signed term then Err NoNumber else magnitude choice term

-- the sum with the node's number once; it stands there once at most (CiA 306)
abbrev pub with_node : Sum → Result Sum Unclear
with_node sum = if sum.has_node then Err NoNumber else Ok (record sum { has_node = true })

-- the sum with a number more, where 64 bits hold it
abbrev pub with_number : Sum → Result ℕ Unclear → Result Sum Unclear
with_number sum (Err unclear) = Err unclear
with_number sum (Ok n) = if nat_lt (sum.total + n) (2 ^ 64) then Ok (record sum { total = sum.total + n }) else Err NoNumber

-- the sum with a term more: the node's number or a number
abbrev pub with_term : Option Digits → Sum → List ℕ → Result Sum Unclear
with_term choice sum term = if is_node_word (trim term) then with_node sum else with_number sum (term_number choice (trim term))

-- the sum of all terms, which have the node's number once
abbrev pub sum_from : Option Digits → Result Sum Unclear → List (List ℕ) → Result ℕ Unclear
sum_from choice (Err unclear) terms = Err unclear
sum_from choice (Ok sum) [] = if sum.has_node then Ok sum.total else Err NoNumber
sum_from choice (Ok sum) (term ∷ rest) = sum_from choice (with_term choice sum term) rest

-- bits that a bar sets are added where the number has none below the eighth and stands there with the node's number alone
abbrev pub adds_by_bar : ℕ → List ℕ → Bool
adds_by_bar n sum = not (list_any (λ b. b == 124) sum) || ((length (terms sum) == 2) && (n % 128 == 0))

-- a sum of the node's number and a number (CiA 306: $NODEID+number)
abbrev pub plus_node : List ℕ → Result ℕ Unclear → Result Amount Unclear
plus_node sum (Err unclear) = Err unclear
plus_node sum (Ok n) = if adds_by_bar n sum then Ok (amounts.PlusNode n) else Err NoNumber

-- the sum that a text without brackets is
abbrev pub sum_meant : Option Digits → List ℕ → Result Amount Unclear
sum_meant choice sum = plus_node sum (sum_from choice (Ok (record { has_node = false; total = 0 })) (terms sum))

-- what is no number may be a sum
abbrev pub or_sum : Result Amount Unclear → Result Amount Unclear → Result Amount Unclear
or_sum (Ok amount) sum = Ok amount
or_sum (Err OctalOrDecimal) sum = Err OctalOrDecimal
or_sum (Err NoNumber) sum = sum

-- what is read as CiA 306 says, else another reading
abbrev pub amount_or : Result Amount Rule → Result Amount Unclear → Result Amount Unclear
amount_or (Ok amount) other = Ok amount
amount_or (Err rule) other = other

-- the amount that a text is by CiA 306, else a number or a sum in another spelling
unfoldable pub amount_meant : Option Digits → List ℕ → Result Amount Unclear
amount_meant choice text = amount_or (amount_of text) (or_sum (signed_number choice text) (sum_meant choice (unbracketed text)))

-- words for no value
abbrev pub is_no_value : List ℕ → Bool
is_no_value text =
    ((same_name text (codes "n/a") || same_name text (codes "na")) || (same_name text (codes "none") || same_name text (codes "null")))
    || (same_name text (codes "-") || (same_name text (codes "--") || same_name text (codes "---")))
