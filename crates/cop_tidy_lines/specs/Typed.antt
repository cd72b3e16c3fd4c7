-- Values and limits in a data type (CiA 301, "Data type entry usage").
use Rattle.std.specs.Prelude.{ℕ, ◌+◌, ◌-◌, ◌*◌, ◌/◌, ◌%◌, ◌^◌, Bool, true, false, not, ◌||◌, ◌&&◌, ◌==◌, nat_lt, nat_le, is_some, if◌then◌else◌, Option, Some, None}
use Rattle.std.specs.Option.{option_map, option_and_then}
use Rattle.cop_eds.specs.declared.amount.Amount.{Amount}
use Rattle.cop_eds.specs.declared.amount.Amount.TheVariants as amounts
use Rattle.cop_dict.specs.declared.data_type.DataType.{DataType}
use Rattle.cop_dict.specs.Types.{half_of, is_boolean}
use Rattle.cop_dict.specs.Patterns.{pattern_of}
use Rattle.cop_tidy_lines.specs.declared.typed.Signed.{Signed}

-- each node has a pattern of the amount: it is a constant, or greatest for the last node
abbrev pub fits : DataType → ℕ → Amount → Bool
fits data_type greatest amount = is_some (pattern_of data_type greatest 127 amount)

-- ---- the bytes of a number that lies outside of its type

-- all bits are set in 8, 16 or 32 bits, as programs write a BOOLEAN that is true
abbrev pub are_ones : Amount → Bool
are_ones (amounts.Decimal n) = (n + 1 == 2 ^ 8) || ((n + 1 == 2 ^ 16) || (n + 1 == 2 ^ 32))
are_ones (amounts.Hexadecimal n) = (n + 1 == 2 ^ 8) || ((n + 1 == 2 ^ 16) || (n + 1 == 2 ^ 32))
are_ones (amounts.Negative n) = n == 1
are_ones (amounts.PlusNode n) = false

-- the pattern of a negative number of a signed type, written with so many bits
abbrev pub is_widened_to : ℕ → ℕ → ℕ → Bool
is_widened_to half wide n = nat_lt n wide && nat_le (wide - n) half

-- the pattern of such a number, written with 16, 32 or 64 bits
abbrev pub is_widened : ℕ → ℕ → Bool
is_widened half n = is_widened_to half (2 ^ 16) n || (is_widened_to half (2 ^ 32) n || is_widened_to half (2 ^ 64) n)

-- in a signed type digits without a mark may be a pattern, and hexadecimal ones that of a negative number in a wider type
abbrev pub narrowed : ℕ → Amount → Option ℕ
narrowed half (amounts.Decimal n) = if nat_lt n (2 * half) then Some n else None
narrowed half (amounts.Hexadecimal n) = if is_widened half n then Some (n % (2 * half)) else None
narrowed half (amounts.Negative n) = None
narrowed half (amounts.PlusNode n) = None

-- a device has these bytes whichever way it reads the number; an unsigned type has no negative number
abbrev pub low_bytes : DataType → Amount → Option ℕ
low_bytes data_type amount =
    if is_boolean data_type then (if are_ones amount then Some 1 else None)
    else option_and_then (λ half. narrowed half amount) (half_of data_type)

-- the value that an amount is in a type with this greatest number
unfoldable pub typed_value : DataType → ℕ → Amount → Option Amount
typed_value data_type greatest amount =
    if fits data_type greatest amount then Some amount else option_map amounts.Hexadecimal (low_bytes data_type amount)

-- ---- limits

-- the number that an amount states where it stands for no pattern
abbrev pub number_stated : Amount → Option Signed
number_stated (amounts.Decimal n) = Some (record { is_negative = false; size = n })
number_stated (amounts.Hexadecimal n) = Some (record { is_negative = false; size = n })
number_stated (amounts.Negative n) = Some (record { is_negative = true; size = n })
number_stated (amounts.PlusNode n) = None

-- the number of a pattern: from `half` on less by twice as much
abbrev pub of_pattern : Option ℕ → ℕ → Signed
of_pattern None n = record { is_negative = false; size = n }
of_pattern (Some half) n = if nat_lt n half then record { is_negative = false; size = n } else record { is_negative = true; size = 2 * half - n }

-- the limit that an amount is in its type; a sum with the node's number is none that is compared
abbrev pub limit_stated : DataType → ℕ → Amount → Option Signed
limit_stated data_type greatest (amounts.PlusNode n) = None
limit_stated data_type greatest amount = option_map (of_pattern (half_of data_type)) (pattern_of data_type greatest 127 amount)

-- the lesser of two numbers with their signs
abbrev pub is_below : Signed → Signed → Bool
is_below a b =
    if a.is_negative then (if b.is_negative then nat_lt b.size a.size else (nat_lt 0 a.size || nat_lt 0 b.size))
    else (if b.is_negative then false else nat_lt a.size b.size)

-- the least number of a type
abbrev pub least_of : Option ℕ → Signed
least_of None = record { is_negative = false; size = 0 }
least_of (Some half) = record { is_negative = true; size = half }

-- the greatest number of a type
abbrev pub greatest_number : ℕ → Signed
greatest_number greatest = record { is_negative = false; size = greatest }

-- a number under a test
abbrev pub only_if : Bool → Signed → Option Signed
only_if test number = if test then Some number else None

-- the end of the type, where a low or a high limit lies outward of it
abbrev pub end_for : Bool → Option ℕ → ℕ → Signed → Option Signed
end_for is_low half greatest number =
    if is_low then only_if (is_below number (least_of half)) (least_of half)
    else only_if (is_below (greatest_number greatest) number) (greatest_number greatest)

-- the bytes of a negative number in an unsigned type, in as many bits or in more
abbrev pub unsigned_bytes : ℕ → Amount → Option ℕ
unsigned_bytes greatest (amounts.Negative n) = if nat_lt 0 n && nat_le (2 * n) (greatest + 1) then Some (greatest + 1 - n) else None
unsigned_bytes greatest (amounts.Hexadecimal n) = if is_widened ((greatest + 1) / 2) n then Some (n % (greatest + 1)) else None
unsigned_bytes greatest (amounts.Decimal n) = None
unsigned_bytes greatest (amounts.PlusNode n) = None

-- the pattern that the bytes of a limit are which lies outside
abbrev pub limit_bytes : DataType → ℕ → Amount → Option ℕ
limit_bytes data_type greatest amount =
    if is_boolean data_type || is_some (half_of data_type) then low_bytes data_type amount else unsigned_bytes greatest amount

-- nothing lies between a limit and the other one
abbrev pub is_past : Bool → Signed → Signed → Bool
is_past is_low number other = if is_low then is_below other number else is_below number other

-- a reading of a limit that leaves numbers between it and the other one
abbrev pub possible : Bool → Option Signed → Option Signed → Option Signed
possible is_low None other = None
possible is_low (Some number) None = Some number
possible is_low (Some number) (Some other) = if is_past is_low number other then None else Some number

-- neither of two numbers is below the other
abbrev pub is_same : Signed → Signed → Bool
is_same a b = not (is_below a b || is_below b a)

-- the one reading of two, or of none
abbrev pub only : Option Signed → Option Signed → Option Signed
only None b = b
only (Some a) None = Some a
only (Some a) (Some b) = if is_same a b then Some a else None

-- a number with its sign as it is written in decimal
abbrev pub as_amount : Signed → Amount
as_amount number = if number.is_negative then amounts.Negative number.size else amounts.Decimal number.size

-- the number that a limit is which lies outside of its type: the type's end, or the number of its bytes, where one of these alone is possible
abbrev pub limit_outside : Bool → DataType → ℕ → Amount → Option Signed → Option Signed
limit_outside is_low data_type greatest amount other =
    only (possible is_low (option_and_then (end_for is_low (half_of data_type) greatest) (number_stated amount)) other)
    (possible is_low (option_map (of_pattern (half_of data_type)) (limit_bytes data_type greatest amount)) other)

-- the limit that an amount is in a type with this greatest number, beside the other limit
unfoldable pub typed_limit : Bool → DataType → ℕ → Amount → Option Signed → Option Amount
typed_limit is_low data_type greatest amount other =
    if fits data_type greatest amount then Some amount else option_map as_amount (limit_outside is_low data_type greatest amount other)
