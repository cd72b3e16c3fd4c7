-- The patterns of values and limits as texts write them (CiA 306).
use Rattle.std.specs.Prelude.{ℕ, ℤ, pos, neg_ℤ, ◌+◌, ◌-◌, ◌*◌, ◌==◌, nat_le, if◌then◌else◌, Option, Some, None, List, Result, Ok, Err}
use Rattle.std.specs.Option.{option_map_or}
use Rattle.cop_eds.specs.declared.fault.Rule.{Rule}
use Rattle.cop_eds.specs.declared.fault.Refusal.{Refusal}
use Rattle.cop_eds.specs.declared.amount.Amount.{Amount}
use Rattle.cop_eds.specs.declared.amount.Amount.TheVariants.{Decimal, Negative, Hexadecimal, PlusNode}
use Rattle.cop_eds.specs.Number.{some_number}
use Rattle.cop_eds.specs.Amount.{amount_of}
use Rattle.cop_eds.specs.Steps.{standing_at}
use Rattle.cop_dict.specs.declared.data_type.DataType.{DataType}
use Rattle.cop_dict.specs.Types.{half_of}

abbrev pub at_most : ℕ → ℕ → Option ℕ
at_most greatest n = if nat_le n greatest then Some n else None

-- the pattern of a number so far below 0: in a signed type its two's complement, and else there is that of 0 alone
abbrev pub negative : Option ℕ → ℕ → Option ℕ
negative None n = at_most 0 n
negative (Some half) n = if n == 0 then Some 0 else if nat_le n half then Some (2 * half - n) else None

-- the greatest pattern of a type with this greatest number
abbrev pub greatest_pattern : Option ℕ → ℕ → ℕ
greatest_pattern half greatest = option_map_or (λ half. 2 * half - 1) half greatest

-- the pattern of an amount, where the type has it; hexadecimal digits that stand alone are a pattern themselves
abbrev pub pattern_of : DataType → ℕ → ℕ → Amount → Option ℕ
pattern_of data_type greatest node (Decimal n) = at_most greatest n
pattern_of data_type greatest node (Negative n) = negative (half_of data_type) n
pattern_of data_type greatest node (Hexadecimal n) = at_most (greatest_pattern (half_of data_type) greatest) n
pattern_of data_type greatest node (PlusNode n) = at_most greatest (n + node)

abbrev pub pattern_by : DataType → ℕ → ℕ → Result Amount Rule → Result ℕ Rule
pattern_by data_type greatest node (Err rule) = Err rule
pattern_by data_type greatest node (Ok amount) = some_number (pattern_of data_type greatest node amount)

-- the pattern of the value at a line, or the rule that it breaks there
abbrev pub pattern_at : DataType → ℕ → ℕ → ℕ × List ℕ → Result ℕ Refusal
pattern_at data_type greatest node entry = standing_at entry.0 (pattern_by data_type greatest node (amount_of entry.1))

-- the number that an amount states for a node; hexadecimal digits that stand alone state a pattern, and no number
abbrev pub number_written : ℕ → Amount → Option ℤ
number_written node (Decimal n) = Some (pos n)
number_written node (Negative n) = Some (neg_ℤ (pos n))
number_written node (Hexadecimal n) = None
number_written node (PlusNode n) = Some (pos (n + node))
