-- Values and limits as texts write them: numbers with a sign, and sums with the node's number.
use Rattle.std.specs.Prelude.{ℕ, Bool, not, List, drop, codes, slice_index, ◌==◌, if◌then◌else◌, Result, Ok, Err}
use Rattle.std.specs.List.{before_first, after_first, list_any}
use Rattle.cop_eds.specs.declared.fault.Rule.{Rule}
use Rattle.cop_eds.specs.declared.fault.Rule.TheVariants.{Number}
use Rattle.cop_eds.specs.declared.amount.Amount.{Amount}
use Rattle.cop_eds.specs.declared.amount.Amount.TheVariants.{Decimal, Negative, Hexadecimal, PlusNode}
use Rattle.cop_eds.specs.Text.{trim, same_name}
use Rattle.cop_eds.specs.Number.{number_in, number_of, is_hexadecimal, unambiguous}

abbrev pub written : (ℕ → Amount) → Result ℕ Rule → Result Amount Rule
written form (Ok n) = Ok (form n)
written form (Err rule) = Err rule

-- a number, where a minus may stand before decimal digits
abbrev pub signed_of : List ℕ → Result Amount Rule
signed_of text =
    if slice_index text 0 == 45 then written Negative (unambiguous (drop 1 text) (number_in 10 (drop 1 text)))
    else written (if is_hexadecimal text then Hexadecimal else Decimal) (number_of text)

abbrev pub is_node : List ℕ → Bool
is_node text = same_name text (codes "$NODEID")

abbrev pub left_of : List ℕ → List ℕ
left_of text = trim (before_first (λ b. b == 43) text)

abbrev pub right_of : List ℕ → List ℕ
right_of text = trim (after_first (λ b. b == 43) text)

-- $NODEID, $NODEID+number, number+$NODEID, or a number (CiA 306)
abbrev pub amount_of : List ℕ → Result Amount Rule
amount_of text =
    if is_node text then Ok (PlusNode 0)
    else if not (list_any (λ b. b == 43) text) then signed_of text
    else if is_node (left_of text) then written PlusNode (number_of (right_of text))
    else if is_node (right_of text) then written PlusNode (number_of (left_of text))
    else Err Number
