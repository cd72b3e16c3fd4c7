-- The rules for reading and writing an entry, whatever else is in the dictionary (CiA 301, SDO abort codes).
use Rattle.std.specs.Prelude.{ℕ, Bool, false, not, ◌&&◌, List, [], ◌∷◌, length, nat_lt, int_lt, if◌then◌else◌, Option, Some, None}
use Rattle.std.specs.Option.{option_map_or}
use Rattle.cop_dict.specs.declared.description.Description.{Description}
use Rattle.cop_dict.specs.declared.abort.Abort.{Abort}
use Rattle.cop_dict.specs.declared.abort.Abort.TheVariants as aborts
use Rattle.cop_dict.specs.Types.{width_of, is_opaque, is_boolean, is_readable, is_writable}
use Rattle.cop_dict.specs.Number.{number, value_of}

-- of rules with their codes, the code of the first that is broken
abbrev pub first_broken : List (Bool × Abort) → Option Abort
first_broken [] = None
first_broken (rule ∷ rules) = if rule.0 then Some rule.1 else first_broken rules

-- the rules for a read, in their order
abbrev pub read_rules : Description → List (Bool × Abort)
read_rules entry = (is_opaque entry.data_type, aborts.OpaqueType) ∷ (not (is_readable entry.access), aborts.WriteOnly) ∷ []

-- the rules for a pattern as a value, in their order; limits are compared as numbers
abbrev pub number_rules : Description → ℕ → List (Bool × Abort)
number_rules entry pattern =
    (is_boolean entry.data_type && nat_lt 1 pattern, aborts.InvalidValue)
    ∷ (option_map_or (λ high. int_lt high (value_of entry.data_type pattern)) entry.high false, aborts.AboveLimit)
    ∷ (option_map_or (λ low. int_lt (value_of entry.data_type pattern) low) entry.low false, aborts.BelowLimit)
    ∷ []

-- the rules for the length of a value and its pattern, in their order; a type of any width has none
abbrev pub width_rules : Description → Option ℕ → List ℕ → List (Bool × Abort)
width_rules entry None bytes = []
width_rules entry (Some width) bytes =
    (nat_lt width (length bytes), aborts.TooLong)
    ∷ (nat_lt (length bytes) width, aborts.TooShort)
    ∷ number_rules entry (number bytes)

-- the rules for a write, in their order
abbrev pub value_rules : Description → List ℕ → List (Bool × Abort)
value_rules entry bytes =
    (is_opaque entry.data_type, aborts.OpaqueType)
    ∷ (not (is_writable entry.access), aborts.ReadOnly)
    ∷ width_rules entry (width_of entry.data_type) bytes

-- the rules for the stated size of a value, where all values have one width
abbrev pub size_rules : Option ℕ → Option ℕ → List (Bool × Abort)
size_rules (Some width) (Some size) = (nat_lt width size, aborts.TooLong) ∷ (nat_lt size width, aborts.TooShort) ∷ []
size_rules _ _ = []

-- the rules for a write whose bytes are still to come, in their order
abbrev pub access_rules : Description → Option ℕ → List (Bool × Abort)
access_rules entry size =
    (is_opaque entry.data_type, aborts.OpaqueType)
    ∷ (not (is_writable entry.access), aborts.ReadOnly)
    ∷ size_rules (width_of entry.data_type) size
