-- Numbers that the keys of a section state.
use Rattle.std.specs.Prelude.{ℕ, List, Option, Some, None, Result, Ok, Err}
use Rattle.std.specs.Option.{option_and_then}
use Rattle.cop_eds.specs.declared.fault.Rule.{Rule}
use Rattle.cop_eds.specs.Number.{number_of}
use Rattle.cop_eds.specs.Sections.{value_in}

abbrev pub ok_number : Result ℕ Rule → Option ℕ
ok_number (Ok n) = Some n
ok_number (Err rule) = None

-- the number that a key of a section states
abbrev pub stated : List ℕ → ℕ → List ℕ → Option ℕ
stated text section key = option_and_then (λ value. ok_number (number_of value)) (value_in text section key)

abbrev pub or_0 : Option (List ℕ) → Option ℕ
or_0 None = Some 0
or_0 (Some value) = ok_number (number_of value)

-- the same, where an absent key states 0
abbrev pub stated_or_0 : List ℕ → ℕ → List ℕ → Option ℕ
stated_or_0 text section key = or_0 (value_in text section key)
