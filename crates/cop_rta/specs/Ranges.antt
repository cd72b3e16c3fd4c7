-- The identifiers that PDOs may get: those above all SDO frames, and a few below them.
use Rattle.std.specs.Prelude.{ℕ, ◌+◌, ◌<◌, ◌≤◌, ◌⊎◌}
use Rattle.cop_rta.specs.declared.ranges.IdRange.{IdRange}

abbrev pub first_range : IdRange
first_range = record { least = 0x181; count = 1023 }

-- below all SDO frames: it is used where it has room for all PDOs
abbrev pub second_range : IdRange
second_range = record { least = 0x680; count = 96 }

abbrev pub IsIn : IdRange → ℕ → Type 0
IsIn range id = (range.least ≤ id) × (id < range.least + range.count)

abbrev pub IsOutside : IdRange → ℕ → Type 0
IsOutside range id = (id < range.least) ⊎ (range.least + range.count ≤ id)

-- the identifiers that a PDO may get, by how many PDOs there are
abbrev pub IsPermitted : ℕ → ℕ → Type 0
IsPermitted pdos id = IsIn first_range id ⊎ ((pdos ≤ second_range.count) × IsIn second_range id)
