-- Whether a PDO takes a signal.
use Rattle.std.specs.Prelude.{ℕ, ◌+◌, Bool, false, not, ◌&&◌, ◌||◌, ◌==◌, List, [], ◌∷◌}
use Rattle.cop_dict.specs.declared.mapping.Direction.{Direction}
use Rattle.cop_dict.specs.declared.mapping.Mapped.{Mapped}
use Rattle.cop_dict.specs.Mapping.{is_dummy}

-- an entry takes what begins at a bit and has so many bits into an object, where the entries begin at bit `start`
abbrev pub takes_from : Direction → List Mapped → ℕ → ℕ → ℕ → Bool
takes_from direction [] start first bits = false
takes_from direction (mapped ∷ rest) start first bits =
    ((not (is_dummy direction mapped) && (start == first)) && (mapped.bits == bits)) || takes_from direction rest (start + mapped.bits) first bits
