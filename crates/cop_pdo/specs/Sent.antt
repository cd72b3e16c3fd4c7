-- What a received object gets of what another node sends.
use Rattle.std.specs.Prelude.{◌≡◌, ℕ, take, slice_get, Some}
use Rattle.cop_dict.specs.declared.mapping.Mapped.{Mapped}
use Rattle.cop_dict.specs.Mapping.{total_bits}
use Rattle.cop_pdo.specs.Payload.{Layout}

-- an entry of a PDO that begins at a bit of its payload and is so many bits wide
pub record HasEntryAt (layout : Layout) (first bits : ℕ) (mapped : Mapped) : Type 0 where
  pub place : ℕ
  pub there : slice_get layout.entries place ≡ Some mapped
  pub begins : total_bits (take place layout.entries) ≡ first
  pub wide : mapped.bits ≡ bits
