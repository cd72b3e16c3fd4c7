-- Flags that tell which PDOs the rows name; where none is made no row names one.
use Rattle.std.specs.Prelude.{ℕ, ◌≡◌, ◌+◌, ◌-◌, ◌*◌, ◌≤◌, Bool, false, List, get_or}
use Rattle.cop_rows.specs.declared.pdo_table.PdoRow.{PdoRow}
use Rattle.cop_rows.specs.PdoReading.{is_named}

-- the flag of a PDO
abbrev pub flag_of : ℕ → ℕ → ℕ
flag_of node tpdo = node * 512 + (tpdo - 1)

pub record KnowsNamed (flags : List Bool) (rows : List PdoRow) : Type 0 where
  pub each : (node tpdo : ℕ) → node ≤ 127 → 1 ≤ tpdo → tpdo ≤ 512 → get_or flags (flag_of node tpdo) false ≡ is_named rows node tpdo
