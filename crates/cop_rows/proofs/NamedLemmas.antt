-- Which PDOs the rows name.
use Rattle.std.proofs.Common.{◌≡◌, List, [], arith, refl, zero-le}
use Rattle.std.proofs.lemmas.List.Elements.{All-nil}
use Rattle.cop_rows.specs.declared.pdo_table.PdoRow.{PdoRow}
use Rattle.cop_rows.specs.Pdos.{IsPdoTable, IsPdoRow}
use Rattle.cop_rows.specs.Named.{KnowsNamed}

-- no row, and no flag
pub none_named : (rows : List PdoRow) → rows ≡ [] → IsPdoTable rows × KnowsNamed [] rows
none_named rows e = rw e (
  record { count = zero-le; ranges = All-nil IsPdoRow; distinct = λ i j d lt below same. absurd (omega arith) },
  record { each = λ node tpdo high least most. refl },
)
