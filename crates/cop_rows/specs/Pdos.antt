-- The table of PDOs.
use Rattle.std.specs.Prelude.{◌≡◌, ◌≢◌, ◌≤◌, ◌⊎◌, List, length, All, AllPairs}
use Rattle.cop_rows.specs.declared.pdo_table.Consumer.{Consumer}
use Rattle.cop_rows.specs.declared.pdo_table.PdoRow.{PdoRow}

-- the ranges of a consumer
pub record IsConsumer (c : Consumer) : Type 0 where
  pub node_least : 1 ≤ c.node
  pub node_most : c.node ≤ 127
  pub rpdo_least : 1 ≤ c.rpdo
  pub rpdo_most : c.rpdo ≤ 512

-- the ranges of a row: times are in microseconds, and period 0 is that of a PDO that is sent by SYNC
pub record IsPdoRow (p : PdoRow) : Type 0 where
  pub node_least : 1 ≤ p.node
  pub node_most : p.node ≤ 127
  pub tpdo_least : 1 ≤ p.tpdo
  pub tpdo_most : p.tpdo ≤ 512
  pub period : (p.period ≡ 0) ⊎ ((100 ≤ p.period) × (p.period ≤ 60000000))
  pub jitter_most : p.jitter ≤ 60000000
  pub deadline_least : 1 ≤ p.deadline
  pub deadline_most : p.deadline ≤ 60000000
  pub consumers : All IsConsumer p.consumers

-- what holds of each table of PDOs
pub record IsPdoTable (rows : List PdoRow) : Type 0 where
  pub count : length rows ≤ 512
  pub ranges : All IsPdoRow rows
  pub distinct : AllPairs (λ p q. p.node ≡ q.node → p.tpdo ≢ q.tpdo) rows
