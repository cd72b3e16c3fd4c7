use Rattle.std.proofs.Common.{◌≡◌, drop, length}
use Rattle.cop_net.specs.Steps.{folded}
use Rattle.cop_net.specs.Pdos.{ArePdos, pdo_added, pdos_of}
use Rattle.cop_net.proofs.pdos.find_pdos.Given as goal

abbrev pub invariant-loop-row : goal.invariant-loop-row
invariant-loop-row l = record {
  pdos : ArePdos l.found.streams;
  count : length l.found.streams ≡ l.row-index;
  same : folded (pdo_added l.devices.devices l.signals) l.found (drop l.row-index l.rows) ≡ pdos_of l.devices.devices l.signals l.rows;
}
