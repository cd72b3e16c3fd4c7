use Rattle.std.proofs.Common.{◌≡◌, drop}
use Rattle.cop_rows.specs.NodeReading.{first_lacking}
use Rattle.cop_rows.proofs.node_rows.NodeRows.first_lacking.Given as goal

abbrev pub invariant-loop-frame : goal.invariant-loop-frame
invariant-loop-frame l = first_lacking l.self.devices (drop l.frame-index l.frame-items) ≡ first_lacking l.self.devices l.self.frames
