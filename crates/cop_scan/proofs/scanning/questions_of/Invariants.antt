use Rattle.std.proofs.Common.{◌≡◌, take}
use Rattle.std.specs.List.{flat_map}
use Rattle.cop_scan.specs.Scanning.{questions_to}
use Rattle.cop_scan.proofs.scanning.questions_of.Given as goal

abbrev pub invariant-loop-node : goal.invariant-loop-node
invariant-loop-node l = l.questions.items ≡ flat_map questions_to (take l.node-index l.nodes)
