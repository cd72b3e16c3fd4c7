use Rattle.std.proofs.Common.{◌≡◌, map, take}
use Rattle.cop_verify.specs.Telling.{verify_line}
use Rattle.cop_verify.proofs.telling.verify_answer.Given as goal

abbrev pub invariant-loop-node : goal.invariant-loop-node
invariant-loop-node l = l.lines.items ≡ map (verify_line l.all) (take l.node-index l.nodes)
