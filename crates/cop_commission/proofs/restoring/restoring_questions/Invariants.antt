use Rattle.std.proofs.Common.{◌≡◌, take}
use Rattle.std.specs.List.{flat_map}
use Rattle.cop_commission.specs.Restoring.{restoring_at}
use Rattle.cop_commission.proofs.restoring.restoring_questions.Given as goal

abbrev pub invariant-loop-node : goal.invariant-loop-node
invariant-loop-node l = l.questions.items ≡ flat_map (restoring_at l.network) (take l.node-index l.nodes)
