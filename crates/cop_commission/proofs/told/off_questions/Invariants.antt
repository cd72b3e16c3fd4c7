use Rattle.std.proofs.Common.{◌≡◌, take}
use Rattle.std.specs.List.{flat_map}
use Rattle.cop_dcf.specs.Settings.{node_settings}
use Rattle.cop_commission.specs.Told.{offs_of}
use Rattle.cop_commission.proofs.told.off_questions.Given as goal

abbrev pub invariant-loop-node : goal.invariant-loop-node
invariant-loop-node l = l.questions.items ≡ flat_map (λ node. offs_of node (node_settings l.network l.plan.ids node)) (take l.node-index l.nodes)
