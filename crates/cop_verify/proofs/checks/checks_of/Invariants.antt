use Rattle.std.proofs.Common.{◌≡◌, take}
use Rattle.std.specs.List.{flat_map}
use Rattle.cop_dcf.specs.Settings.{node_settings, dictionary_of}
use Rattle.cop_verify.specs.Checks.{node_checks}
use Rattle.cop_verify.proofs.checks.checks_of.Given as goal

abbrev pub invariant-loop-node : goal.invariant-loop-node
invariant-loop-node l = l.questions.items ≡ flat_map (λ node. node_checks node (dictionary_of l.network node) (node_settings l.network l.plan.ids node)) (take l.node-index l.nodes)
