use Rattle.std.proofs.Common.{◌≡◌, take}
use Rattle.std.specs.List.{flat_map}
use Rattle.cop_dcf.specs.Settings.{node_settings, dictionary_of}
use Rattle.cop_commission.specs.Readings.{node_questions}
use Rattle.cop_commission.specs.Told.{told_settings}
use Rattle.cop_commission.proofs.readings.settings_questions.Given as goal

abbrev pub invariant-loop-node : goal.invariant-loop-node
invariant-loop-node l = l.questions.items ≡ flat_map (λ node. node_questions node (dictionary_of l.network node) (told_settings l.told node (node_settings l.network l.plan.ids node))) (take l.node-index l.nodes)
