use Rattle.std.proofs.Common.{rules}
use Rattle.std.proofs.lemmas.Iterator.{YieldsList-from_slice}
use Rattle.std.proofs.lemmas.Iterator.Search.{all_from_yields_List}
use Rattle.cop_boot.specs.Settings.{is_short_value}
use Rattle.cop_boot.proofs.PlanLemmas.{managed_so}
use Rattle.cop_boot.proofs.manager.is_managed.Goals as goal

pub returns-then-is_node : goal.returns-then-is_node
returns-then-is_node c =
    managed_so c.args.node c.args.settings.now c.all.result (search rules)
    (all_from_yields_List is_short_value _ _ c.all.result c.all.ensures.ran (YieldsList-from_slice c.args.settings.now cc) (λ x b q k. search rules))
