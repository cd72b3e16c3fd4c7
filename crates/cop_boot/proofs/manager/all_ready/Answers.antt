use Rattle.std.proofs.Common.{◌∙◌, rules}
use Rattle.std.proofs.lemmas.Iterator.{YieldsList-from_slice}
use Rattle.std.proofs.lemmas.Iterator.Search.{all_from_yields_List}
use Rattle.cop_boot.specs.Manager.{is_ready}
use Rattle.cop_boot.specs.Member.{seen}
use Rattle.cop_boot.proofs.HearingLemmas.{all_ready_so}
use Rattle.cop_boot.proofs.manager.all_ready.Goals as goal

pub returns-then-not-is_empty : goal.returns-then-not-is_empty
returns-then-not-is_empty c =
    let xs = c.args.members.now in
    all_from_yields_List (λ m. is_ready (seen m)) _ _ c.all.result c.all.ensures.ran (YieldsList-from_slice xs cc) (λ x b q k. search rules)
    ∙ all_ready_so xs c.if-not-is_empty.ensures
