use Rattle.std.proofs.Common.{refl, rules}
use Rattle.cop_watch.proofs.BreakLemmas.{end-breaks}
use Rattle.cop_watch.proofs.watching.Watch.rule_of_end.Goals as goal

pub returns-else-ends : goal.returns-else-ends
returns-else-ends c = end-breaks c.args.self.now (c.if-is_joining.ensures refl) c.args.id c.args.at (search rules) (search rules) (c.if-ends.ensures.other refl)
