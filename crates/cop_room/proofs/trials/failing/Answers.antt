use Rattle.std.proofs.Common.{true≢false, sym}
use Rattle.cop_room.proofs.TrialLemmas.{one_kept}
use Rattle.cop_room.proofs.trials.failing.Goals as goal

pub returns-then-not-keeps-clause-exact : goal.returns-then-not-keeps-clause-exact
returns-then-not-keeps-clause-exact c = λ all. true≢false (sym (c.if-not-keeps.ensures.1 (one_kept c.args.rate c.args.pdos c.args.set.now c.args.first all)))
