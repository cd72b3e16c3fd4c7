use Rattle.std.proofs.Common.{◌∙◌, sym, subst}
use Rattle.cop_log.specs.Watchers.{HasNoLane}
use Rattle.cop_log.proofs.Sought.{none_there}
use Rattle.cop_log.proofs.watcher.seek.Goals as goal

pub returns-in-None-clause-none : goal.returns-in-None-clause-none
returns-in-None-clause-none c =
    subst (HasNoLane (record { rate = c.args.rate; streams = c.args.streams.now; bounds = c.args.bounds.now; clock = c.args.clock })) c.in-Ok.ensures.1
    (none_there (record { rate = c.args.rate; streams = c.args.streams.now; bounds = c.args.bounds.now; clock = c.args.clock }) c.in-Ok.short (sym c.place_of.ensures.place ∙ c.in-None.is))
