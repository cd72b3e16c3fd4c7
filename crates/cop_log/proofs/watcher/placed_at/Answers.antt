use Rattle.std.proofs.Common.{◌∙◌, ap, sym, subst, get_or}
use Rattle.cop_rta.specs.Streams.{AreDistinct}
use Rattle.cop_log.proofs.Sought.{no_bound, has_bound}
use Rattle.cop_log.proofs.watcher.placed_at.Goals as goal

pub returns-in-None-clause-none : goal.returns-in-None-clause-none
returns-in-None-clause-none c =
    no_bound (record { rate = c.args.rate; streams = c.args.streams.now; bounds = c.args.bounds.now; clock = c.args.clock })
    (subst AreDistinct c.streams-distinct.ensures.items c.streams-distinct.ensures.distinct)
    c.args.id c.args.place c.requires.its c.requires.within (sym c.bound_at.ensures ∙ c.in-None.is)

pub returns-in-Some-clause-some : goal.returns-in-Some-clause-some
returns-in-Some-clause-some c =
    let x = c.index-streams-place.result in
    has_bound (record { rate = c.args.rate; streams = c.args.streams.now; bounds = c.args.bounds.now; clock = c.args.clock })
    c.args.id c.args.place x c.in-Some.bound c.requires.its c.requires.within
    (c.index-streams-place.is ∙ ap (λ s. get_or s c.args.place x) c.streams.ensures.items) (sym c.bound_at.ensures ∙ c.in-Some.is)
