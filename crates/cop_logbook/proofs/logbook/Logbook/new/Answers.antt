use Rattle.std.proofs.Common.{refl}
use Rattle.cop_logbook.proofs.PieceLemmas.{begins}
use Rattle.cop_logbook.proofs.logbook.Logbook.new.Goals as goal

pub returns : goal.returns
returns c =
    begins c.args.plan.now c.args.clock _ _ c.in_ok-bounds.bounds.items
    c.streams-streams.ensures.planned.synced
    (rw (c.streams-distinct.ensures.items, c.streams-streams.ensures.items) at c.streams-distinct.ensures.distinct)
    (rw (c.streams-streams.ensures.items, c.rate-rate.ensures) at c.in_ok-bounds.ensures.sound)
    (rw (c.streams-streams.ensures.items, c.rate-rate.ensures) at c.in_ok-bounds.ensures.each)
    (rw (c.streams-streams.ensures.items, c.rate-rate.ensures) at c.in_ok-watcher.ensures.terms)
    c.in_ok-watcher.ensures.begins
    c.in_ok-watcher.ensures.kept
    (rw c.in_ok-wanted.ensures at c.new-2.ensures)
    c.in_ok-new-2.ensures
    refl
