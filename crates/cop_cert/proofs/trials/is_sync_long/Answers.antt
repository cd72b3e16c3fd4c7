use Rattle.cop_cert.proofs.FrameLemmas.{long_iff, none_is}
use Rattle.cop_cert.proofs.trials.is_sync_long.Goals as goal

pub returns : goal.returns
returns c =
    long_iff c.args.rate c.args.set.now c.args.pdos c.in-Some.sync c.flag_fixed.new.out c.in-Some.ensures.0 c.in-Some.ensures.1
    (λ k. rw c.streams-streams.ensures.items at (c.flag_fixed.ensures k))
    c.time.result c.is_none.result (rw c.new.ensures at c.time.ensures.found) c.time.ensures.within (rw c.new.ensures at c.time.ensures.none) (none_is c.time.result c.is_none.result c.is_none.ensures)
