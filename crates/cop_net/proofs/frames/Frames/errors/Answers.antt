use Rattle.cop_net.proofs.ThroughLemmas.{errors_at, found_last}
use Rattle.cop_net.proofs.frames.Frames.errors.Goals as goal

pub returns-else-row-eq0-clause-times : goal.returns-else-row-eq0-clause-times
returns-else-row-eq0-clause-times c =
    errors_at c.in_ok-row.row c.in_ok-row.ensures.timed (found_last c.args.self.now c.in_ok-row.row c.in_ok-row.ensures.row) c.if-row-eq0.false
