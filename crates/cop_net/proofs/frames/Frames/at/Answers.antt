use Rattle.std.proofs.Common.{◌-◌, length, arith, sym}
use Rattle.cop_net.proofs.FixedLemmas.{part_timed}
use Rattle.cop_net.proofs.HeartbeatLemmas.{past_all}
use Rattle.cop_net.proofs.frames.Frames.at.Goals as goal

pub returns-else-place-lt-ALL_PLACES-clause-row : goal.returns-else-place-lt-ALL_PLACES-clause-row
returns-else-place-lt-ALL_PLACES-clause-row c = rw (← c.self.view_is) (sym (past_all c.self.inside.rows.now c.args.place c.self.invariant.0 (omega arith)))

pub returns-then-place-lt-ALL_PLACES-clause-timed : goal.returns-then-place-lt-ALL_PLACES-clause-timed
returns-then-place-lt-ALL_PLACES-clause-timed c = rw c.first_at.ensures (part_timed c.self.inside.rows.now c.min-before.result (length c.self.inside.rows.now - c.min-before.result) c.args.place c.self.invariant.0)
