use Rattle.cop_room.proofs.AnewLemmas.{anew_limits}
use Rattle.cop_room.proofs.anew.room_anew.Goals as goal

pub returns-clause-limits : goal.returns-clause-limits
returns-clause-limits c = λ whole planned.
    anew_limits c.args.rate c.args.set.now c.args.pdos c.args.row c.requires.can c.requires.row whole planned _
    (record { period = c.in_ok-least_period.ensures; jitter = c.in_ok-greatest_jitter.ensures; deadline = c.in_ok-least_deadline.ensures; bytes = c.in_ok-most_bytes.ensures })
