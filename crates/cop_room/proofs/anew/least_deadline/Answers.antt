use Rattle.std.proofs.Common.{◌≡◌, ◌*◌, subst}
use Rattle.cop_room.specs.Changes.{at_row, with_deadline}
use Rattle.cop_room.specs.Keeping.{CanBePlanned}
use Rattle.cop_room.specs.Room.{CanFall, deadline_now}
use Rattle.cop_room.proofs.KeptLemmas.{deadline_assigns}
use Rattle.cop_room.proofs.anew.least_deadline.Goals as goal

pub least_anew-requires-clause-can : goal.least_anew-requires-clause-can
least_anew-requires-clause-can c = λ x. deadline_assigns c.args.set.now c.args.pdos c.requires.can c.args.row (4 * x)

pub returns : goal.returns
returns c =
    let streams = c.args.set.now in
    let row = c.args.row in
    let value : c.deadline_of-now.result ≡ deadline_now streams row = rw c.streams.ensures.items at c.deadline_of-now.ensures.value in
    subst (λ now. CanFall (CanBePlanned c.args.rate c.args.pdos) (λ y. at_row row (with_deadline (4 * y))) streams 1 now c.in_ok-least.least) value c.in_ok-least.ensures.exact
