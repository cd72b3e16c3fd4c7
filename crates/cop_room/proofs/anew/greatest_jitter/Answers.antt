use Rattle.std.proofs.Common.{◌≡◌, ◌*◌, ◌-◌, subst}
use Rattle.cop_room.specs.Changes.{at_row, with_jitter}
use Rattle.cop_room.specs.Keeping.{CanBePlanned}
use Rattle.cop_room.specs.Room.{CanFall, jitter_now}
use Rattle.cop_room.proofs.KeptLemmas.{jitter_assigns}
use Rattle.cop_room.proofs.RoomLemmas.{rises}
use Rattle.cop_room.proofs.anew.greatest_jitter.Goals as goal

pub least_anew-requires-clause-can : goal.least_anew-requires-clause-can
least_anew-requires-clause-can c = λ x. jitter_assigns c.args.set.now c.args.pdos c.requires.can c.args.row (4 * (60000000 - x))

pub returns : goal.returns
returns c =
    let streams = c.args.set.now in
    let row = c.args.row in
    let value : c.jitter_of-now.result ≡ jitter_now streams row = rw c.streams.ensures.items at c.jitter_of-now.ensures.value in
    rises (CanBePlanned c.args.rate c.args.pdos) (λ y. at_row row (with_jitter (4 * y))) streams 60000000 (jitter_now streams row) c.in_ok-left.left
    (subst (λ now. CanFall (CanBePlanned c.args.rate c.args.pdos) (λ y. at_row row (with_jitter (4 * (60000000 - y)))) streams 0 (60000000 - now) c.in_ok-left.left) value c.in_ok-left.ensures.exact)
