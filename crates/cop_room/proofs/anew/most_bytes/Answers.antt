use Rattle.std.proofs.Common.{◌≡◌, ◌-◌, subst}
use Rattle.cop_room.specs.Changes.{at_row, with_bytes}
use Rattle.cop_room.specs.Keeping.{CanBePlanned}
use Rattle.cop_room.specs.Room.{CanFall, bytes_now}
use Rattle.cop_room.proofs.KeptLemmas.{bytes_assign}
use Rattle.cop_room.proofs.RoomLemmas.{rises}
use Rattle.cop_room.proofs.anew.most_bytes.Goals as goal

pub least_anew-requires-clause-can : goal.least_anew-requires-clause-can
least_anew-requires-clause-can c = λ x. bytes_assign c.args.set.now c.args.pdos c.requires.can c.args.row (8 - x)

pub returns : goal.returns
returns c =
    let streams = c.args.set.now in
    let row = c.args.row in
    let value : c.bytes_of-now.result ≡ bytes_now streams row = rw c.streams.ensures.items at c.bytes_of-now.ensures.value in
    rises (CanBePlanned c.args.rate c.args.pdos) (λ y. at_row row (with_bytes y)) streams 8 (bytes_now streams row) c.in_ok-left.left
    (subst (λ now. CanFall (CanBePlanned c.args.rate c.args.pdos) (λ y. at_row row (with_bytes (8 - y))) streams 0 (8 - now) c.in_ok-left.left) value c.in_ok-left.ensures.exact)
