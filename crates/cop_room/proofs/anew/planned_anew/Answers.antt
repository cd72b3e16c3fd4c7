use Rattle.cop_room.specs.Numbers.{change_of}
use Rattle.cop_room.proofs.AnewLemmas.{anew_shows_if}
use Rattle.cop_room.proofs.anew.planned_anew.Goals as goal

pub returns : goal.returns
returns c =
    anew_shows_if (change_of c.args.number c.args.place) c.args.rate c.args.set.now c.in_ok-other.other c.args.pdos c.planned_at.result c.in_ok-other.ensures (c.requires.can c.in_ok-other.other c.in_ok-other.ensures)
    c.planned_at.ensures
