use Rattle.std.proofs.Common.{◌≡◌, ◌*◌, subst}
use Rattle.cop_room.specs.Changes.{at_row, with_period}
use Rattle.cop_room.specs.Keeping.{CanBePlanned}
use Rattle.cop_room.specs.Room.{CanFall, period_now}
use Rattle.cop_room.proofs.KeptLemmas.{period_assigns}
use Rattle.cop_room.proofs.anew.least_period.Goals as goal

pub least_anew-requires-clause-can : goal.least_anew-requires-clause-can
least_anew-requires-clause-can c = λ x. period_assigns c.args.set.now c.args.pdos c.requires.can c.args.row (4 * x) c.requires.row (rw c.streams.ensures.items at c.if-is_synchronous.ensures.no)

pub returns : goal.returns
returns c =
    let streams = c.args.set.now in
    let row = c.args.row in
    let value : c.period_of-now.result ≡ period_now streams row = rw c.streams-2.ensures.items at c.period_of-now.ensures.value in (
      rw c.streams.ensures.items at c.if-is_synchronous.ensures.no,
      subst (λ now. CanFall (CanBePlanned c.args.rate c.args.pdos) (λ y. at_row row (with_period (4 * y))) streams 100 now c.in_ok-least.least) value c.in_ok-least.ensures.exact,
    )
