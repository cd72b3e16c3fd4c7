use Rattle.cop_tidy_reading.proofs.ListLemmas.{or_first, or_second, or_third, lack_all}
use Rattle.cop_tidy_reading.proofs.lists.add_lists.Goals as goal

pub returns-then-first-clause-lacks : goal.returns-then-first-clause-lacks
returns-then-first-clause-lacks c =
    lack_all c.args.digits c.args.contents.now _ _ _ _ c.in_ok-first.ensures.lacks c.in_ok-second.ensures.lacks c.in_ok-third.ensures.lacks
    (or_first c.in_ok-first.first c.in_ok-second.second c.in_ok-third.third c.if-first.true)

pub returns-then-second-clause-lacks : goal.returns-then-second-clause-lacks
returns-then-second-clause-lacks c =
    lack_all c.args.digits c.args.contents.now _ _ _ _ c.in_ok-first.ensures.lacks c.in_ok-second.ensures.lacks c.in_ok-third.ensures.lacks
    (or_second c.in_ok-first.first c.in_ok-second.second c.in_ok-third.third c.if-first.false c.if-second.true)

pub returns-else-second-clause-lacks : goal.returns-else-second-clause-lacks
returns-else-second-clause-lacks c =
    lack_all c.args.digits c.args.contents.now _ _ _ _ c.in_ok-first.ensures.lacks c.in_ok-second.ensures.lacks c.in_ok-third.ensures.lacks
    (or_third c.in_ok-first.first c.in_ok-second.second c.in_ok-third.third c.if-first.false c.if-second.false)
