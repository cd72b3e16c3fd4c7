use Rattle.std.proofs.Common.{le_refl}
use Rattle.cop_room.specs.Keeping.{AllStillPass}
use Rattle.cop_room.specs.Numbers.{change_of}
use Rattle.cop_room.proofs.NumberLemmas.{falls}
use Rattle.cop_room.proofs.LimitLemmas.{least_kept, no_harder, kept_falls}
use Rattle.cop_room.proofs.TrialLemmas.{ends_below, ends_nowhere}
use Rattle.cop_room.proofs.limits.least.Goals as goal

pub returns-then-high-now-clause-exact : goal.returns-then-high-now-clause-exact
returns-then-high-now-clause-exact c =
    let change = change_of c.args.number in
    least_kept change c.args.rate c.args.set.now c.args.pdos c.args.first c.loop-low.high (falls c.args.number) c.requires.count
    (ends_below (AllStillPass c.args.rate c.args.pdos) change c.args.set.now c.args.first c.args.now c.loop-low.low c.loop-low.high c.loop-low.invariant c.loop-low-test.false c.if-high-now.true)

pub returns-else-high-now-clause-exact : goal.returns-else-high-now-clause-exact
returns-else-high-now-clause-exact c =
    let change = change_of c.args.number in
    let P = AllStillPass c.args.rate c.args.pdos in
    λ holds. no_harder P change c.args.set.now (kept_falls change c.args.rate c.args.set.now c.args.pdos c.requires.count) c.args.now c.args.now (falls c.args.number c.args.now c.args.now (le_refl c.args.now))
    (ends_nowhere P change c.args.set.now c.args.first c.args.now c.loop-low.low c.loop-low.high c.loop-low.invariant c.requires.order c.loop-low-test.false c.if-high-now.false) holds
