use Rattle.cop_room.proofs.MissLemmas.{holds_or_fails}
use Rattle.cop_room.proofs.misses.stretch_of.Goals as goal

pub unreachable-requires : goal.unreachable-requires
unreachable-requires c =
    let least = rw c.in-Some.is at c.in_ok-thousandths.ensures.exact in
    holds_or_fails c.args.rate c.args.set.now c.args.pdos c.requires c.in-Some.thousandths (rw c.in_default-2.is at c.in_ok-plan.ensures) least.holds
