use Rattle.std.proofs.Common.{⊎_elim, Contains, refl, inr}
use Rattle.cop_room.proofs.MissLemmas.{planned_is, no_member}
use Rattle.cop_room.proofs.misses.planned_at.Goals as goal

pub returns-in-Planned : goal.returns-in-Planned
returns-in-Planned c =
    planned_is c.insert.new.self c.args.rate c.args.set.now c.args.pdos c.in-Planned.plan
    (λ r member. ⊎_elim (λ (old : Contains c.new-rates.result r). absurd (no_member r (rw c.new-rates.ensures at old))) (λ same. same) ((c.insert.ensures r).0 member))
    (rw c.in-Planned.is at c.in_ok-plan.ensures.by_order) (rw c.in-Planned.is at c.in_ok-plan.ensures.outcome)

pub returns : goal.returns
returns c =
    let none = rw c.in-Refused.is at c.in_ok-plan.ensures.outcome in
    none.none c.args.rate ((c.insert.ensures c.args.rate).1 (inr refl))
