use Rattle.std.proofs.Common.{ℕ, ◌<◌, length, get_or}
use Rattle.cop_rta.specs.declared.verdicts.Verdict.TheVariants.{Long}
use Rattle.cop_rta.specs.Test.{place_by_id}
use Rattle.cop_rta.specs.Verdict.{IsJudged}
use Rattle.cop_room.proofs.MissLemmas.{tightest_if}
use Rattle.cop_room.proofs.misses.tightest.Goals as goal

pub returns : goal.returns
returns c =
    let plan = c.args.plan.now in
    let set = c.streams-set.ensures in
    let judged : (k : ℕ) → k < length plan.streams → IsJudged (place_by_id plan.streams k plan.rate) (get_or c.in_ok-verdicts.verdicts.items k Long) = rw (set.items, c.rate.ensures) at c.in_ok-verdicts.ensures.judged in
    tightest_if plan.rate plan.streams (length plan.ids) c.in_ok-verdicts.verdicts.items set.planned.count set.on_time judged c.least_left.result
    (rw (c.streams.ensures.items, set.items, c.ids-pdos.ensures.ids, c.deref.ensures.value) at c.least_left.ensures)
