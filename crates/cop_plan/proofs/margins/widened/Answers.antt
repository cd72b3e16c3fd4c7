use Rattle.std.proofs.Common.{◌≡◌, ℕ, length, ap, subst, arith}
use Rattle.cop_frame.specs.declared.rates.Rate.{Rate}
use Rattle.cop_cert.specs.Assignments.{IsAssignment}
use Rattle.cop_plan.specs.declared.choices.Kept.{Kept}
use Rattle.cop_plan.specs.Caps.{cap_of, capped, AreCaps, HaveLeast}
use Rattle.cop_plan.specs.Found.{ArePlannedWith}
use Rattle.cop_plan.specs.Margins.{IsOrderTo, AreKept}
use Rattle.cop_plan.proofs.MarginLemmas.{tested_before}
use Rattle.cop_plan.proofs.MarginOutcome.{kept_by_order, widened_by_none, widened_by_fillings}
use Rattle.cop_plan.proofs.margins.widened.Goals as goal

pub planned-requires-clause-tested : goal.planned-requires-clause-tested
planned-requires-clause-tested c some =
    let placing = c.in-Some.placing in
    let planned : ArePlannedWith c.in_ok-margin.field-0.margin c.rate-rate.result c.args.set.now c.args.pdos placing.lower.items placing.upper.items = rw c.in-Some.is at c.in_ok-margin.ensures.placing in
    let tested = planned.2.tested (omega (arith, some, ap length c.deref.ensures.value)) in
    (tested.0, tested_before (capped c.in_ok-margin.field-0.margin (cap_of c.rate-rate.result c.args.set.now c.args.pdos)) c.args.set.now planned.0 planned.1 c.rate-rate.result c.args.pdos tested.0 tested.1)

pub planned-requires-clause-order : goal.planned-requires-clause-order
planned-requires-clause-order c =
    let placing = c.in-Some.placing in
    let planned : ArePlannedWith c.in_ok-margin.field-0.margin c.rate-rate.result c.args.set.now c.args.pdos placing.lower.items placing.upper.items = rw c.in-Some.is at c.in_ok-margin.ensures.placing in
    rw (c.deref-in-Some.ensures.value, c.deref-in-Some-2.ensures.value) (planned.0, planned.1, planned.2.order)

pub returns-in-Some-clause-wider : goal.returns-in-Some-clause-wider
returns-in-Some-clause-wider c rates old plain =
    let made = c.planned.ensures in
    let margin = c.in_ok-margin.field-0.margin in
    let caps = c.in_ok-caps.caps.items in
    let kept : Kept = record { all = c.least_of-all.result; others = margin } in
    let rate = c.rate-rate.result in
    let are : AreCaps rate c.args.set.now c.args.pdos caps = c.in_ok-caps.ensures in
    let least : HaveLeast c.args.set.now caps margin c.least_of-all.result = rw (c.streams.ensures.items, c.deref-2.ensures.value) at c.least_of-all.ensures in
    widened_by_fillings rates c.args.set.now c.args.pdos c.args.plan old kept
    (subst (λ (rate : Rate). (ids : ℕ → ℕ) → IsAssignment c.args.pdos ids → IsOrderTo margin rate c.args.set.now c.args.pdos ids → AreKept kept rate c.args.set.now c.args.pdos ids) c.rate-rate.ensures
    (kept_by_order rate c.args.set.now c.args.pdos caps are kept least c.in_ok-margin.ensures.greatest))
    c.planned.result rate c.into_refusals.result c.rate-rate.ensures c.into_refusals.ensures made.rate made.margin made.refusals made.count made.passing made.order made.by_priority made.renamed

pub returns-clause-wider : goal.returns-clause-wider
returns-clause-wider c rates old plain =
    let keeping = c.keeping.ensures in
    let margin = c.in_ok-margin.field-0.margin in
    let caps = c.in_ok-caps.caps.items in
    let kept : Kept = record { all = c.least_of-all.result; others = margin } in
    let rate = c.rate-rate.result in
    let are : AreCaps rate c.args.set.now c.args.pdos caps = c.in_ok-caps.ensures in
    let least : HaveLeast c.args.set.now caps margin c.least_of-all.result = rw (c.streams.ensures.items, c.deref-2.ensures.value) at c.least_of-all.ensures in
    let none : margin ≡ 0 = rw c.in-None.is at c.in_ok-margin.ensures.placing in
    widened_by_none rates c.args.set.now c.args.pdos c.args.plan old kept
    (subst (λ (rate : Rate). (ids : ℕ → ℕ) → IsAssignment c.args.pdos ids → IsOrderTo margin rate c.args.set.now c.args.pdos ids → AreKept kept rate c.args.set.now c.args.pdos ids) c.rate-rate.ensures
    (kept_by_order rate c.args.set.now c.args.pdos caps are kept least c.in_ok-margin.ensures.greatest))
    c.keeping.result plain none keeping.margin keeping.rate keeping.order keeping.ids keeping.refusals keeping.streams
