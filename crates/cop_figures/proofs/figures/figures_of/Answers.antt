use Rattle.std.proofs.Common.{ℕ, ◌≤◌, length, refl, ap, Some, sym, subst, arith}
use Rattle.cop_plan.specs.Margins.{IsChosenOrder}
use Rattle.cop_plan.specs.Plans.{IsPlan, AreAllRefused}
use Rattle.cop_plan.specs.Values.{HaveIds, id_of}
use Rattle.cop_figures.proofs.BelowLemmas.{tells_why}
use Rattle.cop_figures.proofs.ReasonLemmas.{all_measured, all_tested}
use Rattle.cop_figures.proofs.figures.figures_of.Goals as goal

pub all_refused-requires : goal.all_refused-requires
all_refused-requires c =
    let is : IsPlan c.args.network.now.equipment.rates c.args.network.now.set (length c.args.network.now.rows) c.in-Planned.plan = rw c.in-Planned.is at c.requires in
    rw (c.refusals.ensures, c.set-set.ensures.set)
    (all_measured c.args.network.now.set (length c.args.network.now.rows) c.set-set.ensures.network.streams.count c.in-Planned.plan.refusals is.refused.each)

pub all_refused-requires-in-Refused : goal.all_refused-requires-in-Refused
all_refused-requires-in-Refused c =
    let is : AreAllRefused c.args.network.now.equipment.rates c.args.network.now.set (length c.args.network.now.rows) c.in-Refused.refusals = rw c.in-Refused.is at c.requires in
    rw (c.as_slice.ensures, c.set-set.ensures.set)
    (all_measured c.args.network.now.set (length c.args.network.now.rows) c.set-set.ensures.network.streams.count c.in-Refused.refusals is.refused.each)

pub returns-in_ok-all_refused-in-Planned : goal.returns-in_ok-all_refused-in-Planned
returns-in_ok-all_refused-in-Planned c =
    let is : IsPlan c.args.network.now.equipment.rates c.args.network.now.set (length c.args.network.now.rows) c.in-Planned.plan = rw c.in-Planned.is at c.requires in
    let renamed = subst (λ (n : ℕ). HaveIds c.args.network.now.set n (id_of c.in-Planned.plan.ids) c.in-Planned.plan.streams) (sym is.count) is.renamed in
    let order = subst (λ (n : ℕ). IsChosenOrder c.in-Planned.plan.margin c.in-Planned.plan.rate c.args.network.now.set n (id_of c.in-Planned.plan.ids)) (sym is.count) is.order in
    let few : length c.in-Planned.plan.ids ≤ 512 = omega (arith, is.count, c.pdos-count.ensures.count, c.pdos-count.ensures.most) in
    let frames_are = rw c.set-set.ensures.set at c.in_ok-pdos-in-Planned.ensures.frames in
    rw c.in-Planned.is (
      ap (λ r. Some r) c.rate.ensures,
      c.sync_of.ensures,
      c.in_ok-pdos-in-Planned.ensures.pdos,
      frames_are,
      tells_why c.args.network.now.set c.in-Planned.plan renamed few order _ frames_are,
      c.in_ok-loads.ensures,
      record {
        shown_are = rw (c.refusals.ensures, c.set-set.ensures.set, c.pdos-count.ensures.count) at c.in_ok-all_refused-in-Planned.ensures;
        tested = all_tested c.args.network.now.set (length c.args.network.now.rows) c.set-set.ensures.network.streams.count c.in-Planned.plan.refusals (rw (c.streams.ensures.items, c.set-set.ensures.set) at c.streams.ensures.distinct) is.refused.each;
      },
    )

pub returns-in_ok-all_refused-in-Refused : goal.returns-in_ok-all_refused-in-Refused
returns-in_ok-all_refused-in-Refused c =
    let is : AreAllRefused c.args.network.now.equipment.rates c.args.network.now.set (length c.args.network.now.rows) c.in-Refused.refusals = rw c.in-Refused.is at c.requires in
    rw c.in-Refused.is (
      refl,
      refl,
      c.new.ensures.items,
      c.new-in-Refused.ensures.items,
      c.in_ok-loads.ensures,
      record {
        shown_are = rw (c.as_slice.ensures, c.set-set.ensures.set, c.pdos-count.ensures.count) at c.in_ok-all_refused-in-Refused.ensures;
        tested = all_tested c.args.network.now.set (length c.args.network.now.rows) c.set-set.ensures.network.streams.count c.in-Refused.refusals (rw (c.streams.ensures.items, c.set-set.ensures.set) at c.streams.ensures.distinct) is.refused.each;
      },
    )
