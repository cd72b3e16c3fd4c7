use Rattle.std.proofs.Common.{◌≡◌, ◌-◌, suc, rules, refl, subst, sym, arith}
use Rattle.cop_bus.specs.Trace.{step_at}
use Rattle.cop_bus.specs.Tables.{IsAhead, IsNext}
use Rattle.cop_bus.proofs.Places.{ahead-end, next-end, ahead-step, unsent-start}
use Rattle.cop_bus.proofs.judging.link_all.Goals as goal

pub loop-i-init : goal.loop-i-init
loop-i-init c = record {
  within = omega arith;
  ahead = ahead-end c.args.steps.now c.in_ok-first.first.items (c.in_ok-first.ensures.items_if_clones_equal (λ y r. search rules));
  next = next-end c.args.steps.now c.in_ok-next.next.items (c.in_ok-next.ensures.items_if_clones_equal (λ y r. search rules));
}

pub loop-i-preserved : goal.loop-i-preserved
loop-i-preserved c =
    let h = c.loop-i.invariant in
    let e : c.loop-i.i ≡ suc (c.loop-i.i - 1) = omega (arith, c.loop-i-test.true) in
    let t = ahead-step c.args.steps.now (c.loop-i.i - 1) c.loop-i.first.items c.loop-i.next.items (step_at c.args.steps.now (c.loop-i.i - 1)) (omega (arith, h.within, c.loop-i-test.true)) refl c.link.ensures.fits
    (subst (λ n. IsAhead c.args.steps.now n c.loop-i.first.items) e h.ahead) (subst (λ n. IsNext c.args.steps.now n c.loop-i.next.items) e h.next) in
    record {
      within = omega (arith, h.within);
      ahead = subst (IsAhead c.args.steps.now (c.loop-i.i - 1)) (sym c.link.ensures.ahead) t.0;
      next = subst (IsNext c.args.steps.now (c.loop-i.i - 1)) (sym c.link.ensures.next) t.1;
    }

pub returns-clause-first : goal.returns-clause-first
returns-clause-first c =
    let e : c.loop-i.i ≡ 0 = omega (arith, c.loop-i-test.false) in
    unsent-start c.args.steps.now c.loop-i.first.items (subst (λ n. IsAhead c.args.steps.now n c.loop-i.first.items) e c.loop-i.invariant.ahead)

pub returns-clause-next : goal.returns-clause-next
returns-clause-next c =
    let e : c.loop-i.i ≡ 0 = omega (arith, c.loop-i-test.false) in
    subst (λ n. IsNext c.args.steps.now n c.loop-i.next.items) e c.loop-i.invariant.next
