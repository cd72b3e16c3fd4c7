use Rattle.std.proofs.Common.{◌<◌, ◌≤◌, length, sym, ap, ◌∙◌, subst, arith}
use Rattle.std.specs.Prelude.{slice_index, Some}
use Rattle.cop_bus.specs.Trace.{is_queue, step_at}
use Rattle.cop_bus.proofs.Places.{place-some, place-none}
use Rattle.cop_bus.proofs.judging.unsent_of.Goals as goal

pub returns-then-place-steps : goal.returns-then-place-steps
returns-then-place-steps c i h =
    let l : c.args.id < 65536 = omega (arith, c.ranges.id) in
    let e = c.from.ensures in
    let t : slice_index c.args.unsent.now c.args.id < length c.args.steps.now = subst (λ n. slice_index c.args.unsent.now n < length c.args.steps.now) e c.if-place-steps.true in
    ap (λ n. Some (step_at c.args.steps.now (slice_index c.args.unsent.now n))) e ∙ sym (place-some (is_queue c.args.id) c.args.steps.now _ (slice_index c.args.unsent.now c.args.id) (h.places c.args.id l) t)

pub returns-else-place-steps : goal.returns-else-place-steps
returns-else-place-steps c i h =
    let l : c.args.id < 65536 = omega (arith, c.ranges.id) in
    let t : length c.args.steps.now ≤ slice_index c.args.unsent.now c.args.id = subst (λ n. length c.args.steps.now ≤ slice_index c.args.unsent.now n) c.from.ensures c.if-place-steps.false in
    sym (place-none (is_queue c.args.id) c.args.steps.now _ (slice_index c.args.unsent.now c.args.id) (h.places c.args.id l) t)
