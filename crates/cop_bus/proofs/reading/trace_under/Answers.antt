use Rattle.std.proofs.Common.{◌∙◌, Ok, ap, length, sym, subst, arith}
use Rattle.cop_bus.specs.Reading.{told, refused_at}
use Rattle.cop_table.specs.Reading.{Gives}
use Rattle.cop_bus.proofs.TraceLemmas.{goes_on, stops, fails, nothing_left}
use Rattle.cop_bus.proofs.reading.trace_under.Goals as goal

pub returns-in-Ok-Until : goal.returns-in-Ok-Until
returns-in-Ok-Until c =
    let next = rw c.if-branch.true at c.in_ok-read.ensures.next in
    subst (Gives told refused_at c.ended.result) (stops c.rows.place c.rows.steps.items _ c.read.new.self c.rows.rows _ c.in-Ok-Until.until next (sym c.in-Ok-Until.ensures ∙ ap Ok c.in-Ok-Until.field-0-is) c.rows.invariant.same) c.ended.ensures

pub returns-in-Err : goal.returns-in-Err
returns-in-Err c =
    let next = rw c.if-branch.true at c.in_ok-read.ensures.next in
    rw c.refused.ensures (fails c.rows.place c.rows.steps.items _ c.read.new.self c.rows.rows _ c.in-Err.field-0 next (sym c.in-Err.ensures) c.rows.invariant.same)

pub overflow_add-place-2 : goal.overflow_add-place-2
overflow_add-place-2 c = omega (arith, c.rows.invariant.small)

pub rows-preserved : goal.rows-preserved
rows-preserved c =
    let next = rw c.if-branch.true at c.in_ok-read.ensures.next in
    let long = ap length next in
    record {
      small = omega (arith, long, c.rows.invariant.small);
      same = rw c.in_ok-push-in-Ok-Taken.ensures
          (goes_on c.rows.place c.rows.steps.items _ c.read.new.self c.rows.rows _ c.in-Ok-Taken.step next (sym c.in-Ok-Taken.ensures ∙ ap Ok c.in-Ok-Taken.field-0-is) c.rows.invariant.same);
    }

pub returns : goal.returns
returns c =
    let next = rw c.if-branch.false at c.in_ok-read.ensures.next in
    rw c.refused-2.ensures (nothing_left c.rows.place c.rows.steps.items c.rows.rows _ next.0 c.rows.invariant.same)
