use Rattle.std.proofs.Common.{rules, ◌∙◌, sym, arith, length-append}
use Rattle.cop_pdo.proofs.ReadingLemmas.{goes_on}
use Rattle.cop_pdo.proofs.reading.entries_in.Goals as goal

pub loop-done-preserved : goal.loop-done-preserved
loop-done-preserved c = (
  rw c.push.ensures.items (simp length-append (omega (arith, c.loop-done.invariant.0))),
  rw c.push.ensures.items (goes_on c.args.dict.now c.args.index c.loop-done.done c.args.count c.loop-done.entries.items c.in_ok-mapped.field-0 c.loop-done-test.true (sym c.in_ok-mapped.ensures))
      ∙ c.loop-done.invariant.1,
)

-- written here so that a body that breaks it is refused at once
pub loop-done-init : goal.loop-done-init
loop-done-init c = search rules
