use Rattle.std.proofs.Common.{arith, refl}
use Rattle.cop_tidy.specs.Kept.{IsKept, AreKept}
use Rattle.cop_tidy.proofs.LoopLemmas.{one_more, all_taken}
use Rattle.cop_tidy.proofs.keeping.are_kept.Goals as goal

pub loop-entry-preserved : goal.loop-entry-preserved
loop-entry-preserved c =
    one_more (IsKept c.args.before.now c.args.after.now) c.args.before.now c.entries-entry-items.result.now c.loop-entry.entry-index c.entry-item.result
    c.entries-entry-items.ensures.value (omega (arith, c.loop-entry-test.true)) c.entry-item.is c.loop-entry.invariant (c.is_kept.ensures.0 (c.if-not-is_kept.false))

pub returns : goal.returns
unfolding AreKept
returns c = (
  λ t. all_taken (IsKept c.args.before.now c.args.after.now) c.args.before.now c.entries-entry-items.result.now c.loop-entry.entry-index
      c.entries-entry-items.ensures.value (omega (arith, c.loop-entry-test.false)) c.loop-entry.invariant,
  λ all. refl,
)
