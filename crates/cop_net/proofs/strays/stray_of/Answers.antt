use Rattle.std.proofs.Common.{◌∙◌, sym}
use Rattle.cop_net.proofs.StrayLemmas.{stray_found, stray_not, first_found, first_not}
use Rattle.cop_net.proofs.strays.stray_of.Goals as goal

pub returns-then-is_stray : goal.returns-then-is_stray
returns-then-is_stray c =
    let all = c.entries-entry-items.ensures.value in
    let lt = rw all at c.loop-entry-test.true in
    let here = rw all at c.entry-item.is in
    let passes = sym c.is_stray.ensures ∙ c.if-is_stray.true in
    record {
      any = stray_found c.args.used.now c.args.node c.args.dict.now c.loop-entry.entry-index c.entry-item.result _ c.loop-entry.invariant.sorted lt here passes (rw all at c.loop-entry.invariant.same);
      first = rw c.index.ensures (first_found c.args.used.now c.args.node c.args.dict.now c.loop-entry.entry-index c.entry-item.result _ c.loop-entry.invariant.sorted lt here passes (rw all at c.loop-entry.invariant.first));
    }

pub loop-entry-preserved : goal.loop-entry-preserved
loop-entry-preserved c =
    let all = c.entries-entry-items.ensures.value in record {
      all = all;
      sorted = c.loop-entry.invariant.sorted;
      same = rw all (stray_not c.args.used.now c.args.node c.args.dict.now c.loop-entry.entry-index c.entry-item.result _ c.loop-entry.invariant.sorted (rw all at c.loop-entry-test.true) (rw all at c.entry-item.is)
          (sym c.is_stray.ensures ∙ c.if-is_stray.false) (rw all at c.loop-entry.invariant.same));
      first = rw all (first_not c.args.used.now c.args.node c.args.dict.now c.loop-entry.entry-index c.entry-item.result _ c.loop-entry.invariant.sorted (rw all at c.loop-entry-test.true) (rw all at c.entry-item.is)
          (sym c.is_stray.ensures ∙ c.if-is_stray.false) (rw all at c.loop-entry.invariant.first));
    }
