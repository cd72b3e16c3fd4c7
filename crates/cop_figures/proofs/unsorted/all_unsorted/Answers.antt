use Rattle.std.proofs.Common.{arith}
use Rattle.std.proofs.lemmas.Grind.{common_steps}
use Rattle.std.proofs.lemmas.List.Elements.{All-push}
use Rattle.cop_figures.specs.Unsorted.{IsUnsorted}
use Rattle.cop_figures.proofs.unsorted.all_unsorted.Goals as goal

pub loop-pdo-preserved : goal.loop-pdo-preserved
loop-pdo-preserved c = record {
  flags = c.unsorted_at.ensures.flags;
  pdos = grind (arith, common_steps);
  each = rw c.in_ok-push.ensures.items (All-push (IsUnsorted c.args.rows.now c.args.plan.now) c.loop-pdo.all.items c.unsorted_at.result c.loop-pdo.invariant.each c.unsorted_at.ensures.judged);
}
