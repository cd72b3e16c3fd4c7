use Rattle.std.proofs.Common.{arith}
use Rattle.std.proofs.lemmas.Grind.{common_steps}
use Rattle.std.proofs.lemmas.List.Elements.{All-push}
use Rattle.cop_figures.specs.Figures.{IsTimed}
use Rattle.cop_figures.proofs.times.times_of.Goals as goal

pub loop-pdo-preserved : goal.loop-pdo-preserved
loop-pdo-preserved c = record {
  pdos = grind (arith, common_steps);
  each = rw c.in_ok-push.ensures.items (All-push (IsTimed c.args.plan.now) c.loop-pdo.times.items c.time_of.result c.loop-pdo.invariant.each c.time_of.ensures.timed);
}
