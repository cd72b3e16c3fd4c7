use Rattle.std.proofs.Common.{sym, subst, arith, ℕ}
use Rattle.std.proofs.lemmas.Grind.{common_steps}
use Rattle.std.proofs.lemmas.List.Elements.{All-push}
use Rattle.cop_rta.specs.Test.{place_by_id}
use Rattle.cop_figures.specs.Delays.{IsBrokenDown}
use Rattle.cop_figures.proofs.delays.break_down.Goals as goal

pub loop-time-preserved : goal.loop-time-preserved
loop-time-preserved c = record {
  flags = c.breakdown_of.ensures.flags;
  pdos = grind (arith, common_steps);
  each = rw c.in_ok-push.ensures.items (
      All-push (λ b. IsBrokenDown (place_by_id c.args.at.now.streams b.pdo c.args.at.now.rate) b) c.loop-time.parts.items c.in_ok-breakdown_of.field-0 c.loop-time.invariant.each
      (subst (λ (k : ℕ). IsBrokenDown (place_by_id c.args.at.now.streams k c.args.at.now.rate) c.in_ok-breakdown_of.field-0) (sym c.in_ok-breakdown_of.ensures.pdo) c.in_ok-breakdown_of.ensures.parts)
      );
}
