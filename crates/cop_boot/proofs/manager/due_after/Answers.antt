use Rattle.std.proofs.Common.{subst, arith}
use Rattle.cop_boot.specs.Member.{seen, LastsTo}
use Rattle.cop_boot.proofs.DueLemmas.{one_more_lasts}
use Rattle.cop_boot.proofs.manager.due_after.Goals as goal

pub loop-member-preserved : goal.loop-member-preserved
loop-member-preserved c =
    let inv = c.loop-member.invariant in
    record {
      soon = omega (arith, inv.soon, c.earlier-due.ensures);
      last = one_more_lasts c.args.members.now c.loop-member.member-index c.member-item.result c.loop-member.due c.lasts_to.result c.earlier-due.result (omega arith) c.earlier-due.ensures
          (subst (λ m. LastsTo c.lasts_to.result (seen m)) c.member-item.is c.lasts_to.ensures) inv.last;
    }
