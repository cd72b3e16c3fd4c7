use Rattle.std.proofs.Common.{◌<◌, ◌+◌, length, subst, arith, map, take, drop}
use Rattle.std.proofs.lemmas.List.Elements.{All-set}
use Rattle.cop_boot.specs.Member.{seen, IsMember}
use Rattle.cop_boot.proofs.LoopLemmas.{Waits, wait_step, still_so, set_same}
use Rattle.cop_boot.proofs.manager.wait_first.Goals as goal
use Rattle.cop_boot.proofs.manager.wait_first.Goals.{in-None, in-Some}

pub loop-member-preserved : goal.loop-member-preserved
loop-member-preserved c =
    let lt : c.loop-member.member-index < length c.loop-member.member-items = omega (arith, c.loop-member-test.true, c.loop-member.auto.member-items) in
    elim c.match-sent.branch [
      | in-None w ↦
          let none = subst (λ o. Waits c.args.now (map seen c.deref_mut-member-items.result.now) o (map seen (take c.loop-member.member-index c.loop-member.member-items)) (map seen (drop c.loop-member.member-index c.loop-member.member-items)))
          w.in-None.is c.loop-member.invariant.waits in
          rw (w.sent-is, w.member-items-is)
          (record {
            waits = wait_step c.args.now (map seen c.deref_mut-member-items.result.now) w.wait-sent.result c.loop-member.member-items c.loop-member.member-index w.wait-sent.new.self c.member-item.result lt w.wait-sent.ensures.moves none;
            all = All-set IsMember c.loop-member.member-items c.loop-member.member-index w.wait-sent.new.self w.wait-sent.ensures.member c.loop-member.invariant.all;
          })
      | in-Some w ↦
          rw (w.sent-is, w.member-items-is, set_same c.loop-member.member-items c.loop-member.member-index c.member-item.result)
          (record {
            waits = still_so c.args.now (map seen c.deref_mut-member-items.result.now) c.loop-member.sent _ c.loop-member.member-items c.loop-member.member-index (c.loop-member.member-index + 1) w.in-Some.is c.loop-member.invariant.waits;
            all = c.loop-member.invariant.all;
          })
    ]
