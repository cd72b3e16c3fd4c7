use Rattle.std.proofs.Common.{◌<◌, length, ◌∙◌, arith}
use Rattle.std.proofs.lemmas.List.Elements.{All-set}
use Rattle.cop_boot.specs.Manager.{waiting_from}
use Rattle.cop_boot.specs.Member.{IsMember}
use Rattle.cop_boot.proofs.LoopLemmas.{same_whole}
use Rattle.cop_boot.proofs.manager.begin_all.Goals as goal

pub loop-member-preserved : goal.loop-member-preserved
loop-member-preserved c =
    let lt : c.loop-member.member-index < length c.loop-member.member-items = omega (arith, c.loop-member-test.true, c.loop-member.auto.member-items) in
    record {
      whole = c.loop-member.invariant.whole ∙ same_whole (waiting_from c.args.now) c.loop-member.member-items c.loop-member.member-index c.begin.new.self c.member-item.result lt c.begin.ensures.node;
      all = All-set IsMember c.loop-member.member-items c.loop-member.member-index c.begin.new.self c.begin.ensures.member c.loop-member.invariant.all;
    }
