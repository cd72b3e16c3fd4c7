use Rattle.cop_log.specs.Watchers.{terms_of}
use Rattle.cop_log.proofs.Restarted.{restarted}
use Rattle.cop_log.proofs.watcher.Watcher.restart.Goals as goal

pub returns-clause-kept : goal.returns-clause-kept
returns-clause-kept c log w =
    let before = c.args.self.now in
    restarted (terms_of before) log before.number before.anchors.items c.forget.new.anchors.items before.pile before.is_clean c.forget.ensures.count c.forget.ensures.few w
