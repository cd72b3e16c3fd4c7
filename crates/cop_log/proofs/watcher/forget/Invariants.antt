use Rattle.std.proofs.Common.{◌≡◌, length}
use Rattle.cop_log.specs.Watchers.{AreOf}
use Rattle.cop_log.proofs.watcher.forget.Given as goal

abbrev pub invariant-loop-place : goal.invariant-loop-place
invariant-loop-place l = record {
  count : length l.anchors.items ≡ length l.fn.anchors.items;
  few : AreOf l.anchors.items l.fn.anchors.items;
}
