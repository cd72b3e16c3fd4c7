use Rattle.std.specs.Prelude.{◌≡◌, true, All, []}
use Rattle.cop_log.specs.Log.{IsEvidence}
use Rattle.cop_log.specs.Watchers.{terms_of, IsKept}
use Rattle.cop_log.proofs.answers.watch.Given as goal

abbrev pub invariant-loop-place : goal.invariant-loop-place
invariant-loop-place l = record {
  terms : terms_of l.watcher ≡ record { rate = l.fn.rate; streams = l.streams; bounds = l.fn.bounds.items; clock = l.fn.clock };
  number : l.watcher.number ≡ l.place;
  kept : IsKept l.watcher l.log;
  evident : All (IsEvidence (record { rate = l.fn.rate; streams = l.streams; bounds = l.fn.bounds.items; clock = l.fn.clock }) l.log) l.found.items;
  clean : l.found.items ≡ [] → l.watcher.is_clean ≡ true;
}
