use Rattle.std.proofs.Common.{refl}
use Rattle.cop_logbook.proofs.logbook.Logbook.tell.Goals as goal

pub returns : goal.returns
returns c = record {
  log = refl;
  watcher = refl;
  frames = refl;
  kept = λ t log all shown h.
      c.in_ok-note-4.ensures t log _ shown.crowded
      (c.in_ok-note-3.ensures t log _ shown.soon
      (c.in_ok-note-2.ensures t log _ shown.named
      (c.in_ok-note.ensures t log all shown.fallen h)));
}
