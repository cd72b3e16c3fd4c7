use Rattle.std.proofs.Common.{refl}
use Rattle.cop_eds.specs.declared.entry.Entry.{Entry}
use Rattle.cop_eds.proofs.IndexLemmas.{complete_push, sound_push, kept_push}
use Rattle.cop_eds.proofs.index.push_entries.Goals as goal

pub loop-place-preserved : goal.loop-place-preserved
loop-place-preserved c = rw c.in_ok-push.ensures.items (record {
  sound = sound_push c.args.source.now c.args.lines.now _ c.loop-place.place _ _ c.loop-place-test.true refl c.in-Some.ensures c.loop-place.invariant.sound;
  complete = complete_push (λ (e : Entry). e.line) c.args.source.now c.args.kind c.args.lines.now _ c.loop-place.place _ refl c.loop-place.invariant.complete;
  kept = kept_push c.args.entries.now.items c.loop-place.entries.items _ c.loop-place.invariant.kept;
})
