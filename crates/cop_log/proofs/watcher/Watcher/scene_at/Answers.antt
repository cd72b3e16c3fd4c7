use Rattle.std.proofs.Common.{◌∙◌, refl, sym, ap, length, get_or, None}
use Rattle.std.specs.Prelude.{slice_index_or}
use Rattle.std.proofs.lemmas.Option.{slice_get_read}
use Rattle.cop_log.specs.Watchers.{stream_at, bound_at, anchor_at}
use Rattle.cop_log.proofs.watcher.Watcher.scene_at.Goals as goal

pub returns : goal.returns
returns c =
    let w = c.args.self.now in
    let p = c.args.place in
    let x = c.index-streams-place.result in
    record {
      same_entry = refl;
      same_rate = refl;
      stream = sym (ap (stream_at w.streams.now) c.requires.its
          ∙ slice_get_read w.streams.now (length w.streams.now) p x refl c.requires.within (c.index-streams-place.is ∙ ap (λ s. get_or s p x) c.streams.ensures.items));
      bound = c.bound_at.ensures ∙ (ap (λ xs. slice_index_or xs p None) c.deref.ensures.value ∙ sym (ap (bound_at w.bounds.items) c.requires.its));
      anchor = c.anchor_at.ensures ∙ (ap (λ xs. slice_index_or xs p None) c.deref-2.ensures.value ∙ sym (ap (anchor_at w.anchors.items) c.requires.its));
      pile = refl;
      top = refl;
    }
