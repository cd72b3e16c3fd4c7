use Rattle.std.proofs.Common.{◌≡◌, ◌∙◌, refl, sym, ap, None}
use Rattle.cop_rta.specs.Streams.{place_of_id}
use Rattle.cop_log.specs.Watchers.{stream_at, bound_at, anchor_at}
use Rattle.cop_log.proofs.watcher.Watcher.scene.Goals as goal

pub returns-in-None : goal.returns-in-None
returns-in-None c =
    let w = c.args.self.now in
    let none : place_of_id w.streams.now c.args.entry.now.id ≡ None = sym c.place_of.ensures.place ∙ c.in-None.is in
    record {
      same_entry = refl;
      same_rate = refl;
      stream = sym (ap (stream_at w.streams.now) none);
      bound = sym (ap (bound_at w.bounds.items) none);
      anchor = sym (ap (anchor_at w.anchors.items) none);
      pile = refl;
      top = refl;
    }
