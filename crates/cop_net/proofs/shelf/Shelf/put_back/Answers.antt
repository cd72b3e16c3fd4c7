use Rattle.std.proofs.lemmas.Map.Text.{btree_map_updates_str}
use Rattle.cop_net.proofs.TextLemmas.{reading_kept, readings_unchanged}
use Rattle.cop_net.proofs.shelf.Shelf.put_back.Goals as goal

pub invariant_of-self : goal.invariant_of-self
invariant_of-self c = (c.self.invariant.0, readings_unchanged c.self.inside.kept c.insert.new.self _ c.self.invariant.1 c.in_err-insert.ensures.err)

pub invariant_of-self-2 : goal.invariant_of-self-2
invariant_of-self-2 c =
    let read = rw (← c.self.view_is, ← c.as_bytes-name.ensures.value) at c.requires in (
      c.self.invariant.0,
      reading_kept c.self.inside.kept c.insert.new.self _ c.as_bytes-name.result.now c.args.blueprint c.self.invariant.1 read
          (btree_map_updates_str c.as_bytes-name.result.now c.self.inside.kept c.insert.new.self _ c.in_ok-insert.ensures.updates),
    )
