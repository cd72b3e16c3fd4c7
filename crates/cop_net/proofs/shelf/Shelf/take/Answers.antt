use Rattle.std.proofs.Common.{sym}
use Rattle.std.proofs.lemmas.Map.Text.{btree_map_updates_str}
use Rattle.cop_net.proofs.TextLemmas.{reading_taken}
use Rattle.cop_net.proofs.shelf.Shelf.take.Goals as goal

pub invariant_of-self : goal.invariant_of-self
invariant_of-self c = (
  c.self.invariant.0,
  reading_taken c.self.inside.kept c.remove.new.self _ _ c.self.invariant.1 (btree_map_updates_str c.as_bytes.result.now c.self.inside.kept c.remove.new.self _ c.in-Some.ensures.updates),
)

pub returns-in-Some-clause-read : goal.returns-in-Some-clause-read
returns-in-Some-clause-read c = rw (← c.self.view_is, ← c.as_bytes.ensures.value) (sym (c.self.invariant.1 c.as_bytes.result.now c.in-Some.blueprint (sym c.in-Some.ensures.value)))
