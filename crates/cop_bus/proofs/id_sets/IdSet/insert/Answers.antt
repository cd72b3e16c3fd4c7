use Rattle.std.proofs.Common.{sym, ◌∙◌, arith, length, ◌≡◌}
use Rattle.std.proofs.lemmas.Bool.{lt-ltb}
use Rattle.cop_bus.proofs.IdSetLemmas.{used_again, held_some}
use Rattle.cop_bus.proofs.id_sets.IdSet.insert.Goals as goal

pub invariant_of-self : goal.invariant_of-self
invariant_of-self c =
    used_again c.self.inside.words.items c.self.inside.used.items c.from-id.result c.self.invariant c.set_bit.new.words.items c.set_bit-2.new.words.items c.set_bit.ensures.count c.set_bit-2.ensures.count c.set_bit.ensures.apart c.set_bit-2.ensures.others
    (c.set_bit-2.ensures.here ∙ sym (lt-ltb 0 _ (held_some c.set_bit.new.words.items c.from-id.result c.set_bit.ensures.here)))
